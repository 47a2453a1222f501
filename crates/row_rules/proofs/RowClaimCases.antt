-- Lists of calls on one lent row: what they must not be, what the claim must not hold of, and what it holds of. Assumes nothing.
use mathlib.Core.Path.{◌≡◌, refl, ap}
use mathlib.Core.List.{List, [], ◌∷◌, ◌++◌}
use Prim.Native.Nat.{ℕ, ◌-◌}
use native.Mathlib.Omega.{arith}
use lib.ListN.{get_or, replicate}
use Rattle.base_laws.proofs.Stages.{◌also◌}
use Rattle.heap_rules.specs.declared.Superblock.{Superblock}
use Rattle.heap_rules.specs.declared.Setup.{Setup}
use Rattle.heap_rules.specs.Table.{unused}
use Rattle.heap_rules.proofs.TableCases.{of}
use Rattle.check_rules.specs.Check.{within_limits}
use Rattle.call_rules.specs.declared.Outcome.{Outcome}
use Rattle.call_rules.specs.declared.Outcome.TheVariants.{Ready, Moves, Refused}
use Rattle.call_rules.specs.Answers.{number_of}
use Rattle.call_rules.specs.Calls.{Call, Take, Free}
use Rattle.claim_rules.specs.Ledger.{Entry, ledger_after}
use Rattle.claim_rules.specs.Claim.{peak_with, Claims}
use Rattle.claim_rules.proofs.LedgerDefinitions.{claim_definitions}
use Rattle.claim_rules.proofs.ClaimCases.{u, each_class_le_by_test, not_le_by_test, Moves_injective, Moves_not_Refused}
use Rattle.row_rules.specs.declared.Control.{Control}
use Rattle.row_rules.specs.Row.{RowAfter, call_on, row_call}
use Rattle.row_rules.specs.RowClaim.{RowStep, RowLinked, as_after, step_of, RowClaims}
use Rattle.row_rules.proofs.LoadStoreCases.{load_of_64, load_of_63_is_unused, load_of_65_is_unused, store_of_accepted, store_of_refused}
use Rattle.row_rules.proofs.LoadStoreCases.{store_of_63_keeps_row, store_of_65_keeps_row}
use Rattle.row_rules.proofs.RecordsAfterCases.{first_two_records_replaced, all_records_replaced}
use Rattle.row_rules.proofs.RowCases.{zero_totals, example_setup, example_totals, name_6_held, no_name_held, control_with, example_control}
use Rattle.row_rules.proofs.RowCases.{ranked_superblock, invalid_superblock, storage_of_258, row_after_lem, refused_before, refused_step}
use Rattle.row_rules.proofs.RowCases.{row_setup_cases_are_computed, row_call_cases_are_computed, call_on_64_is_computed, refused_calls_linked}
use Rattle.row_rules.proofs.RowCases.{another_row_not_linked, other_storage_not_linked, other_ranks_not_linked, other_names_not_linked}
use Rattle.row_rules.proofs.RowCases.{other_totals_not_linked}

-- ---- a row read as a state's table: outcome, setup numbers, names, totals, row and storage, each in its place
pub as_after_case :
    as_after (row_after_lem (Refused 7) example_control (invalid_superblock ∷ ranked_superblock ∷ []) (8 ∷ 9 ∷ []))
    ≡ record {
      answer = record {
        outcome = Refused 7;
        state = record { setup = example_setup; table = invalid_superblock ∷ ranked_superblock ∷ []; names = name_6_held; totals = example_totals };
      };
      order = 8 ∷ 9 ∷ [];
    }
as_after_case = refl

pub step_of_case :
    step_of (record { call = Free 3 10; after = row_after_lem (Moves 7) example_control (ranked_superblock ∷ []) (8 ∷ 9 ∷ []) })
    ≡ record {
      call = Free 3 10;
      after = as_after (row_after_lem (Moves 7) example_control (ranked_superblock ∷ []) (8 ∷ 9 ∷ []));
    }
step_of_case = refl

-- ---- the second call of a list, after one that is refused 13, left other setup numbers, another row, another storage or another outcome
abbrev pub ends_with : Outcome → Control → List Superblock → List ℕ → List RowStep
ends_with outcome control row order =
    refused_step (Take 2 2048) example_control (replicate 63 ranked_superblock) ∷ record { call = Free 1 0; after = row_after_lem outcome control row order } ∷
    []

abbrev pub other_control : Control
other_control = control_with (record { processors = 2; superblocks = 1; spare = 6; p = 4; q = 5 }) name_6_held example_totals

pub second_call_not_linked :
    (RowLinked refused_before (ends_with (Refused 13) other_control (replicate 63 ranked_superblock) storage_of_258) → ⊥)
    × (RowLinked refused_before (ends_with (Refused 13) example_control (replicate 63 invalid_superblock) storage_of_258) → ⊥)
    × (RowLinked refused_before (ends_with (Refused 13) example_control (replicate 63 ranked_superblock) (replicate 258 9)) → ⊥)
    × (RowLinked refused_before (ends_with (Refused 12) example_control (replicate 63 ranked_superblock) storage_of_258) → ⊥)
unfolding RowLinked call_on within_limits number_of
second_call_not_linked = (
  λ k. let z : ◌≡◌ {A = ℕ} 6 3 = ap (λ (x : RowAfter). x.control.setup.spare) k.1.0 in omega arith,
  λ k. let z : ◌≡◌ {A = ℕ} 99 255 = ap (λ (x : RowAfter). (get_or x.row 0 unused).owner) k.1.0 in omega arith,
  λ k. let z : ◌≡◌ {A = ℕ} 9 7 = ap (λ (x : RowAfter). get_or x.order 0 1) k.1.0 in omega arith,
  λ k. let z : ◌≡◌ {A = ℕ} 12 13 = ap (λ (x : RowAfter). number_of x.outcome) k.1.0 in omega arith,
)

-- "Each gets the state that the one before it returned and the storage as that one left it": the second and the third call of any three
pub row_linked_hands_on : (before : RowAfter) (a b c : RowStep) → RowLinked before (a ∷ b ∷ c ∷ [])
    → (a.after ≡ row_call before.control before.row before.order a.call)
    × (b.after ≡ row_call a.after.control a.after.row a.after.order b.call)
    × (c.after ≡ row_call b.after.control b.after.row b.after.order c.call)
unfolding RowLinked
row_linked_hands_on before a b c k = (k.0, k.1.0, k.1.1.0)

-- the claim of a list is also that of the calls after its first one, whatever they are, from the row, the ledger and M that it left
pub row_claims_go_on : (v : Setup) (before : RowAfter) (ledger : List Entry) (peak : ℕ → ℕ) (a : RowStep) (steps : List RowStep)
    → RowClaims v before ledger peak (a ∷ steps)
    → (let then = ledger_after ledger a.call a.after.outcome in RowClaims v a.after then (peak_with peak then) steps)
unfolding Claims
row_claims_go_on v before ledger peak a steps k = k.2

-- ---- the claim, with P = 2, K = 5 and p/q = 3/7: a row of so many superblocks of class 26, of heap h, and no other
abbrev pub row_of : ℕ → ℕ → List Superblock
row_of h k = replicate k (of h 26 0) ++ replicate (64 - k) unused

abbrev pub left : Outcome → List Superblock → RowAfter
left outcome row = row_after_lem outcome (control_with u no_name_held zero_totals) row []

abbrev pub row_step : Call → Outcome → List Superblock → RowStep
row_step call outcome row = record { call = call; after = left outcome row }

-- a refused take, a free and a refused take
abbrev pub three_calls : Outcome → List Superblock → List Superblock → List Superblock → List RowStep
three_calls outcome a b c = row_step (Take 2 9) (Refused 4) a ∷ row_step (Free 1 9) outcome b ∷ row_step (Take 2 8) (Refused 4) c ∷ []

-- nothing is live, and P × K = 10 superblocks are within the bound: not 11 before the list, after the second of three calls or after the last
pub row_bound_exceeded :
    (RowClaims u (left Ready (row_of 0 11)) [] (λ c. 0) [] → ⊥)
    × (RowClaims u (left Ready (row_of 0 10)) [] (λ c. 0) (three_calls (Refused 2) (row_of 0 10) (row_of 0 11) (row_of 0 10)) → ⊥)
    × (RowClaims u (left Ready (row_of 0 10)) [] (λ c. 0) (three_calls (Refused 2) (row_of 0 10) (row_of 0 10) (row_of 0 11)) → ⊥)
unfolding claim_definitions
row_bound_exceeded = (
  λ k. not_le_by_test (k 26 (omega arith)) refl,
  λ k. not_le_by_test (k.2.2.0 26 (omega arith)) refl,
  λ k. not_le_by_test (k.2.2.2 26 (omega arith)) refl,
)

-- a free, the second of three calls, passes a superblock to heap 0 and reports none; or reports one, and none has passed
pub row_owner_change_unreported :
    (RowClaims u (left Ready (row_of 2 1)) [] (λ c. 0) (three_calls (Moves 0) (row_of 2 1) (row_of 0 1) (row_of 0 1)) → ⊥)
    × (RowClaims u (left Ready (row_of 2 1)) [] (λ c. 0) (three_calls (Moves 1) (row_of 2 1) (row_of 2 1) (row_of 2 1)) → ⊥)
unfolding claim_definitions
row_owner_change_unreported =
    (λ k. let z : ◌≡◌ {A = ℕ} 1 0 = k.2.1.1 0 refl in omega arith, λ k. let z : ◌≡◌ {A = ℕ} 0 1 = k.2.1.1 1 refl in omega arith)

-- ---- what it holds of takes longer, and is computed where all cases of the crate hold
unfoldable row_cases_hold : Unit {0}
row_cases_hold =
    row_setup_cases_are_computed also row_call_cases_are_computed also call_on_64_is_computed also refused_calls_linked also another_row_not_linked
    also other_storage_not_linked also other_ranks_not_linked also other_names_not_linked also other_totals_not_linked also load_of_64
    also load_of_63_is_unused also load_of_65_is_unused also store_of_accepted also store_of_refused also store_of_63_keeps_row
    also store_of_65_keeps_row also first_two_records_replaced also all_records_replaced also as_after_case also step_of_case
    also second_call_not_linked also row_linked_hands_on also row_claims_go_on also row_bound_exceeded also row_owner_change_unreported also tt

-- ten superblocks, of which a free passes one to heap 0, and reports it
pub row_claims_hold :
    RowClaims u (left Ready (row_of 2 10)) [] (λ c. 0) (row_step (Free 1 9) (Moves 1) (of 0 26 0 ∷ replicate 9 (of 2 26 0) ++ replicate 54 unused) ∷ [])
unfolding row_cases_hold claim_definitions
row_claims_hold =
    (each_class_le_by_test _ _ refl, (omega arith, λ m e. Moves_injective e, λ r e. absurd (Moves_not_Refused e), λ e. refl), each_class_le_by_test _ _ refl)
