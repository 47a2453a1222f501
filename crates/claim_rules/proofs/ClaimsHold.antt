-- What the claims over lists of calls hold of: computed where all that they must not hold of is refused. Assumes nothing.
use mathlib.Core.Path.{◌≡◌, refl, sym, ap, ◌∙◌}
use mathlib.Core.Bool.{Bool, true, false, not}
use mathlib.Core.List.{List, [], ◌∷◌}
use Prim.Native.Nat.{ℕ, zero, suc, ◌*◌, ◌<◌}
use native.Mathlib.Omega.{arith}
use lib.ListN.{replicate}
use lib.Dec.{T, T_not, eqb, eqb→eq}
use borrow.Author.Tests.{ne_eqb}
use Rattle.base_laws.proofs.Stages.{◌also◌}
use Rattle.base_laws.specs.Sums.{both, either, sum_below, all_below}
use Rattle.base_laws.proofs.TestLaws.{T_of_true, not_T_of_false, true_not_false, both_false_right, either_right_of_left_false}
use Rattle.base_laws.proofs.SumLaws.{all_at}
use Rattle.class_rules.specs.Classes.{run_length}
use Rattle.names_rules.specs.Names.{is_name, is_held}
use Rattle.heap_rules.specs.declared.Setup.{Setup}
use Rattle.heap_rules.specs.declared.State.{State}
use Rattle.heap_rules.specs.Table.{superblock_at, unused, is_of_run, run_part}
use Rattle.heap_rules.specs.Runs.{InRun, RunAt}
use Rattle.heap_rules.specs.Totals.{live_kept}
use Rattle.heap_rules.proofs.TableCases.{of}
use Rattle.heap_rules.proofs.TotalsCountedCases.{state_counted}
use Rattle.heap_rules.proofs.TotalsCases.{totals_counted_holds}
use Rattle.heap_rules.proofs.RunAtCases.{table_state, run_at_by_test}
use Rattle.call_rules.specs.Answers.{After}
use Rattle.call_rules.specs.Named.{held_address}
use Rattle.call_rules.specs.Calls.{call_of}
use Rattle.claim_rules.specs.Ledger.{Entry, named, unnamed, is_at, has_name, some_entry, entries_at, ledger_after}
use Rattle.claim_rules.specs.Claim.{Step, Linked, Along, Bounded, CallOwnerChanges, peak_with, Claims}
use Rattle.claim_rules.specs.NamesClaim.{holds_address, NamesAgree}
use Rattle.claim_rules.specs.LongBlocksClaim.{LongBlocksAgree}
use Rattle.claim_rules.proofs.LedgerDefinitions.{entry, ledger_definitions}
use Rattle.claim_rules.proofs.AlongCases.{three_calls, SpareIsLiveAlong}
use Rattle.claim_rules.proofs.TotalsClaimCases.{CountedOver, state_live, LiveOver}
use Rattle.claim_rules.proofs.NamesClaimCases.{name_1, no_name, names_definitions, NamesOver}
use Rattle.claim_rules.proofs.LongBlocksClaimCases.{no_run}
use Rattle.claim_rules.proofs.ClaimCases.{quick_claims_hold, bound_holds_beside_runs}

-- all other cases, the last of which cites those before it
unfoldable others_hold : Unit {0}
others_hold = quick_claims_hold also bound_holds_beside_runs also tt

-- ---- lists of any length: what is claimed of a list is claimed of its first call, and of the calls after it from what that one left
pub linked_goes_on : (before : After) (a : Step) (steps : List Step) → Linked before (a ∷ steps)
    → (a.after ≡ call_of before.answer.state before.order a.call) × Linked a.after steps
unfolding others_hold Linked
linked_goes_on before a steps k = k

pub along_goes_on : (P : State → List Entry → Type 0) (before : After) (ledger : List Entry) (a : Step) (steps : List Step)
    → Along P before ledger (a ∷ steps)
    → P before.answer.state ledger × Along P a.after (ledger_after ledger a.call a.after.answer.outcome) steps
unfolding others_hold Along
along_goes_on P before ledger a steps k = k

pub claims_go_on : (u : Setup) (before : After) (ledger : List Entry) (peak : ℕ → ℕ) (a : Step) (steps : List Step)
    → Claims u before ledger peak (a ∷ steps)
    → (let then = ledger_after ledger a.call a.after.answer.outcome in Bounded u before.answer.state peak
    × CallOwnerChanges u.q ledger before.answer.state a.after.answer.state a.call a.after.answer.outcome
    × Claims u a.after then (peak_with peak then) steps)
unfolding others_hold Claims
claims_go_on u before ledger peak a steps k = k

-- ---- along a list: the claim that K is the number of live blocks of class 23, with 1, 2, 2 and 1, and of no call with 1
pub along_holds_lem : SpareIsLiveAlong 1 (three_calls 2 2 1) × SpareIsLiveAlong 1 []
unfolding others_hold Along ledger_definitions
along_holds_lem = ((refl, (refl, (refl, refl))), refl)

-- ---- totals
pub totals_counted_over_holds : CountedOver state_counted state_counted state_counted state_counted
unfolding others_hold Along
totals_counted_over_holds = (totals_counted_holds, (totals_counted_holds, (totals_counted_holds, totals_counted_holds)))

-- by the test of each class
pub each_class_equal_by_test : (f g : ℕ → ℕ) → all_below (λ c. eqb (f c) (g c)) 27 ≡ true → (c : ℕ) → c < 27 → f c ≡ g c
unfolding others_hold
each_class_equal_by_test f g e c l = eqb→eq (f c) (g c) (all_at (λ d. eqb (f d) (g d)) 27 (T_of_true _ e) c l)

-- what heap 3 keeps is not looked at
pub live_totals_agree_holds : LiveOver (state_live 0 2 1 0) (state_live 1 2 1 0) (state_live 1 2 1 7) (state_live 1 2 0 0)
unfolding Along live_kept sum_below all_below ledger_definitions
live_totals_agree_holds =
    (each_class_equal_by_test _ _ refl, (each_class_equal_by_test _ _ refl, (each_class_equal_by_test _ _ refl, each_class_equal_by_test _ _ refl)))

-- ---- names: beside the block of name 1 one without a name
name_1_alone_is_held : (m : ℕ) → is_held (65535 ∷ 257 ∷ []) (suc (suc m)) ≡ false
unfolding others_hold names_definitions
name_1_alone_is_held m = both_false_right (is_name (suc (suc m)))

no_address_of_others : (m a : ℕ) → holds_address name_1 (suc (suc m)) a ≡ false
unfolding names_definitions
no_address_of_others m a = ap (λ (b : Bool). both b (eqb a (held_address name_1 (suc (suc m))))) (name_1_alone_is_held m)

names_of_block_1 : (m : ℕ) → has_name m (entry 6144 2048 (named 1)) ≡ holds_address name_1 m 6144
unfolding names_definitions
names_of_block_1 zero = refl
names_of_block_1 (suc zero) = refl
names_of_block_1 (suc (suc m)) = ne_eqb 1 (suc (suc m)) (λ e. omega arith) ∙ sym (no_address_of_others m 6144)

names_of_other_block : (m : ℕ) → has_name m (entry 4096 1800 unnamed) ≡ holds_address name_1 m 4096
unfolding names_definitions
names_of_other_block zero = refl
names_of_other_block (suc zero) = refl
names_of_other_block (suc (suc m)) = sym (no_address_of_others m 4096)

held_names_in_ledger : (m : ℕ) → T (is_held (65535 ∷ 257 ∷ []) m)
    → T (some_entry (λ e. both (has_name m e) (is_at (held_address name_1 m) e)) (entry 6144 2048 (named 1) ∷ entry 4096 1800 unnamed ∷ []))
unfolding names_definitions
held_names_in_ledger zero t = absurd t
held_names_in_ledger (suc zero) t = tt
held_names_in_ledger (suc (suc m)) t = absurd (not_T_of_false _ (name_1_alone_is_held m) t)

names_of_unnamed : (m : ℕ) → has_name m (entry 4096 1800 unnamed) ≡ holds_address no_name m 4096
unfolding others_hold names_definitions
names_of_unnamed m = sym (ap (λ (b : Bool). both b (eqb 4096 (held_address no_name m))) (both_false_right (is_name m)))

one_name_agrees : NamesAgree name_1 (entry 6144 2048 (named 1) ∷ entry 4096 1800 unnamed ∷ [])
unfolding names_definitions
one_name_agrees = record { entries = (names_of_block_1, (names_of_other_block, tt)); held = held_names_in_ledger }

no_name_agrees : NamesAgree no_name (entry 4096 1800 unnamed ∷ [])
unfolding names_definitions
no_name_agrees = record { entries = (names_of_unnamed, tt); held = λ m t. absurd (not_T_of_false _ (both_false_right (is_name m)) t) }

pub names_agree_over_holds : NamesOver no_name name_1 name_1 no_name
unfolding Along names_definitions
names_agree_over_holds = (no_name_agrees, (one_name_agrees, (one_name_agrees, no_name_agrees)))

-- ---- long blocks
runs_by_test : (s : State) (ledger : List Entry)
    → all_below (λ k. either (eqb (superblock_at s k).run 0) (eqb (entries_at ledger (k * 4096) 27) 1)) 64 ≡ true
    → (k n : ℕ) → RunAt s k n → entries_at ledger (k * 4096) 27 ≡ 1
unfolding others_hold
runs_by_test s ledger e k n r =
    let some = r.some in
    let fits = r.in_table in
    let length = r.length_is in
    let t = all_at (λ m. either (eqb (superblock_at s m).run 0) (eqb (entries_at ledger (m * 4096) 27) 1)) 64 (T_of_true _ e) k (omega arith) in
    let some-length = ne_eqb (superblock_at s k).run 0 (λ z. omega arith) in
    let u = either_right_of_left_false (eqb (superblock_at s k).run 0) (eqb (entries_at ledger (k * 4096) 27) 1) t some-length in
    eqb→eq (entries_at ledger (k * 4096) 27) 1 u

-- a block of 2048 bytes is no long one: no run is asked of it, wherever it is
pub block_of_2048_holds : LongBlocksAgree no_run (entry 4112 2048 unnamed ∷ [])
unfolding is_of_run all_below ledger_definitions
block_of_2048_holds =
    record {
      entries = (λ l. absurd (omega arith), tt);
      runs = runs_by_test no_run (entry 4112 2048 unnamed ∷ []) refl;
      parts = λ m l e.
          let t = all_at (λ j. not (is_of_run (superblock_at no_run j))) 64 (T_of_true _ refl) m l in
          absurd (T_not (is_of_run (superblock_at no_run m)) t (T_of_true _ e));
    }

-- two runs, of two superblocks and of one, and a superblock of class 26 between them
abbrev pub two_runs : State
two_runs = table_state (run_part 2 ∷ run_part 0 ∷ of 1 26 1 ∷ run_part 1 ∷ replicate 60 unused)

abbrev pub two_blocks : List Entry
two_blocks = entry 0 8192 unnamed ∷ entry 12288 2049 (named 3) ∷ entry 8192 2048 unnamed ∷ []

run_from_0 : RunAt two_runs 0 2
unfolding others_hold is_of_run all_below
run_from_0 = run_at_by_test _ 0 2 refl (omega arith) (omega arith) (omega arith) refl refl

run_from_3 : RunAt two_runs 3 1
unfolding others_hold is_of_run all_below
run_from_3 = run_at_by_test _ 3 1 refl (omega arith) (omega arith) (omega arith) refl refl

parts_of_two_runs : (m : ℕ) → m < 64 → is_of_run (superblock_at two_runs m) ≡ true
    → (k : ℕ) × RunAt two_runs k (superblock_at two_runs k).run × InRun k (superblock_at two_runs k).run m
unfolding is_of_run all_below
parts_of_two_runs zero l e = (0, run_from_0, (omega arith, omega arith))
parts_of_two_runs (suc zero) l e = (0, run_from_0, (omega arith, omega arith))
parts_of_two_runs (suc (suc zero)) l e = absurd (true_not_false false e refl)
parts_of_two_runs (suc (suc (suc zero))) l e = (3, run_from_3, (omega arith, omega arith))
parts_of_two_runs (suc (suc (suc (suc m)))) l e =
    let t = all_at (λ j. not (is_of_run (superblock_at two_runs (suc (suc (suc (suc j))))))) 60 (T_of_true _ refl) m (omega arith) in
    absurd (T_not (is_of_run (superblock_at two_runs (suc (suc (suc (suc m)))))) t (T_of_true _ e))

pub two_runs_hold : LongBlocksAgree two_runs two_blocks
unfolding run_length is_of_run all_below ledger_definitions
two_runs_hold =
    record {
      entries = (λ l. (refl, run_from_0), (λ l. (refl, run_from_3), (λ l. absurd (omega arith), tt)));
      runs = runs_by_test two_runs two_blocks refl;
      parts = parts_of_two_runs;
    }
