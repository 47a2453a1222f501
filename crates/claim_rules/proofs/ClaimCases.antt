-- The claim of demand 3 at its limits: what it must not hold of, and what it holds of, just so far; the states need not be what calls left. Assumes nothing.
use mathlib.Core.Path.{◌≡◌, refl, ap}
use mathlib.Core.Bool.{true, false}
use mathlib.Core.List.{List, [], ◌∷◌, ◌++◌, map}
use Prim.Native.Nat.{ℕ, ◌-◌, ◌≤◌, ◌<◌}
use native.Mathlib.Omega.{arith}
use lib.ListN.{get_or, replicate}
use lib.Dec.{leb, leb→le}
use borrow.Author.Tests.{le-leb}
use Rattle.base_laws.proofs.Stages.{◌also◌}
use Rattle.base_laws.specs.Sums.{sum_below, all_below}
use Rattle.base_laws.proofs.TestLaws.{T_of_true, true_not_false}
use Rattle.base_laws.proofs.SumLaws.{all_at}
use Rattle.class_rules.specs.Classes.{counts, blocks_of}
use Rattle.heap_rules.specs.declared.Setup.{Setup}
use Rattle.heap_rules.specs.declared.State.{State}
use Rattle.heap_rules.specs.Table.{unused, is_of_heap, run_part}
use Rattle.heap_rules.specs.Counts.{total, is_owned_of_class, superblocks_of_class, owners_changed, passed_between_heaps}
use Rattle.heap_rules.proofs.CaseStates.{unnamed_state}
use Rattle.heap_rules.proofs.TableCases.{of}
use Rattle.check_rules.specs.Check.{within_limits}
use Rattle.call_rules.specs.declared.Outcome.TheVariants.{Ready, Address, Moves, Refused}
use Rattle.call_rules.specs.Answers.{After, number_of, checked}
use Rattle.call_rules.specs.Take.{take_of}
use Rattle.call_rules.specs.Free.{free_of}
use Rattle.call_rules.specs.Calls.{Call, Take, Free, NamedTake, NamedFree, Drop, call_of}
use Rattle.claim_rules.specs.Ledger.{named, unnamed, Entry, ledger_after, entries_of}
use Rattle.claim_rules.specs.Claim.{Step, Linked, Bounded, frees_run, OwnerChanges, peak_with, Claims}
use Rattle.claim_rules.proofs.LedgerDefinitions.{entry, ledger_definitions}
use Rattle.claim_rules.proofs.CaseSteps.{after_with, step_with}
use Rattle.claim_rules.proofs.AlongCases.{along_holds}
use Rattle.claim_rules.proofs.TotalsClaimCases.{totals_claim_holds}
use Rattle.claim_rules.proofs.NamesClaimCases.{names_claim_holds}
use Rattle.claim_rules.proofs.NamesHoldCases.{names_hold_cases_hold}
use Rattle.claim_rules.proofs.LongBlocksClaimCases.{long_blocks_claim_holds}
use Rattle.claim_rules.proofs.HistoryCases.{history_holds}

-- ---- the ledger: blocks of sizes 1100, 384 and 1280, so of classes 23, 16 and 23; the second was taken by name 7, the third by name 9
abbrev pub three_entries : List Entry
three_entries = entry 4096 1100 unnamed ∷ entry 768 384 (named 7) ∷ entry 9472 1280 (named 9) ∷ []

-- the blocks of a class, not those of a size or at an address
pub entries_of_cases : map (λ (c : ℕ). entries_of c three_entries) (23 ∷ 16 ∷ 0 ∷ 384 ∷ 768 ∷ []) ≡ 2 ∷ 1 ∷ 0 ∷ 0 ∷ 0 ∷ []
unfolding ledger_definitions
entries_of_cases = refl

-- an accepted take of size 1100 adds the address that it answered, with its size, and one of size 0 too; a named one adds its name beside; a refused
-- one adds nothing
pub ledger_after_take_cases :
    ledger_after three_entries (Take 2 1100) (Address 16) ∷ ledger_after three_entries (Take 2 0) (Address 48) ∷ ledger_after three_entries (Take 2 1100)
    (Refused 4)
    ∷ ledger_after three_entries (NamedTake 2 5 1100) (Address 16) ∷ ledger_after three_entries (NamedTake 2 5 1100) (Refused 14) ∷ []
    ≡ (entry 16 1100 unnamed ∷ three_entries) ∷ (entry 48 0 unnamed ∷ three_entries) ∷ three_entries ∷ (entry 16 1100 (named 5) ∷ three_entries)
    ∷ three_entries ∷ []
unfolding ledger_definitions
ledger_after_take_cases = refl

-- a size of 0 is a live block of class 0
pub entries_of_size_0_case : entries_of 0 (ledger_after three_entries (NamedTake 2 5 0) (Address 48)) ≡ 1
unfolding ledger_definitions
entries_of_size_0_case = refl

-- an accepted free removes the address that it freed, whatever it moved; a refused one removes nothing
pub ledger_after_free_cases :
    ledger_after three_entries (Free 2 768) (Moves 0) ∷ ledger_after three_entries (Free 2 768) (Moves 4096) ∷ ledger_after three_entries (Free 1 4096)
    (Refused 7) ∷ ledger_after three_entries (Free 1 5) (Moves 1) ∷ []
    ≡ (entry 4096 1100 unnamed ∷ entry 9472 1280 (named 9) ∷ []) ∷ (entry 4096 1100 unnamed ∷ entry 9472 1280 (named 9) ∷ []) ∷ three_entries
    ∷ three_entries ∷ []
unfolding ledger_definitions
ledger_after_free_cases = refl

-- an accepted named free removes the block that was taken by its name, not one at that address or of that size; a refused one removes nothing
pub ledger_after_named_free_cases :
    ledger_after three_entries (NamedFree 2 9) (Moves 0) ∷ ledger_after three_entries (NamedFree 2 768) (Moves 0)
    ∷ ledger_after three_entries (NamedFree 2 1280) (Moves 0) ∷ ledger_after three_entries (NamedFree 2 9) (Refused 15) ∷ []
    ≡ (entry 4096 1100 unnamed ∷ entry 768 384 (named 7) ∷ []) ∷ three_entries ∷ three_entries ∷ three_entries ∷ []
unfolding ledger_definitions
ledger_after_named_free_cases = refl

-- an accepted drop removes the blocks at each of its addresses, in any order, and no other; a refused one removes nothing
pub ledger_after_drop_cases :
    ledger_after three_entries (Drop 2 (9472 ∷ 768 ∷ [])) (Moves 1) ∷ ledger_after three_entries (Drop 2 (4096 ∷ 5 ∷ [])) (Moves 768)
    ∷ ledger_after three_entries (Drop 2 (9472 ∷ 768 ∷ [])) (Refused 7) ∷ ledger_after three_entries (Drop 768 []) (Moves 0) ∷ []
    ≡ (entry 4096 1100 unnamed ∷ []) ∷ (entry 768 384 (named 7) ∷ entry 9472 1280 (named 9) ∷ []) ∷ three_entries ∷ three_entries ∷ []
unfolding ledger_definitions
ledger_after_drop_cases = refl

-- a long block stands in the ledger as any other, and counts in no class: not in 0, which its superblocks' field has, and not in 26 (document 02, item 7)
pub long_entry_cases :
    ledger_after three_entries (Take 2 2049) (Address 16384) ≡ entry 16384 2049 unnamed ∷ three_entries
    × map (λ (c : ℕ). entries_of c (entry 16384 2049 unnamed ∷ entry 20480 65535 (named 3) ∷ [])) (0 ∷ 26 ∷ 27 ∷ []) ≡ 0 ∷ 0 ∷ 2 ∷ []
    × ledger_after (entry 16384 2049 unnamed ∷ three_entries) (Free 1 16384) (Moves 0) ≡ three_entries
unfolding ledger_definitions
long_entry_cases = (refl, refl, refl)

-- M goes up with the live blocks of its class, and does not come down
pub peak_with_cases : peak_with (λ c. 1) three_entries 23 ∷ peak_with (λ c. 5) three_entries 23 ∷ peak_with (λ c. c) three_entries 16
    ∷ peak_with (λ c. 0) three_entries 17 ∷ [] ≡ 2 ∷ 5 ∷ 16 ∷ 0 ∷ []
unfolding ledger_definitions
peak_with_cases = refl

-- ---- the bound. P = 2, N = 20, K = 5, p = 3, q = 7
abbrev pub u : Setup
u = record { processors = 2; superblocks = 20; spare = 5; p = 3; q = 7 }

-- eight of class c in heap 0, empty, and three in heap 1 with a block live; so many in heap 2 with two; two of class 25
abbrev pub state_of_class : ℕ → ℕ → State
state_of_class c k = unnamed_state u (replicate 8 (of 0 c 0) ++ replicate 3 (of 1 c 1) ++ replicate k (of 2 c 3) ++ replicate 2 (of 1 25 1)
    ++ replicate (51 - k) unused)

-- as many of class c as stated, and no other
abbrev pub only_of_class : ℕ → ℕ → State
only_of_class c k = unnamed_state u (replicate k (of 0 c 0) ++ replicate (64 - k) unused)

-- a comparison at each class, by its test; a comparison that its test denies
pub each_class_le_by_test : (f g : ℕ → ℕ) → all_below (λ c. leb (f c) (g c)) 27 ≡ true → (c : ℕ) → c < 27 → f c ≤ g c
each_class_le_by_test f g e c l = leb→le (f c) (g c) (all_at (λ d. leb (f d) (g d)) 27 (T_of_true _ e) c l)

pub not_le_by_test : {a b : ℕ} → a ≤ b → leb a b ≡ false → ⊥
not_le_by_test {a} {b} h e = true_not_false (leb a b) (le-leb a b h) e

-- class 23 has 3 blocks; M = 12. With 18 superblocks (q - p) × n × A is 216, above 7 × 12 + 4 × 2 × 5 × 3 = 204
pub bound_exceeded : Bounded u (state_of_class 23 7) (λ c. 12) → ⊥
unfolding Bounded superblocks_of_class total is_owned_of_class is_of_heap sum_below blocks_of counts
bound_exceeded b = not_le_by_test (b 23 (omega arith)) refl

-- M is each class's own: 12 of class 22 do not count, nor 11 of class 23
pub bound_of_other_class_exceeded : Bounded u (state_of_class 23 6) (λ c. 34 - c) → ⊥
unfolding Bounded superblocks_of_class total is_owned_of_class is_of_heap sum_below blocks_of counts
bound_of_other_class_exceeded b = not_le_by_test (b 23 (omega arith)) refl

-- with nothing live, P × K = 10 superblocks, and not 11: of class 0, with 256 blocks, and of class 26, the last
pub bound_of_class_0_exceeded : Bounded u (only_of_class 0 11) (λ c. 0) → ⊥
unfolding Bounded superblocks_of_class total is_owned_of_class is_of_heap sum_below blocks_of counts
bound_of_class_0_exceeded b = not_le_by_test (b 0 (omega arith)) refl

pub bound_of_class_26_exceeded : Bounded u (only_of_class 26 11) (λ c. 0) → ⊥
unfolding Bounded superblocks_of_class total is_owned_of_class is_of_heap sum_below blocks_of counts
bound_of_class_26_exceeded b = not_le_by_test (b 26 (omega arith)) refl

-- ---- owners
pub Moves_injective : {m n : ℕ} → Moves m ≡ Moves n → m ≡ n
Moves_injective e = cc

pub Moves_not_Refused : {m r : ℕ} → Moves m ≡ Refused r → ⊥
Moves_not_Refused {m} {r} e = let z : ◌≡◌ {A = ℕ} 0 1 = cc in omega arith

pub Refused_not_Moves : {m r : ℕ} → Refused r ≡ Moves m → ⊥
Refused_not_Moves {m} {r} e = let z : ◌≡◌ {A = ℕ} 0 1 = cc in omega arith

-- q = 7: a free may change 7 owners, and not 8
pub eight_owner_changes_fail : OwnerChanges 7 8 8 false (Free 2 9) (Moves 8) → ⊥
unfolding OwnerChanges
eight_owner_changes_fail k = not_le_by_test k.0 refl

-- as many as it reports: not one more, and not one fewer
pub unreported_owner_change_fails : OwnerChanges 7 5 5 false (Free 2 9) (Moves 4) → ⊥
unfolding OwnerChanges
unreported_owner_change_fails k = let z = k.1 4 refl in omega arith

pub reported_move_not_made_fails : OwnerChanges 7 5 5 false (Free 2 9) (Moves 6) → ⊥
unfolding OwnerChanges
reported_move_not_made_fails k = let z = k.1 6 refl in omega arith

-- where no run is freed, all whose owners change pass between heaps: by address, by name and in a drop
pub owner_change_beside_moves_fails :
    (OwnerChanges 7 3 2 false (Free 2 9) (Moves 2) → ⊥) × (OwnerChanges 7 3 2 false (NamedFree 2 5) (Moves 2) → ⊥)
    × (OwnerChanges 7 3 2 false (Drop 2 (9 ∷ 25 ∷ [])) (Moves 2) → ⊥)
unfolding OwnerChanges
owner_change_beside_moves_fails = (λ k. let z = k.3 refl in omega arith, λ k. let z = k.3 refl in omega arith, λ k. let z = k.3 refl in omega arith)

-- a run is freed where the ledger has a size above 2048 at the address, by the name, or at one of a drop's addresses
abbrev pub entries_with_runs : List Entry
entries_with_runs = entry 4096 2049 (named 3) ∷ entry 768 2048 (named 7) ∷ entry 20480 65535 unnamed ∷ []

pub frees_run_cases :
    map (frees_run entries_with_runs) (Free 2 4096 ∷ Free 2 768 ∷ Free 2 20480 ∷ Free 4096 9 ∷ NamedFree 2 3 ∷ NamedFree 2 7 ∷ NamedFree 3 768 ∷ []) ≡ true
    ∷ false ∷ true ∷ false ∷ true ∷ false ∷ false ∷ []
    × map (frees_run entries_with_runs) (Drop 1 (768 ∷ 4096 ∷ []) ∷ Drop 1 (4096 ∷ 768 ∷ []) ∷ Drop 1 (768 ∷ 9 ∷ []) ∷ Drop 4096 [] ∷ []) ≡ true ∷ true
    ∷ false ∷ false ∷ []
    × map (frees_run entries_with_runs) (Take 2 4096 ∷ NamedTake 2 3 4096 ∷ []) ≡ false ∷ false ∷ []
unfolding frees_run ledger_definitions
frees_run_cases = (refl, refl, refl)

-- a refused call changes none
pub refused_free_owner_change_fails : OwnerChanges 7 1 1 false (Free 2 9) (Refused 5) → ⊥
unfolding OwnerChanges
refused_free_owner_change_fails k = let z = k.2 5 refl in omega arith

pub refused_named_call_owner_change_fails : (OwnerChanges 7 1 1 false (NamedTake 2 3 9) (Refused 14) → ⊥)
    × (OwnerChanges 7 1 1 false (NamedFree 2 3) (Refused 15) → ⊥)
unfolding OwnerChanges
refused_named_call_owner_change_fails = (λ k. let z = k 14 refl in omega arith, λ k. let z = k.2 15 refl in omega arith)

-- and a named free is held to what a free is
pub named_free_owner_changes_fail : (OwnerChanges 7 8 8 false (NamedFree 2 3) (Moves 8) → ⊥) × (OwnerChanges 7 5 5 false (NamedFree 2 3) (Moves 4) → ⊥)
unfolding OwnerChanges
named_free_owner_changes_fail = (λ k. not_le_by_test k.0 refl, λ k. let z = k.1 4 refl in omega arith)

pub refused_take_owner_change_fails : OwnerChanges 7 1 1 false (Take 2 9) (Refused 4) → ⊥
unfolding OwnerChanges
refused_take_owner_change_fails k = let z = k 4 refl in omega arith

-- a drop of two addresses may change 14 owners, and not 15; it is held to what it reports, and a refused one to none
pub drop_owner_changes_fail :
    (OwnerChanges 7 15 15 false (Drop 2 (9 ∷ 25 ∷ [])) (Moves 15) → ⊥) × (OwnerChanges 7 5 5 false (Drop 2 (9 ∷ 25 ∷ [])) (Moves 4) → ⊥)
    × (OwnerChanges 7 5 5 false (Drop 2 (9 ∷ 25 ∷ [])) (Moves 6) → ⊥) × (OwnerChanges 7 1 1 false (Drop 2 (9 ∷ 25 ∷ [])) (Refused 7) → ⊥)
unfolding OwnerChanges
drop_owner_changes_fail = (
  λ k. not_le_by_test k.0 refl,
  λ k. let z = k.1 4 refl in omega arith,
  λ k. let z = k.1 6 refl in omega arith,
  λ k. let z =
      k.2 7 refl in omega arith,
)

-- those that pass between heaps count, and not all whose owners change: a free of a run of three changes three owners, and may report none of them, nor one; a
-- refused one may change no owner, though none passes between heaps (document 02, item 7)
pub run_counted_in_moves_fails :
    (OwnerChanges 7 3 0 true (Free 2 4096) (Moves 3) → ⊥) × (OwnerChanges 7 3 0 true (Free 2 4096) (Moves 1) → ⊥)
    × (OwnerChanges 7 3 0 true (NamedFree 2 5) (Moves 3) → ⊥) × (OwnerChanges 7 4 1 true (Drop 2 (9 ∷ 4096 ∷ [])) (Moves 4) → ⊥)
unfolding OwnerChanges
run_counted_in_moves_fails = (
  λ k. let z = k.1 3 refl in omega arith,
  λ k. let z = k.1 1 refl in omega arith,
  λ k. let z = k.1 3 refl in
      omega arith,
  λ k. let z = k.1 4 refl in omega arith,
)

pub refused_call_with_run_changed_fails :
    (OwnerChanges 7 3 0 true (Free 2 4096) (Refused 6) → ⊥) × (OwnerChanges 7 3 0 true (Take 2 9000) (Refused 17) → ⊥)
    × (OwnerChanges 7 3 0 true (NamedTake 2 5 9000) (Refused 17) → ⊥) × (OwnerChanges 7 3 0 true (Drop 2 (9 ∷ 4096 ∷ [])) (Refused 6) → ⊥)
unfolding OwnerChanges
refused_call_with_run_changed_fails = (
  λ k. let z = k.2 6 refl in omega arith,
  λ k. let z = k 17 refl in omega arith,
  λ k. let z = k 17 refl in
      omega arith,
  λ k. let z = k.2 6 refl in omega arith,
)

-- ---- lists of calls
-- eleven blocks of class 23 are live, and never were more; sixteen superblocks are within 7 × 11 + 120 = 197, seventeen are not.
abbrev pub eleven_entries : List Entry
eleven_entries = replicate 11 (entry 9472 1280 unnamed)

-- the take, and the free of its block
abbrev pub take_and_free : List Step
take_and_free = step_with (Take 2 1100) (Address 16) (state_of_class 23 6) ∷ step_with (Free 1 16) (Moves 0) (state_of_class 23 6) ∷ []

-- seventeen where the take was refused, or was of another class; eighteen after the last call
pub claim_fails_of_refused_take : Claims u (after_with Ready (state_of_class 23 5)) eleven_entries (λ c. 11)
    (step_with (Take 2 1100) (Refused 4) (state_of_class 23 6) ∷ []) → ⊥
unfolding Claims Bounded superblocks_of_class total is_owned_of_class is_of_heap sum_below blocks_of counts ledger_definitions
claim_fails_of_refused_take k = not_le_by_test (k.2 23 (omega arith)) refl

pub claim_fails_of_other_class_take : Claims u (after_with Ready (state_of_class 23 5)) eleven_entries (λ c. 11)
    (step_with (Take 2 1000) (Address 16) (state_of_class 23 6) ∷ []) → ⊥
unfolding Claims Bounded superblocks_of_class total is_owned_of_class is_of_heap sum_below blocks_of counts ledger_definitions
claim_fails_of_other_class_take k = not_le_by_test (k.2 23 (omega arith)) refl

pub claim_fails_after_last_call : Claims u (after_with Ready (state_of_class 23 5)) eleven_entries (λ c. 11)
    (step_with (Take 2 1100) (Address 16) (state_of_class 23 6) ∷ step_with (Free 1 16) (Moves 1) (state_of_class 23 7) ∷ []) → ⊥
unfolding Claims Bounded superblocks_of_class total is_owned_of_class is_of_heap sum_below blocks_of counts ledger_definitions
claim_fails_after_last_call k = not_le_by_test (k.2.2 23 (omega arith)) refl

-- a free that passes eight superblocks to heap 0; a refused one that passes one
abbrev pub all_in_heap_2 : ℕ → State
all_in_heap_2 k = unnamed_state u (replicate k (of 2 24 0) ++ replicate (64 - k) unused)

abbrev pub all_in_heap_0 : ℕ → State
all_in_heap_0 k = unnamed_state u (replicate k (of 0 24 0) ++ replicate (64 - k) unused)

pub claim_fails_of_eight_moves : Claims u (after_with Ready (all_in_heap_2 8)) [] (λ c. 0) (step_with (Free 1 16) (Moves 8) (all_in_heap_0 8) ∷ []) → ⊥
unfolding Claims OwnerChanges owners_changed passed_between_heaps is_of_heap sum_below
claim_fails_of_eight_moves k = not_le_by_test k.1.0 refl

pub claim_fails_of_refused_free_move : Claims u (after_with Ready (all_in_heap_2 1)) [] (λ c. 0) (step_with (Free 1 16) (Refused 6) (all_in_heap_0 1) ∷ []) → ⊥
unfolding Claims OwnerChanges owners_changed passed_between_heaps is_of_heap sum_below
claim_fails_of_refused_free_move k = let z = k.1.2 6 refl in omega arith

-- a run of three is freed: a free that reports its superblocks, or one of them, fails the claim
abbrev pub run_in_state : State
run_in_state = unnamed_state u (of 2 24 1 ∷ run_part 3 ∷ run_part 0 ∷ run_part 0 ∷ replicate 60 unused)

abbrev pub run_freed_state : State
run_freed_state = unnamed_state u (of 2 24 1 ∷ replicate 63 unused)

abbrev pub run_entry : List Entry
run_entry = entry 4096 12000 unnamed ∷ []

pub claim_fails_of_run_reported : (m : ℕ) → 0 < m → Claims u (after_with Ready run_in_state) run_entry (λ c. 0)
    (step_with (Free 1 4096) (Moves m) run_freed_state ∷ []) → ⊥
unfolding Claims OwnerChanges owners_changed passed_between_heaps is_of_heap sum_below
claim_fails_of_run_reported m l k = let z = k.1.1 m refl in omega arith

-- whether a run is freed is told by the ledger: where it has a block of 2048 bytes at the address, or none, the owners may not change
pub claim_fails_of_run_not_in_ledger :
    (Claims u (after_with Ready run_in_state) (entry 4096 2048 unnamed ∷ []) (λ c. 1) (step_with (Free 1 4096) (Moves 0) run_freed_state ∷ []) → ⊥)
    × (Claims u (after_with Ready run_in_state) (entry 8192 8192 unnamed ∷ []) (λ c. 0) (step_with (Free 1 4096) (Moves 0) run_freed_state ∷ []) → ⊥)
unfolding Claims OwnerChanges owners_changed passed_between_heaps is_of_heap sum_below frees_run ledger_definitions
claim_fails_of_run_not_in_ledger = (λ k. let z = k.1.3 refl in omega arith, λ k. let z = k.1.3 refl in omega arith)

-- "Each gets the state that the one before it returned and the storage as that one left it": here a state whose numbers fail the check, so that each call
-- is refused with 13; no call of the list may leave another state, storage or outcome
abbrev pub state_out_of_limits : State
state_out_of_limits = unnamed_state (record { processors = 2; superblocks = 20; spare = 5; p = 7; q = 3 }) []

abbrev pub after_refused_13 : List ℕ → After
after_refused_13 order = record { answer = record { outcome = Refused 13; state = state_out_of_limits }; order = order }

pub linked_fails_of_other_storage : Linked (after_refused_13 (4 ∷ [])) (record { call = Take 1 16; after = after_refused_13 (4 ∷ []) }
    ∷ record { call = Take 2 9; after = after_refused_13 (5 ∷ []) } ∷ []) → ⊥
unfolding Linked call_of take_of checked within_limits number_of
linked_fails_of_other_storage k = let z : ◌≡◌ {A = ℕ} 5 4 = ap (λ (x : After). get_or x.order 0 0) k.1.0 in omega arith

pub linked_fails_of_other_outcome : Linked (after_refused_13 (4 ∷ []))
    (record { call = Take 1 16; after = record { answer = record { outcome = Refused 2; state = state_out_of_limits }; order = 4 ∷ [] } } ∷ []) → ⊥
unfolding Linked call_of take_of checked within_limits number_of
linked_fails_of_other_outcome k = let z : ◌≡◌ {A = ℕ} 2 13 = ap (λ (x : After). number_of x.answer.outcome) k.0 in omega arith

-- the state of the second call, or of the third, is another than the one before it left
abbrev pub state_out_of_limits_with : ℕ → State
state_out_of_limits_with k = unnamed_state (record { processors = 2; superblocks = 20; spare = k; p = 7; q = 3 }) []

abbrev pub refused_13_with : ℕ → Call → Step
refused_13_with k call =
    record { call = call; after = record { answer = record { outcome = Refused 13; state = state_out_of_limits_with k }; order = 4 ∷ [] } }

pub linked_fails_of_other_state :
    (Linked (after_refused_13 (4 ∷ [])) (refused_13_with 5 (Take 1 16) ∷ refused_13_with 6 (Free 2 9) ∷ refused_13_with 6 (Take 2 9) ∷ []) → ⊥)
    × (Linked (after_refused_13 (4 ∷ [])) (refused_13_with 5 (Take 1 16) ∷ refused_13_with 5 (Free 2 9) ∷ refused_13_with 6 (Take 2 9) ∷ []) → ⊥)
unfolding Linked call_of take_of free_of checked within_limits number_of
linked_fails_of_other_state = (
  λ k. let z : ◌≡◌ {A = ℕ} 6 5 = ap (λ (x : After). x.answer.state.setup.spare) k.1.0 in omega arith,
  λ k. let z : ◌≡◌ {A = ℕ} 6 5 = ap (λ (x : After). x.answer.state.setup.spare) k.1.1.0 in omega arith,
)

-- ---- what the claim holds of, at the limit
-- a free that changed 7 owners, and reports them
pub seven_owner_changes_hold : OwnerChanges 7 7 7 false (Free 2 9) (Moves 7)
unfolding OwnerChanges
seven_owner_changes_hold = (omega arith, λ m e. Moves_injective e, λ r e. absurd (Moves_not_Refused e), λ e. refl)

-- a drop of two addresses that changed 14
pub fourteen_owner_changes_of_drop_hold : OwnerChanges 7 14 14 false (Drop 2 (9 ∷ 25 ∷ [])) (Moves 14)
unfolding OwnerChanges
fourteen_owner_changes_of_drop_hold = (omega arith, λ m e. Moves_injective e, λ r e. absurd (Moves_not_Refused e), λ e. refl)

-- frees of runs, by address, by name and in a drop: more than q owners change, none or two superblocks pass between heaps, and so many are reported
pub free_of_run_holds : OwnerChanges 7 16 0 true (Free 2 4096) (Moves 0) × OwnerChanges 7 16 0 true (NamedFree 2 5) (Moves 0)
    × OwnerChanges 7 18 2 true (Drop 2 (9 ∷ 4096 ∷ [])) (Moves 2)
unfolding OwnerChanges
free_of_run_holds = (
  (omega arith, λ m e. Moves_injective e, λ r e. absurd (Moves_not_Refused e), λ e. absurd (true_not_false true refl e)),
  (omega arith, λ m e. Moves_injective e, λ r e. absurd (Moves_not_Refused e), λ e. absurd (true_not_false true refl e)),
  (omega arith, λ m e. Moves_injective e, λ r e. absurd (Moves_not_Refused e), λ e. absurd (true_not_false true refl e)),
)

-- refused calls that changed none
pub refused_without_owner_change_holds : OwnerChanges 7 0 0 false (Free 2 9) (Refused 5) × OwnerChanges 7 0 0 false (Take 2 9) (Refused 4)
unfolding OwnerChanges
refused_without_owner_change_holds = ((omega arith, λ m e. absurd (Refused_not_Moves e), λ r e. refl, λ e. refl), λ r e. refl)

-- two calls, each refused with 13
pub linked_holds_of_refused_calls : Linked (after_refused_13 (4 ∷ [])) (record { call = Take 1 16; after = after_refused_13 (4 ∷ []) }
    ∷ record { call = Take 2 9; after = after_refused_13 (4 ∷ []) } ∷ [])
unfolding Linked call_of take_of checked within_limits number_of
linked_holds_of_refused_calls = (refl, (refl, tt))

-- the cases so far take little. Each that follows takes longer, and is computed where they, those of the other claims and the one before it hold
unfoldable pub quick_claims_hold : Unit {0}
quick_claims_hold =
    history_holds also along_holds also totals_claim_holds also names_claim_holds also names_hold_cases_hold also long_blocks_claim_holds also entries_of_cases
    also ledger_after_take_cases also entries_of_size_0_case also ledger_after_free_cases
    also ledger_after_named_free_cases also ledger_after_drop_cases also long_entry_cases also peak_with_cases also bound_exceeded
    also bound_of_other_class_exceeded also bound_of_class_0_exceeded also bound_of_class_26_exceeded also eight_owner_changes_fail
    also unreported_owner_change_fails also reported_move_not_made_fails also refused_free_owner_change_fails
    also refused_named_call_owner_change_fails also named_free_owner_changes_fail also refused_take_owner_change_fails also drop_owner_changes_fail
    also owner_change_beside_moves_fails also frees_run_cases also claim_fails_of_run_not_in_ledger also run_counted_in_moves_fails also
    refused_call_with_run_changed_fails also claim_fails_of_refused_take also claim_fails_of_other_class_take
    also claim_fails_after_last_call also claim_fails_of_eight_moves also claim_fails_of_refused_free_move also claim_fails_of_run_reported
    also linked_fails_of_other_storage also linked_fails_of_other_outcome also linked_fails_of_other_state also seven_owner_changes_hold also
    fourteen_owner_changes_of_drop_hold
    also free_of_run_holds also refused_without_owner_change_holds also linked_holds_of_refused_calls also tt

-- class 23 with 17 superblocks: (q - p) × n × A and the bound are both 204
pub bound_holds_at_limit : Bounded u (state_of_class 23 6) (λ c. 12)
unfolding quick_claims_hold Bounded superblocks_of_class total is_owned_of_class is_of_heap sum_below all_below blocks_of counts
bound_holds_at_limit = each_class_le_by_test _ _ refl

-- a free that passes seven superblocks to heap 0
pub claim_holds_of_seven_moves : Claims u (after_with Ready (all_in_heap_2 7)) [] (λ c. 0) (step_with (Free 1 16) (Moves 7) (all_in_heap_0 7) ∷ [])
unfolding Claims OwnerChanges Bounded owners_changed passed_between_heaps superblocks_of_class total is_owned_of_class is_of_heap sum_below all_below blocks_of
    counts
    ledger_definitions
claim_holds_of_seven_moves = let before = bound_holds_at_limit in (
  each_class_le_by_test _ _ refl,
  (omega arith, λ m e. Moves_injective e, λ r e. absurd (Moves_not_Refused e), λ e. refl),
  each_class_le_by_test _ _ refl,
)

-- a take that makes a twelfth block live, and so comes to seventeen superblocks; when that block is freed M is 12 still
pub claim_holds_of_take_and_free : Claims u (after_with Ready (state_of_class 23 5)) eleven_entries (λ c. 11) take_and_free
unfolding Claims OwnerChanges Bounded owners_changed passed_between_heaps superblocks_of_class total is_owned_of_class is_of_heap sum_below all_below blocks_of
    counts
    ledger_definitions
claim_holds_of_take_and_free = let before = claim_holds_of_seven_moves in (
  each_class_le_by_test _ _ refl,
  λ r e. absurd (address_refused e),
  (
    each_class_le_by_test _ _ refl,
    (omega arith, λ m e. Moves_injective e, λ r e. absurd (Moves_not_Refused e), λ e. refl),
    each_class_le_by_test _ _ refl,
  ),
)
  where
    address_refused : {a r : ℕ} → Address a ≡ Refused r → ⊥
    address_refused {a} {r} e = let z : ◌≡◌ {A = ℕ} 0 1 = cc in omega arith

-- the free of the run that reports none
pub claim_holds_of_run_freed : Claims u (after_with Ready run_in_state) run_entry (λ c. 0) (step_with (Free 1 4096) (Moves 0) run_freed_state ∷ [])
unfolding Claims OwnerChanges Bounded owners_changed passed_between_heaps superblocks_of_class total is_owned_of_class is_of_heap sum_below all_below blocks_of
    counts
    frees_run ledger_definitions
claim_holds_of_run_freed = let before = claim_holds_of_take_and_free in (
  each_class_le_by_test _ _ refl,
  (omega arith, λ m e. Moves_injective e, λ r e. absurd (Moves_not_Refused e), λ e. absurd (true_not_false true refl e)),
  each_class_le_by_test _ _ refl,
)

-- with nothing live, P × K = 10 superblocks, of class 0 and of class 26
pub bound_holds_of_spare : Bounded u (only_of_class 0 10) (λ c. 0) × Bounded u (only_of_class 26 10) (λ c. 0)
unfolding Bounded superblocks_of_class total is_owned_of_class is_of_heap sum_below all_below blocks_of counts
bound_holds_of_spare = let before = claim_holds_of_run_freed in (each_class_le_by_test _ _ refl, each_class_le_by_test _ _ refl)

-- with nothing live, and the spare superblocks all in use, ten long blocks of class field 0 beside them: they are of no class
pub bound_holds_beside_runs : Bounded u (unnamed_state u (replicate 10 (of 0 0 0) ++ replicate 10 (run_part 1) ++ replicate 44 unused)) (λ c. 0)
unfolding Bounded superblocks_of_class total is_owned_of_class is_of_heap sum_below all_below blocks_of counts
bound_holds_beside_runs = let before = bound_holds_of_spare in each_class_le_by_test _ _ refl
