-- The totals over lists of calls: what the claims must not hold of. The states need not be what calls left. Assumes nothing.
use mathlib.Core.Path.{◌≡◌}
use mathlib.Core.List.{List, [], ◌∷◌, ◌++◌}
use Prim.Native.Nat.{ℕ}
use native.Mathlib.Omega.{arith}
use lib.ListN.{replicate}
use Rattle.base_laws.proofs.Stages.{◌also◌}
use Rattle.base_laws.specs.Sums.{sum_below}
use Rattle.heap_rules.specs.declared.Setup.{Setup}
use Rattle.heap_rules.specs.declared.State.{State}
use Rattle.heap_rules.specs.Totals.{live_kept}
use Rattle.heap_rules.proofs.TableCases.{small_setup}
use Rattle.heap_rules.proofs.TotalsCountedCases.{numbers, state_keeping, state_counted, counted_definitions}
use Rattle.call_rules.specs.declared.Outcome.TheVariants.{Ready, Address, Moves, Refused}
use Rattle.call_rules.specs.Calls.{Take, Free}
use Rattle.claim_rules.specs.Ledger.{Entry, unnamed}
use Rattle.claim_rules.specs.Claim.{Along}
use Rattle.claim_rules.specs.TotalsClaim.{TotalsCountedOver, LiveTotalsAgree, LiveTotalsAgreeOver}
use Rattle.claim_rules.proofs.LedgerDefinitions.{entry, ledger_definitions}
use Rattle.claim_rules.proofs.CaseSteps.{after_with, step_with}
use Rattle.claim_rules.proofs.AlongCases.{along_holds}

-- ---- the totals kept are the recount: before a take, a refused take and a free, and after each of them
abbrev pub CountedOver : State → State → State → State → Type 0
CountedOver a b c d =
    TotalsCountedOver (after_with Ready a)
    (step_with (Take 2 1100) (Address 16) b ∷ step_with (Take 3 9) (Refused 2) c ∷ step_with (Free 1 16) (Moves 0) d ∷ [])

-- the superblock of heap 8 and class 26 not counted; the live block of heap 0 and class 24 not
abbrev pub state_without_superblock : State
state_without_superblock = state_keeping (numbers 0 1 2 0) (numbers 0 1 2 2)

abbrev pub state_without_live_block : State
state_without_live_block = state_keeping (numbers 0 1 2 1) (numbers 0 0 2 2)

pub totals_wrong_before_list_fail : CountedOver state_without_superblock state_counted state_counted state_counted → ⊥
unfolding along_holds Along counted_definitions
totals_wrong_before_list_fail k = let z : ◌≡◌ {A = ℕ} 0 1 = (k.0 8 26 (omega arith) (omega arith)).0 in omega arith

pub totals_wrong_after_first_call_fail : CountedOver state_counted state_without_live_block state_counted state_counted → ⊥
unfolding along_holds Along counted_definitions
totals_wrong_after_first_call_fail k = let z : ◌≡◌ {A = ℕ} 0 1 = (k.1.0 0 24 (omega arith) (omega arith)).1 in omega arith

pub totals_wrong_after_refused_call_fail : CountedOver state_counted state_counted state_without_superblock state_counted → ⊥
unfolding along_holds Along counted_definitions
totals_wrong_after_refused_call_fail k = let z : ◌≡◌ {A = ℕ} 0 1 = (k.1.1.0 8 26 (omega arith) (omega arith)).0 in omega arith

pub totals_wrong_after_last_call_fail : CountedOver state_counted state_counted state_counted state_without_live_block → ⊥
unfolding along_holds Along counted_definitions
totals_wrong_after_last_call_fail k = let z : ◌≡◌ {A = ℕ} 0 1 = (k.1.1.1 0 24 (omega arith) (omega arith)).1 in omega arith

-- ---- the live totals and the ledger: P = 2. Totals of heap 0 and class 16, heap 1 and class 23, heap 2 and class 26, and heap 3 and class 0
abbrev pub state_live : ℕ → ℕ → ℕ → ℕ → State
state_live a b c d = state_keeping [] (replicate 16 0 ++ a ∷ replicate 33 0 ++ b ∷ replicate 29 0 ++ c ∷ d ∷ replicate 161 0)

-- two blocks of class 23, one of class 26 and a long one, which is of none; and one of class 16 besides
abbrev pub four_entries : List Entry
four_entries = entry 4096 1100 unnamed ∷ entry 5376 1280 unnamed ∷ entry 10240 2048 unnamed ∷ entry 12288 2049 unnamed ∷ []

abbrev pub five_entries : List Entry
five_entries = entry 768 384 unnamed ∷ four_entries

-- the total of a class one too high or one too low, in heap 0, in heap P and in class 26, the last
pub live_total_differs_fails :
    (LiveTotalsAgree small_setup (state_live 0 2 1 0) five_entries → ⊥)
    × (LiveTotalsAgree small_setup (state_live 1 3 1 0) five_entries → ⊥)
    × (LiveTotalsAgree small_setup (state_live 1 2 0 0) five_entries → ⊥)
unfolding along_holds live_kept sum_below ledger_definitions
live_total_differs_fails = (
  λ k. let z : ◌≡◌ {A = ℕ} 0 1 = k 16 (omega arith) in omega arith,
  λ k. let z : ◌≡◌ {A = ℕ} 3 2 = k 23 (omega arith) in omega arith,
  λ k. let z : ◌≡◌ {A = ℕ} 0 1 = k 26 (omega arith) in omega arith,
)

-- a block that only a heap above P counts; with P = 1 heap 2 is one
abbrev pub setup_of_one : Setup
setup_of_one = record { processors = 1; superblocks = 5; spare = 1; p = 3; q = 7 }

pub live_in_heap_above_P_fails :
    (LiveTotalsAgree small_setup (state_live 1 2 1 1) (entry 16384 0 unnamed ∷ five_entries) → ⊥)
    × (LiveTotalsAgree setup_of_one (state_live 1 2 1 0) five_entries → ⊥)
unfolding along_holds live_kept sum_below ledger_definitions
live_in_heap_above_P_fails = (
  λ k. let z : ◌≡◌ {A = ℕ} 0 1 = k 0 (omega arith) in omega arith,
  λ k. let z : ◌≡◌ {A = ℕ} 0 1 = k 26 (omega arith) in omega arith,
)

-- a long block that is counted with class 26, or with class 0, which its superblocks' field has
pub long_block_in_live_total_fails :
    (LiveTotalsAgree small_setup (state_live 0 0 1 0) (entry 12288 2049 unnamed ∷ []) → ⊥)
    × (LiveTotalsAgree small_setup (state_keeping [] (numbers 1 0 0 0)) (entry 12288 2049 unnamed ∷ []) → ⊥)
unfolding along_holds live_kept sum_below ledger_definitions
long_block_in_live_total_fails = (
  λ k. let z : ◌≡◌ {A = ℕ} 1 0 = k 26 (omega arith) in omega arith,
  λ k. let z : ◌≡◌ {A = ℕ} 1 0 = k 0 (omega arith) in omega arith,
)

-- over a list: the four blocks are live, a take adds that of class 16, another is refused, and that of class 26 is freed
abbrev pub LiveOver : State → State → State → State → Type 0
LiveOver a b c d =
    LiveTotalsAgreeOver small_setup (after_with Ready a) four_entries
    (step_with (Take 2 384) (Address 768) b ∷ step_with (Take 1 2048) (Refused 4) c ∷ step_with (Free 1 10240) (Moves 1) d ∷ [])

-- totals that count the take before it is made, in the middle one that counts the refused take, and in the end the block that was freed
pub live_totals_wrong_over_list_fail :
    (LiveOver (state_live 1 2 1 0) (state_live 1 2 1 0) (state_live 1 2 1 0) (state_live 1 2 0 0) → ⊥)
    × (LiveOver (state_live 0 2 1 0) (state_live 1 2 1 0) (state_live 1 2 2 0) (state_live 1 2 0 0) → ⊥)
    × (LiveOver (state_live 0 2 1 0) (state_live 1 2 1 0) (state_live 1 2 1 0) (state_live 1 2 1 0) → ⊥)
unfolding along_holds Along live_kept sum_below ledger_definitions
live_totals_wrong_over_list_fail = (
  λ k. let z : ◌≡◌ {A = ℕ} 1 0 = k.0 16 (omega arith) in omega arith,
  λ k. let z : ◌≡◌ {A = ℕ} 2 1 = k.1.1.0 26 (omega arith) in omega arith,
  λ k. let z : ◌≡◌ {A = ℕ} 1 0 = k.1.1.1 26 (omega arith) in omega arith,
)

unfoldable pub totals_claim_holds : Unit {0}
totals_claim_holds =
    totals_wrong_before_list_fail also totals_wrong_after_first_call_fail also totals_wrong_after_refused_call_fail
    also totals_wrong_after_last_call_fail also live_total_differs_fails also live_in_heap_above_P_fails
    also long_block_in_live_total_fails also live_totals_wrong_over_list_fail also tt
