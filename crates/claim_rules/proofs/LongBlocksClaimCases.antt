-- Long blocks and runs over lists of calls: what the claim must not hold of. The states need not be what calls left. Assumes nothing.
use mathlib.Core.Path.{◌≡◌, refl}
use mathlib.Core.List.{List, [], ◌∷◌, ◌++◌, map}
use Prim.Native.Nat.{ℕ, zero, suc, ◌<◌}
use native.Mathlib.Omega.{arith}
use lib.ListN.{replicate}
use lib.Dec.{eqb, eqb→eq}
use Rattle.base_laws.proofs.Stages.{◌also◌}
use Rattle.base_laws.specs.Sums.{all_below}
use Rattle.base_laws.proofs.TestLaws.{T_of_true}
use Rattle.base_laws.proofs.SumLaws.{all_at}
use Rattle.class_rules.specs.Classes.{run_length}
use Rattle.heap_rules.specs.declared.State.{State}
use Rattle.heap_rules.specs.Table.{superblock_at, unused, is_of_run, run_part}
use Rattle.heap_rules.specs.Runs.{InRun, RunAt}
use Rattle.heap_rules.proofs.RunAtCases.{table_state, run_at_by_test}
use Rattle.call_rules.specs.declared.Outcome.TheVariants.{Ready, Address, Moves, Refused}
use Rattle.call_rules.specs.Calls.{Take, Free}
use Rattle.claim_rules.specs.Ledger.{Entry, named, unnamed, entries_at}
use Rattle.claim_rules.specs.Claim.{Along}
use Rattle.claim_rules.specs.LongBlocksClaim.{IsRun, LongBlocksAgree, LongBlocksAgreeOver}
use Rattle.claim_rules.proofs.LedgerDefinitions.{entry, ledger_definitions}
use Rattle.claim_rules.proofs.CaseSteps.{after_with, step_with}
use Rattle.claim_rules.proofs.AlongCases.{along_holds}

-- by address and class, where a long block's is 27
abbrev pub entries_at_two : List Entry
entries_at_two = entry 4096 2049 unnamed ∷ entry 8192 65535 (named 4096) ∷ entry 4096 16 unnamed ∷ entry 4096 9000 unnamed ∷ []

pub entries_at_cases :
    map (λ (x : ℕ × ℕ). entries_at entries_at_two x.0 x.1) ((4096, 27) ∷ (8192, 27) ∷ (4096, 0) ∷ (4096, 26) ∷ (2049, 27) ∷ (16, 0) ∷ [])
    ≡ 2 ∷ 1 ∷ 1 ∷ 0 ∷ 0 ∷ 0 ∷ []
unfolding along_holds ledger_definitions
entries_at_cases = refl

-- ---- no run; a run of three from superblock 1 on; and its block
abbrev pub no_run : State
no_run = table_state (replicate 64 unused)

abbrev pub run_of_three : State
run_of_three = table_state (unused ∷ run_part 3 ∷ run_part 0 ∷ run_part 0 ∷ replicate 60 unused)

pub run_of_three_is_run : RunAt run_of_three 1 3
unfolding along_holds is_of_run all_below
run_of_three_is_run = run_at_by_test _ 1 3 refl (omega arith) (omega arith) (omega arith) refl refl

abbrev pub block_of_three : Entry
block_of_three = entry 4096 12288 unnamed

-- a block above 2048 that is no run; one of two superblocks, or of four, at a run of three; one that starts 16 behind the start of the run
pub entry_of_no_run_fails :
    (IsRun no_run (entry 4096 2049 unnamed) → ⊥) × (IsRun run_of_three (entry 4096 8192 unnamed) → ⊥) × (IsRun run_of_three (entry 4096 12289 unnamed) → ⊥)
    × (IsRun run_of_three (entry 4112 12288 unnamed) → ⊥)
unfolding along_holds run_length
entry_of_no_run_fails = (
  λ k. let z : ◌≡◌ {A = ℕ} 0 1 = k.1.length_is in omega arith,
  λ k. let z : ◌≡◌ {A = ℕ} 3 2 = k.1.length_is in omega arith,
  λ k. let z : ◌≡◌ {A = ℕ} 3 4 = k.1.length_is in omega arith,
  λ k. let z : ◌≡◌ {A = ℕ} 16 0 = k.0 in omega arith,
)

-- the same in a ledger, beside the run's own block
pub long_entry_of_no_run_fails :
    (LongBlocksAgree no_run (entry 4096 2049 unnamed ∷ []) → ⊥) × (LongBlocksAgree run_of_three (block_of_three ∷ entry 16384 2049 unnamed ∷ []) → ⊥)
    × (LongBlocksAgree run_of_three (block_of_three ∷ entry 4112 12288 unnamed ∷ []) → ⊥)
unfolding along_holds run_length ledger_definitions
long_entry_of_no_run_fails = (
  λ k. let z : ◌≡◌ {A = ℕ} 0 1 = (k.entries.0 (omega arith)).1.length_is in omega arith,
  λ k. let z : ◌≡◌ {A = ℕ} 0 1 = (k.entries.1.0 (omega arith)).1.length_is in omega arith,
  λ k. let z : ◌≡◌ {A = ℕ} 16 0 = (k.entries.1.0 (omega arith)).0 in omega arith,
)

-- a run that the ledger does not have, has as a block of a class, or has twice
pub run_not_once_in_ledger_fails :
    (LongBlocksAgree run_of_three [] → ⊥) × (LongBlocksAgree run_of_three (entry 4096 2048 unnamed ∷ []) → ⊥)
    × (LongBlocksAgree run_of_three (block_of_three ∷ block_of_three ∷ []) → ⊥)
unfolding along_holds ledger_definitions
run_not_once_in_ledger_fails = (
  λ k. let z : ◌≡◌ {A = ℕ} 0 1 = k.runs 1 3 run_of_three_is_run in omega arith,
  λ k. let z : ◌≡◌ {A = ℕ} 0 1 = k.runs 1 3 run_of_three_is_run in omega arith,
  λ k. let z : ◌≡◌ {A = ℕ} 2 1 = k.runs 1 3 run_of_three_is_run in omega arith,
)

-- a superblock of owner 254 behind a run of one
abbrev pub one_too_many : State
one_too_many = table_state (run_part 1 ∷ run_part 0 ∷ replicate 62 unused)

pub part_of_no_run_fails : LongBlocksAgree one_too_many (entry 0 2049 unnamed ∷ []) → ⊥
unfolding along_holds is_of_run
part_of_no_run_fails k = let x = k.parts 1 (omega arith) refl in in_no_run x.0 x.1 x.2
  where
    in_no_run : (k : ℕ) → RunAt one_too_many k (superblock_at one_too_many k).run → InRun k (superblock_at one_too_many k).run 1 → ⊥
    in_no_run zero r i = let z : 1 < 1 = i.1 in omega arith
    in_no_run (suc zero) r i = let z = r.some in omega arith
    in_no_run (suc (suc k)) r i = let z = i.0 in omega arith

-- the last superblock, where no other has a length
abbrev pub last_alone : State
last_alone = table_state (replicate 63 unused ++ run_part 0 ∷ [])

pub last_part_of_no_run_fails : LongBlocksAgree last_alone [] → ⊥
unfolding along_holds is_of_run all_below
last_part_of_no_run_fails k =
    let x = k.parts 63 (omega arith) refl in
    let l = x.2.0 in
    let t = all_at (λ m. eqb (superblock_at last_alone m).run 0) 64 (T_of_true _ refl) x.0 (omega arith) in
    let z = eqb→eq (superblock_at last_alone x.0).run 0 t in
    let some = x.1.some in
    omega arith

-- over a list: beside a block of class 16 one of three superblocks is taken, another take is refused, and the block is freed
abbrev pub RunsOver : State → State → State → State → Type 0
RunsOver a b c d =
    LongBlocksAgreeOver (after_with Ready a) (entry 768 384 unnamed ∷ [])
    (step_with (Take 2 12288) (Address 4096) b ∷ step_with (Take 1 9000) (Refused 17) c ∷ step_with (Free 1 4096) (Moves 0) d ∷ [])

-- the run is there before its take, it is not after it, it is gone after the refused call, or is there after the free
pub runs_wrong_over_list_fail :
    (RunsOver run_of_three run_of_three run_of_three no_run → ⊥) × (RunsOver no_run no_run run_of_three no_run → ⊥)
    × (RunsOver no_run run_of_three no_run no_run → ⊥) × (RunsOver no_run run_of_three run_of_three run_of_three → ⊥)
unfolding along_holds Along run_length ledger_definitions
runs_wrong_over_list_fail = (
  λ k. let z : ◌≡◌ {A = ℕ} 0 1 = k.0.runs 1 3 run_of_three_is_run in omega arith,
  λ k. let z : ◌≡◌ {A = ℕ} 0 3 = (k.1.0.entries.0 (omega arith)).1.length_is in omega arith,
  λ k. let z : ◌≡◌ {A = ℕ} 0 3 = (k.1.1.0.entries.0 (omega arith)).1.length_is in omega arith,
  λ k. let z : ◌≡◌ {A = ℕ} 0 1 = k.1.1.1.runs 1 3 run_of_three_is_run in omega arith,
)

unfoldable pub long_blocks_claim_holds : Unit {0}
long_blocks_claim_holds =
    entries_at_cases also entry_of_no_run_fails also long_entry_of_no_run_fails also run_not_once_in_ledger_fails also part_of_no_run_fails
    also last_part_of_no_run_fails also runs_wrong_over_list_fail also tt
