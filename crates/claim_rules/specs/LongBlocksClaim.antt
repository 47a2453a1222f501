-- Long blocks and their runs, over lists of calls (document 02, item 7).
use Rattle.std.specs.Prelude.{◌≡◌, true, List, ℕ, ◌*◌, ◌/◌, ◌%◌, ◌<◌}
use Rattle.class_rules.specs.Classes.{class_count, superblock_bytes, largest_class_size, run_length}
use Rattle.heap_rules.specs.declared.State.{State}
use Rattle.heap_rules.specs.Table.{table_length, superblock_at, is_of_run}
use Rattle.heap_rules.specs.Runs.{InRun, RunAt}
use Rattle.call_rules.specs.Answers.{After}
use Rattle.claim_rules.specs.Ledger.{Entry, entries_at, EachEntry}
use Rattle.claim_rules.specs.Claim.{Step, Along}

-- "The block's address is the start of the run", and it has "as many [superblocks] as size / 4096 rounded up"
abbrev pub IsRun : State → Entry → Type 0
IsRun s e = (e.address % superblock_bytes ≡ 0) × RunAt s (e.address / superblock_bytes) (run_length e.size)

-- the long blocks of the ledger and the runs of the state
pub record LongBlocksAgree (s : State) (ledger : List Entry) : Type 0 where
  -- each block of a size above 2048 is a run of the state
  pub entries : EachEntry (λ e. largest_class_size < e.size → IsRun s e) ledger
  -- each run of the state is in the ledger, and once: of no class, which is 27
  pub runs : (k n : ℕ) → RunAt s k n → entries_at ledger (k * superblock_bytes) class_count ≡ 1
  -- and each superblock with owner 254 is part of one
  pub parts : (m : ℕ) → m < table_length → is_of_run (superblock_at s m) ≡ true → (k : ℕ) × RunAt s k (superblock_at s k).run
      × InRun k (superblock_at s k).run m

abbrev pub LongBlocksAgreeOver : After → List Entry → List Step → Type 0
LongBlocksAgreeOver before ledger steps = Along LongBlocksAgree before ledger steps
