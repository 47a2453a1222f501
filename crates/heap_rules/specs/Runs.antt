-- The run of a long block, as facts of a state (document 02, item 7).
use Rattle.std.specs.Prelude.{ℕ, ◌+◌, ◌≤◌, ◌<◌, ◌≡◌, true}
use Rattle.class_rules.specs.Classes.{longest_run}
use Rattle.heap_rules.specs.declared.State.{State}
use Rattle.heap_rules.specs.Table.{table_length, superblock_at, is_of_run}

-- superblock m is one of the n from k on
abbrev pub InRun : ℕ → ℕ → ℕ → Type 0
InRun k n m = (k ≤ m) × (m < k + n)

-- superblock k is the first of a run of n superblocks: "The first carries the run's length, every other superblock 0"; "runs are whole and at most 16 long"
pub record RunAt (s : State) (k n : ℕ) : Type 0 where
  pub length_is : (superblock_at s k).run ≡ n
  pub some : 1 ≤ n
  pub at_most_16 : n ≤ longest_run
  pub in_table : k + n ≤ table_length
  pub of_run : (m : ℕ) → k ≤ m → m < k + n → is_of_run (superblock_at s m) ≡ true
  pub others_carry_0 : (m : ℕ) → k < m → m < k + n → (superblock_at s m).run ≡ 0
