-- The run that a long block takes (document 02, item 7): "the lowest-numbered run of neighbouring superblocks, all below N, that are each unused or
-- empty in heap 0".
use Rattle.std.specs.Prelude.{ℕ, zero, suc, ◌+◌, Bool, leb, Option, Some, None}
use Rattle.base_laws.specs.Sums.{pick, both, either, all_below}
use Rattle.heap_rules.specs.declared.Superblock.{Superblock}
use Rattle.heap_rules.specs.declared.State.{State}
use Rattle.heap_rules.specs.Table.{table_length, superblock_at, is_unused}
use Rattle.choice_rules.specs.Choice.{empty_in_global, or_else}

-- "unused or empty in heap 0", of any class
unfoldable pub is_available : Superblock → Bool
is_available b = either (is_unused b) (empty_in_global b)

-- the n superblocks from k on are "all below N" and each available
unfoldable pub is_free_run : ℕ → State → ℕ → Bool
is_free_run n s k = both (leb (k + n) s.setup.superblocks) (all_below (λ j. is_available (superblock_at s (k + j))) n)

-- the lowest of the numbers below n that pass a test
unfoldable pub lowest_below : (ℕ → Bool) → ℕ → Option ℕ
lowest_below test zero = None
lowest_below test (suc k) = or_else (lowest_below test k) (pick (test k) (Some k) None)

-- the first superblock of the lowest-numbered run of n superblocks
unfoldable pub lowest_run : ℕ → State → Option ℕ
lowest_run n s = lowest_below (is_free_run n s) table_length
