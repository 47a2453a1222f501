-- What the check of document 01, "The state handed in", asks of each superblock alone. Assumes nothing.
use Rattle.std.specs.Prelude.{Bool, List, ℕ, get_or}
use Rattle.base_laws.specs.Sums.{both, all_below}
use Rattle.heap_rules.specs.declared.Superblock.{Superblock}
use Rattle.heap_rules.specs.declared.Setup.{Setup}
use Rattle.heap_rules.specs.Table.{table_length, blank}
use Rattle.check_rules.specs.Check.{superblock_valid, unused_from, sparse_if_global}

-- what the check asks of superblock k alone
unfoldable pub alone_valid : Setup → List ℕ → ℕ → Superblock → Bool
alone_valid u order k b = both (superblock_valid u order k b) (both (unused_from u.superblocks k b) (sparse_if_global u b))

-- and so each superblock
unfoldable pub each_valid : Setup → List Superblock → List ℕ → Bool
each_valid u table order = all_below (λ k. alone_valid u order k (get_or table k blank)) table_length
