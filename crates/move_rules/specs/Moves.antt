-- The move rule, which restores a heap's emptiness invariant: superblocks pass to the global heap, heap 0, while both conditions hold.
use Rattle.std.specs.Prelude.{ℕ, zero, suc, ◌+◌, ◌-◌, ◌*◌, Bool, eqb, ltb, Option, Some, None}
use Rattle.base_laws.specs.Sums.{pick, both}
use Rattle.class_rules.specs.Classes.{blocks_of}
use Rattle.heap_rules.specs.declared.State.{State}
use Rattle.heap_rules.specs.declared.Moved.{Moved}
use Rattle.heap_rules.specs.Table.{table_length, superblock_at, with_owner}
use Rattle.heap_rules.specs.States.{with_superblock}
use Rattle.heap_rules.specs.Counts.{blocks_in, live_of}
use Rattle.choice_rules.specs.Choice.{emptiest}

-- "u + K × n < a and q × u < (q - p) × a"
unfoldable pub both_conditions : (spare p q n a u : ℕ) → Bool
both_conditions spare p q n a u = both (ltb (u + spare * n) a) (ltb (q * u) ((q - p) * a))

-- heap h and class c meet both conditions of the move rule: its emptiness invariant is broken
unfoldable pub must_move : ℕ → ℕ → State → Bool
must_move h c s = both_conditions s.setup.spare s.setup.p s.setup.q (blocks_of c) (blocks_in h c s) (live_of h c s)

-- superblock k passes to heap 0
unfoldable pub transferred : ℕ → State → State
transferred k s = with_superblock s k (with_owner 0 (superblock_at s k))

-- the superblock that was found, if any, passes to heap 0
unfoldable pub found_transferred : Option ℕ → State → State
found_transferred (Some k) s = transferred k s
found_transferred None s = s

-- the moves while both conditions are met, at most as many as the first number, after m moves
unfoldable pub transfers_up_to : ℕ → ℕ → ℕ → ℕ → State → Moved
transfers_up_to zero h c m s = record { moves = m; state = s }
transfers_up_to (suc k) h c m s = pick (must_move h c s) (transfers_up_to k h c (m + 1) (found_transferred (emptiest h c s) s))
    (record { moves = m; state = s })

-- "While u + K × n < a and q × u < (q - p) × a, heap i's class-c superblock with the fewest live .. passes to heap 0."
-- 64 turns are enough, since a heap has no more superblocks.
unfoldable pub excess_transferred : ℕ → ℕ → State → Moved
excess_transferred h c s = transfers_up_to table_length h c 0 s

-- "If the owner is heap 0 the call ends." Else the moves, for the owner and the class.
unfoldable pub invariant_restored : ℕ → ℕ → State → Moved
invariant_restored h c s = pick (eqb h 0) (record { moves = 0; state = s }) (excess_transferred h c s)
