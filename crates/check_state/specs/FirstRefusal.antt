-- The refusals that all calls on a state share, as one number, and what the code asks of the totals.
use Rattle.std.specs.Prelude.{ℕ, ◌*◌, Bool, List, length, leb}
use Rattle.base_laws.specs.Sums.{pick, both}
use Rattle.order_rules.specs.Order.{places_each}
use Rattle.refusal_rules.specs.Refusals.{storage_too_small, state_invalid}
use Rattle.heap_rules.specs.declared.State.{State}
use Rattle.heap_rules.specs.Totals.{recounted}
use Rattle.check_rules.specs.Check.{within_limits, same_totals, rest_valid}
use Rattle.check_invariant.specs.TotalsInvariant.{totals_invariant}

-- "Take or free: 13 for setup numbers, 12, the rest of 13"; 0 where none applies
unfoldable pub first_refusal : State → List ℕ → ℕ
first_refusal s order =
    pick (within_limits s.setup)
    (pick (leb (s.setup.superblocks * places_each) (length order)) (pick (rest_valid s order) 0 state_invalid) storage_too_small)
    state_invalid

-- the totals kept are those of a recount, which keep the emptiness invariant
abbrev pub counts_valid : State → Bool
counts_valid s = both (same_totals s.totals (recounted s.table)) (totals_invariant s.setup (recounted s.table))
