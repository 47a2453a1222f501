-- `check_filled::places_valid` meets its contract: each way out answers one clause of the check. Assumes nothing.
use mathlib.Core.Path.{sym, ap, ◌∙◌}
use Prim.Native.Nat.{ℕ, ◌-◌}
use native.Mathlib.Omega.{arith}
use Rattle.filled_rules.proofs.PlacesCheckLaws.{places_invalid_of_marks, live_count_le_blocks, places_invalid_of_short_storage, places_valid_is_each_once}
use Rattle.check_filled.proofs.places_valid.Goals as goal

pub returns-then-not-no_mark_from : goal.returns-then-not-no_mark_from
returns-then-not-no_mark_from c = search places_invalid_of_marks

pub overflow_sub-m : goal.overflow_sub-m
overflow_sub-m c = search live_count_le_blocks

pub returns-then-order-base : goal.returns-then-order-base
returns-then-order-base c = search places_invalid_of_short_storage

pub each_once-requires : goal.each_once-requires
each_once-requires c =
    let n = c.block_count-n in
    let t = c.no_mark_from in
    let x = c.live_count in (
      n.ensures.1,
      ap (λ (k : ℕ). n.result - k) x.ensures.0,
      omega arith,
      sym t.ensures ∙ c.if-not-no_mark_from.false,
    )

pub returns : goal.returns
returns c = search places_valid_is_each_once
