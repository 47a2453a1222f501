-- The line of a heap and class, by the totals kept. Assumes nothing.
use mathlib.Core.Path.{◌≡◌}
use mathlib.Core.List.{[]}
use Prim.Native.Nat.{ℕ, ◌+◌, ◌*◌, ◌<◌}
use lib.ListN.{get_or}
use borrow.Author.Tests.{eq-eqb, ne_eqb}
use Rattle.class_rules.specs.Classes.{class_count}
use Rattle.heap_rules.specs.declared.State.{State}
use Rattle.heap_rules.specs.Totals.{heap_count, superblocks_kept, live_kept, TotalsKept}
use Rattle.heap_laws.proofs.TotalsLaws.{superblocks_kept_are_counted, live_kept_is_counted}
use Rattle.line_rules.specs.Lines.{heap_line, heap_line_if}

module _ (h c : ℕ) (s : State) (lh : h < heap_count) (lc : c < class_count) (kept : TotalsKept s) (x : ℕ) (e : x ≡ h * class_count + c) where
  -- a heap and class whose total of superblocks is kept as 0 has no line
  pub heap_line_if_of_none : get_or s.totals.superblocks x 0 ≡ 0 → heap_line_if h c s ≡ []
  unfolding heap_line_if superblocks_kept
  heap_line_if_of_none z = rw (← superblocks_kept_are_counted s h c lh lc kept, ← e, eq-eqb _ 0 z)

  -- another has one, with both totals as kept
  pub heap_line_if_of_some : (get_or s.totals.superblocks x 0 ≡ 0 → ⊥)
      → heap_line_if h c s ≡ heap_line h c (get_or s.totals.superblocks x 0) (get_or s.totals.live x 0)
  unfolding heap_line_if superblocks_kept live_kept
  heap_line_if_of_some some =
      rw (← superblocks_kept_are_counted s h c lh lc kept, ← live_kept_is_counted s h c lh lc kept, ← e, ne_eqb _ 0 some)
