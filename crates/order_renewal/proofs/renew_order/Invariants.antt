-- `order_renewal::renew_order` meets its contract. After j turns each of the first j places of the superblock has its number. Assumes nothing.
use mathlib.Core.Path.{◌≡◌}
use Prim.Native.Nat.{ℕ, ◌-◌, ◌<◌}
use lib.ListN.{get_or}
use Rattle.order_renewal.proofs.renew_order.Given as goal

abbrev pub invariant-loop-j : goal.invariant-loop-j
invariant-loop-j l = (k : ℕ) → k < l.j → get_or l.place-items k 0 ≡ l.m - 1 - k
