-- `bytes_lists::fours_at` meets its contract. The numbers passed are as the bytes have them. Assumes nothing.
use mathlib.Core.Path.{◌≡◌}
use Prim.Native.Nat.{ℕ, ◌+◌, ◌*◌, ◌<◌}
use lib.ListN.{get_or}
use Rattle.bytes_rules.specs.Bytes.{four_at}
use Rattle.bytes_lists.proofs.fours_at.Given as goal

abbrev pub invariant-loop-i : goal.invariant-loop-i
invariant-loop-i l = (k : ℕ) → k < l.i → get_or l.number-items k 0 ≡ four_at l.bytes (l.at + 4 * k)
