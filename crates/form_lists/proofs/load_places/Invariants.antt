-- The places passed are as the bytes have them. Assumes nothing.
use mathlib.Core.Path.{◌≡◌}
use Prim.Native.Nat.{◌+◌, ◌*◌}
use lib.ListN.{take}
use Rattle.bytes_rules.specs.Bytes.{two_at}
use Rattle.base_laws.specs.Lists.{listed}
use Rattle.form_lists.proofs.load_places.Given as goal

abbrev pub invariant-loop-i : goal.invariant-loop-i
invariant-loop-i l = take l.i l.order ≡ listed (λ k. two_at l.bytes (l.at + 2 * k)) l.i
