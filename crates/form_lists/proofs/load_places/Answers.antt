-- `form_lists::load_places` meets its contract: each place is that of the bytes. Assumes nothing.
use Prim.Native.Nat.{ℕ, ◌+◌, ◌*◌}
use native.Mathlib.Omega.{arith}
use Rattle.bytes_rules.specs.Bytes.{two_at}
use Rattle.bytes_rules.proofs.PastEndLaws.{two_at_position_after}
use Rattle.form_rules.specs.Form.{places_in}
use Rattle.base_laws.proofs.ListedLaws.{listed_none, listed_step, listed_end}
use Rattle.form_lists.proofs.load_places.Goals as goal

pub loop-i-init : goal.loop-i-init
loop-i-init c = listed_none _

pub loop-i-preserved : goal.loop-i-preserved
loop-i-preserved c = search (listed_step, two_at_position_after)

pub returns : goal.returns
unfolding places_in
returns c =
    listed_end (λ (k : ℕ). two_at c.args.bytes.now (c.args.at + 2 * k)) c.loop-i.order c.loop-i.i _ c.loop-i.auto.order c.loop-i.invariant (omega arith)
    (omega arith)
