-- `check_totals::same_totals` meets its contract. Assumes nothing.
use Rattle.check_totals.proofs.SameTotalsLaws.{same_totals_false_of_superblocks, same_totals_is_same_live}
use Rattle.check_totals.proofs.same_totals.Goals as goal

pub returns-then-eq : goal.returns-then-eq
returns-then-eq c = same_totals_is_same_live c.args.kept c.args.counted _ c.eq.ensures _ c.if-eq.true c.eq-then-eq.ensures

pub returns-else-eq : goal.returns-else-eq
returns-else-eq c = same_totals_false_of_superblocks c.args.kept c.args.counted _ c.eq.ensures c.if-eq.false
