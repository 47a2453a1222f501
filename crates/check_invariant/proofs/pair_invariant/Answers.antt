-- `check_invariant::pair_invariant` meets its contract: without superblocks the first condition fails. Assumes nothing.
use Rattle.check_invariant.proofs.EmptinessInvariantLaws.{blocks_of_byte_fit, pair_invariant_of_no_superblocks, pair_invariant_by_both_conditions}
use Rattle.std.proofs.Common.{arith}
use Rattle.check_invariant.proofs.pair_invariant.Goals as goal

pub returns-then-superblocks-eq0 : goal.returns-then-superblocks-eq0
returns-then-superblocks-eq0 c = pair_invariant_of_no_superblocks _ _ _ _ (omega arith)

pub overflow_mul-superblocks : goal.overflow_mul-superblocks
overflow_mul-superblocks c = search blocks_of_byte_fit

pub returns : goal.returns
returns c = search pair_invariant_by_both_conditions
