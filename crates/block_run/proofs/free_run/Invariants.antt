-- `block_run::free_run` meets its contract. The loop's invariant: the superblocks of the run below i are unused. Assumes nothing.
use Rattle.call_rules.specs.LongBlocks.{made_unused}
use Rattle.block_run.proofs.RunStepLaws.{ChangedBelow}
use Rattle.block_run.proofs.free_run.Given as goal

abbrev pub invariant-loop-i : goal.invariant-loop-i
invariant-loop-i l = ChangedBelow made_unused l.k l.i l.initial.t l.t
