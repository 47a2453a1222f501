-- `block_run::take_run` meets its contract. The loop's invariant: the superblocks of the run below m joined it. Assumes nothing.
use Rattle.call_rules.specs.LongBlocks.{joined_to_run}
use Rattle.block_run.proofs.RunStepLaws.{ChangedBelow}
use Rattle.block_run.proofs.take_run.Given as goal

abbrev pub invariant-loop-m : goal.invariant-loop-m
invariant-loop-m l = ChangedBelow (joined_to_run l.k l.n) l.k l.m l.initial.t l.t
