-- `heap_tests::starts_run` meets its contract: the tests of owner and run length are the definition's, in its order. Assumes nothing.
use borrow.Author.Tests.{eq-eqb, ne_eqb}
use Rattle.heap_rules.specs.Table.{is_of_run, starts_run}
use Rattle.heap_tests.proofs.starts_run.Goals as goal

pub returns-then-b-eq-RUN_OWNER : goal.returns-then-b-eq-RUN_OWNER
unfolding starts_run is_of_run
returns-then-b-eq-RUN_OWNER c = search eq-eqb

pub returns-else-b-eq-RUN_OWNER : goal.returns-else-b-eq-RUN_OWNER
unfolding starts_run is_of_run
returns-else-b-eq-RUN_OWNER c = search ne_eqb
