-- `heap_tests::is_unowned` meets its contract: the second test is asked where the first fails. Assumes nothing.
use Rattle.std.proofs.Common.{◌≡◌, Bool, true, false}
use Rattle.heap_rules.specs.declared.Superblock.{Superblock}
use Rattle.heap_rules.specs.Table.{is_unused}
use Rattle.check_rules.specs.Check.{is_part_of_run, is_unowned}
use Rattle.heap_tests.proofs.is_unowned.Goals as goal

unowned_of_unused : (b : Superblock) (u : Bool) → u ≡ is_unused b → u ≡ true → u ≡ is_unowned b
unfolding is_unowned
unowned_of_unused b u e h = rw (← e, h)

pub returns-then-is_unused : goal.returns-then-is_unused
returns-then-is_unused c = search unowned_of_unused

unowned_is_part_of_run : (b : Superblock) (u p : Bool) → u ≡ is_unused b → u ≡ false → p ≡ is_part_of_run b → p ≡ is_unowned b
unfolding is_unowned
unowned_is_part_of_run b u p e h q = rw (← e, h) q

pub returns-else-is_unused : goal.returns-else-is_unused
returns-else-is_unused c = search unowned_is_part_of_run
