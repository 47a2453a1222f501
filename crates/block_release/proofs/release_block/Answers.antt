-- `block_release::release_block` meets its contract. Assumes nothing.
use borrow.Author.Rules.{rules}
use Rattle.block_release.proofs.FreeStepLaws.{block_freed_by_steps}
use Rattle.block_release.proofs.release_block.Goals as goal

pub returns : goal.returns
returns c = (search block_freed_by_steps, search rules)
