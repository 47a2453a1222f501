use Rattle.call_drop.proofs.FreesLaws.{no_frees_made, free_can_be_made, free_made, all_frees_made}
use Rattle.call_drop.proofs.free_all.Goals as goal

pub loop-address-init : goal.loop-address-init
loop-address-init c = search no_frees_made

pub release_block-t-requires : goal.release_block-t-requires
release_block-t-requires c = free_can_be_made _ _ _ _ _ _ c.loop-address.invariant c.requires c.loop-address-test.true

pub loop-address-preserved : goal.loop-address-preserved
loop-address-preserved c = search free_made

pub returns : goal.returns
returns c = all_frees_made _ _ _ _ _ _ c.loop-address.invariant c.loop-address-test.false
