-- `block_refusal::refusal_in` meets its contract. The goals that are not here are found alone; this one is not, where no refusal is given. Assumes nothing.
use Rattle.call_rules.proofs.AddressRefusalLaws.{address_refusal_7}
use Rattle.block_refusal.proofs.refusal_in.Goals as goal

pub returns-then-not-is_live_in : goal.returns-then-not-is_live_in
returns-then-not-is_live_in c s en eb =
    address_refusal_7 s _ _ (c.is_unmapped.ensures s en eb) c.if-is_unmapped.false
    _ (c.is_misaligned.ensures s eb) c.if-is_misaligned.false
    _ (c.is_live_in.ensures s eb) c.if-not-is_live_in.true
