-- `call_drop::touched_pairs` meets its contract. The loop's invariant: the array tells the heaps and classes of the addresses passed. Assumes nothing.
use Rattle.call_drop.proofs.TouchedArrayLaws.{ToldBelow}
use Rattle.call_drop.proofs.touched_pairs.Given as goal

abbrev pub invariant-loop-address : goal.invariant-loop-address
invariant-loop-address l = ToldBelow l.touched l.s l.addresses l.address-index
