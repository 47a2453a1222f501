-- `call_drop::free_all` meets its contract. The loop's invariant: the frees at the addresses passed are made. Assumes nothing.
use Rattle.call_drop.proofs.FreesLaws.{FreesMade}
use Rattle.call_drop.proofs.free_all.Given as goal

abbrev pub invariant-loop-address : goal.invariant-loop-address
invariant-loop-address l = FreesMade l.initial.t l.initial.order l.addresses l.address-index l.t l.order
