-- `call_drop_addresses::first_address_refusal` meets its contract. The loop's invariant: the addresses passed meet no refusal, and t is the table
-- without their marks and runs. Assumes nothing.
use Rattle.call_drop_addresses.proofs.FirstAddressRefusalLaws.{NoneRefused}
use Rattle.call_drop_addresses.proofs.first_address_refusal.Given as goal

abbrev pub invariant-loop-address : goal.invariant-loop-address
invariant-loop-address l = NoneRefused l.s l.addresses l.address-index l.t
