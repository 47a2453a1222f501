pub mod AddressesInLaws
