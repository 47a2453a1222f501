pub mod TotalsInvariant
