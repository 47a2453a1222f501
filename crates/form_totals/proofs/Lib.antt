pub mod TotalsInLaws
