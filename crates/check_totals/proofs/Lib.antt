pub mod SameTotalsLaws
