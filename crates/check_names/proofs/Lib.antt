pub mod NameScanLaws
