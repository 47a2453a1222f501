pub mod RunScanLaws
