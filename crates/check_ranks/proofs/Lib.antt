pub mod RankScanLaws
