pub mod RankingLaws
