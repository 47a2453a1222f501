pub mod CommandAtLaws
