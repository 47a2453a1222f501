pub mod RecountLaws
