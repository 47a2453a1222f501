pub mod CallTestLaws
