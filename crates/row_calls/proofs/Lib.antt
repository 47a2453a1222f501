pub mod LoadStoreLaws
pub mod RowCallLaws
