pub mod NamedCallLaws
