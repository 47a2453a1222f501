pub mod FreeUncheckedLaws
