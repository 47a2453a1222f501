pub mod FirstRefusal
