pub mod FreeRefusal
