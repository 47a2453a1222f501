pub mod Stream
