pub mod HeapLineLaws
