pub mod TestedTable
