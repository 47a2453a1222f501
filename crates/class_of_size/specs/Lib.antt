pub mod SizeTable
