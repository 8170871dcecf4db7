-- The table's test, and the law that makes its claim of it.
pub mod Test
