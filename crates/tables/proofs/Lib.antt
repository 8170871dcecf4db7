-- Laws of the tables.
pub mod Each
pub mod Largest
pub mod Columns
pub mod Lit
pub mod Sums
pub mod Held
pub mod Asked
