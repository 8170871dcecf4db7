-- Definitions of the crate `figures`.
pub mod Asked
pub mod Rows
pub mod Promises
