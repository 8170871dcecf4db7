-- Definitions of the crate `grid`.
pub mod Refusals
pub mod Check
pub mod Accepted
pub mod Said
pub mod Filled
pub mod Rows
