-- Definitions of the crate `slips`.
pub mod Slips
pub mod Promises
