-- Definitions of the crate `mixing`.
pub mod Nearest
pub mod Sum
pub mod Mixture
pub mod Promises
