-- Definitions of the crate `answers`.
pub mod Worked
pub mod Said
pub mod Sums
