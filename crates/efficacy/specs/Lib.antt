-- Definitions of the crate `efficacy`.
pub mod Efficacy
pub mod Divisors
