-- Definitions of the crate `readings`.
pub mod Readings
pub mod Sums
pub mod Figures
