-- Definitions of the crate `exact`.
pub mod Fits
