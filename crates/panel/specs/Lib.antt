-- Definitions of the crate `panel`.
pub mod Panel
pub mod Figures
