-- Definitions of the crate `spectrum`.
pub mod Spectrum
pub mod Line
pub mod Lay
pub mod Begin
