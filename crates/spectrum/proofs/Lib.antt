-- Laws of spectra.
pub mod EndRule
pub mod Measured
pub mod Constant
pub mod Lay
pub mod Light
pub mod Parts
pub mod Given
