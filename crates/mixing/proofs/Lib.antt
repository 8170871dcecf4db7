-- Laws of the definitions of `mixing`.
pub mod Nearest
pub mod Sum
pub mod Mixture
pub mod Illuminance
pub mod Coordinate
