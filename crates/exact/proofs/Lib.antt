-- Laws of quotients.
pub mod Quotient
pub mod Shifted
