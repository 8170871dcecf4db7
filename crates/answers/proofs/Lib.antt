-- Laws of answers that are worked from sums.
pub mod Values
pub mod Fit
