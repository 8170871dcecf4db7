-- Laws of mixed, ordered and dark lights, of refusals, of the range, and of panels.
pub mod Each
pub mod Least
pub mod Passing
pub mod SumAt
pub mod Sums
pub mod Over
pub mod Instances
pub mod Strings
pub mod Two
pub mod Constant
pub mod Unlit
pub mod Refused
pub mod Range
pub mod White
