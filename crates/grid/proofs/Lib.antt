-- Laws of the checks, and of rows that are filled.
pub mod Limit
pub mod Accepted
pub mod Light
pub mod Filled
