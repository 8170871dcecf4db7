-- Laws of readings.
pub mod Setting
pub mod Worked
pub mod Small
pub mod Rows
pub mod Given
