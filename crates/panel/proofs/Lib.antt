-- Laws of panels.
pub mod Sized
pub mod Rows
pub mod Given
