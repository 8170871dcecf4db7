-- Definitions of the crate `page`.
pub mod Recorded
pub mod Report
pub mod Answer
pub mod Said
pub mod Shown
