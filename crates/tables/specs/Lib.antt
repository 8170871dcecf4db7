-- Definitions of the crate `tables`.
pub mod Tables
pub mod Settings
pub mod Curves
pub mod Column
pub mod Units
pub mod Columns
pub mod Held
pub mod Promises
