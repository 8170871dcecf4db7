-- Definitions of the crate `quailribbon`.
pub mod Flat
pub mod Records
