-- Definitions of the crate `curves`.
pub mod Lit
