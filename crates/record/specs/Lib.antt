-- Definitions of the crate `record`.
pub mod Bits
pub mod Format
pub mod Answer
pub mod Said
pub mod Leaf
