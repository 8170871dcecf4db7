-- Laws of the definitions of `record`.
pub mod Bits
pub mod Rows
pub mod Window
pub mod Fields
pub mod Store
pub mod Packed
pub mod Refusals
pub mod Accepted
pub mod Reading
pub mod SpectrumRead
