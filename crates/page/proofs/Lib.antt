-- Laws of the definitions of `page`.
pub mod Unpacked
pub mod Small
pub mod Length
