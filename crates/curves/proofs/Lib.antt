-- Laws of weighted rows.
pub mod Places
pub mod Stretches
pub mod Product
