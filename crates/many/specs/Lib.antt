-- Definitions of the program `many`.
pub mod Generator
