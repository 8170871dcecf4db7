-- That every contract determines its function.
pub mod Determined
pub mod DeterminedLeaves
