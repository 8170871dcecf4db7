-- Laws of the efficacies.
pub mod Worked
