pub mod Checks
pub mod Faults
