pub mod Faults
pub mod Sheets
