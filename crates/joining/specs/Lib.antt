pub mod Finding
pub mod Headings
pub mod Faults
pub mod Jobs
