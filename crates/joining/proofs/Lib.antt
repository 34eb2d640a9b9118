pub mod Begins
pub mod Reading
