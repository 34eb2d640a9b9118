pub mod Field
pub mod Rows
