pub mod Total
pub mod Tested
pub mod Inverse
pub mod Powers
pub mod Written
pub mod Combining
