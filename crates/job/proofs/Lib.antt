pub mod Behind
pub mod Digits
pub mod Laying
pub mod Outcomes
pub mod Returning
pub mod Sizes
pub mod Elements
