pub mod Requests
pub mod Cutting
pub mod Answers
