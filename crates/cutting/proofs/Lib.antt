pub mod Requests
pub mod Laying
pub mod Behind
pub mod Counting
pub mod Answering
