pub mod Numbers
pub mod Opening
pub mod Reading
pub mod Writing
