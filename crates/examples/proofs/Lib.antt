pub mod Plans
pub mod Run
pub mod Examples
