pub mod Questions
pub mod Refusals
pub mod Image
pub mod Accepted
