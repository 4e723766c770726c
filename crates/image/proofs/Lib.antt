pub mod Questions
pub mod Judgement
pub mod Accepted
pub mod GivenWords
pub mod Rules
