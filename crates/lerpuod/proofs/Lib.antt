pub mod Executions
pub mod Digits
