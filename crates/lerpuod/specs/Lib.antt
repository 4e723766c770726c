pub mod Commands
pub mod Hex
pub mod Refused
pub mod Lines
pub mod Execution
