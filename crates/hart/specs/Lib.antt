pub mod Registers
pub mod State
pub mod Alu
pub mod Stops
pub mod Plan
