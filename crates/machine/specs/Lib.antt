pub mod Processor
pub mod Rv32i
pub mod Run
pub mod Refusals
pub mod Calls
