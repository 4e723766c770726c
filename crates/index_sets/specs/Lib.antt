pub mod Refusals
pub mod Finding
pub mod Sets
pub mod Among
pub mod Tables
