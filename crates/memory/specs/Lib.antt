pub mod Refusals
pub mod Words
pub mod Contents
pub mod Bytes
pub mod Lanes
