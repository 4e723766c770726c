pub mod Items
pub mod Packed
pub mod Contents
