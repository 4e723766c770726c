pub mod Refusals
pub mod View
pub mod Calls
pub mod Laws
pub mod Detecting
