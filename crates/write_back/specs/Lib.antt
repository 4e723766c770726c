pub mod Own
pub mod Layer
