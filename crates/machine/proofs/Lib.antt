pub mod Steps
pub mod Ends
pub mod Turns
pub mod Fills
pub mod Loading
pub mod Alike
pub mod Executes
