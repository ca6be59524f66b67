pub mod Amounts
pub mod Arena
pub mod Counted
pub mod Cut
pub mod Floats
pub mod Instructions
pub mod Search
pub mod Steps
