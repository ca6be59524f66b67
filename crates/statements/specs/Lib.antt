pub mod Stack
pub mod Labels
pub mod Converting
pub mod Lent
pub mod Meets
pub mod Parts
pub mod Answers
pub mod Turns
