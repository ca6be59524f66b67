pub mod Cases
pub mod Held
pub mod Judged
pub mod Lists
pub mod Once
pub mod Records
pub mod Unfold
