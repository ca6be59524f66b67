pub mod Rule
pub mod TreeRun
pub mod BodyRun
pub mod Shared
