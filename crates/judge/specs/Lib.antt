pub mod Equal
pub mod Inner
pub mod Judge
pub mod Keeps
pub mod Plain
