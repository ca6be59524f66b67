pub mod Value
pub mod Ops
pub mod Magnitude
