pub mod Casts
pub mod Fits
pub mod Floats
pub mod Operators
pub mod Sizes
