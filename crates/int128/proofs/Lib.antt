-- Laws that the proofs share, and that callers' proofs may cite.
pub mod Difference
pub mod Range
pub mod Halves
pub mod Whole
pub mod Signs
pub mod Complement
pub mod Compare
pub mod Small
pub mod Bitwise
pub mod Moved
pub mod Counts
pub mod Sign
pub mod Columns
pub mod Products
pub mod Digits
pub mod Normal
mod Examples
