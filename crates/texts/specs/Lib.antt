pub mod Pass
pub mod Texts
