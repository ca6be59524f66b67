pub mod Syntax
pub mod Decode
pub mod Count
pub mod Exprs
pub mod Places
