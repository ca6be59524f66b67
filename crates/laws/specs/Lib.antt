pub mod All
pub mod Below
pub mod Different
pub mod Chain
pub mod Fix
pub mod Splice
