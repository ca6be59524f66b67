pub mod AllLaws
pub mod CallLaws
pub mod Everywhere
