pub mod Names
pub mod ScopeLaws
