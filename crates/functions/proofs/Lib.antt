pub mod FunctionCases
pub mod Listing
pub mod ParameterLaws
pub mod ParameterRun
pub mod Turns
pub mod ReturnLaws
pub mod Members
pub mod BodyLaws
