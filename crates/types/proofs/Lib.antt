mod FitsCases
mod FloatFacts
mod FoldCases
pub mod FromGood
mod SizeCases
mod Tables
pub mod TypeCases
mod ValueCases
