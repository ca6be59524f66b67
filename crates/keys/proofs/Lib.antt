pub mod ChainLaws
pub mod FoundLaws
pub mod FunctionLaws
pub mod KeyLaws
pub mod KeySearch
pub mod PartLaws
pub mod SlotLaws
