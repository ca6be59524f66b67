pub mod AheadLaws
pub mod ArrangedLaws
pub mod GroupLaws
pub mod KeyLaws
pub mod MergeLaws
pub mod SortLaws
