pub mod Computed
pub mod PassLaws
pub mod SortedLaws
pub mod TextLaws
