pub mod FirstPlaces
pub mod Occurrences
pub mod MetLemmas
pub mod NumberLemmas
pub mod EnterLemmas
pub mod ListLemmas
pub mod AboveLemmas
