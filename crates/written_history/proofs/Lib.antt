pub mod SortLaws
pub mod NumberLaws
pub mod ToldLaws
pub mod OnceLaws
