pub mod Distinct
pub mod Sameness
pub mod Results
pub mod Gathering
