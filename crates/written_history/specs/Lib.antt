pub mod Told
pub mod Numbered
