pub mod Digits
pub mod LocationLemmas
pub mod LineLemmas
pub mod PieceLemmas
pub mod Writable
