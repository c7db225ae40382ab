pub mod Kinds
pub mod Names
pub mod Asking
pub mod Refusals
pub mod Named
pub mod Numbered
pub mod AsTrees
