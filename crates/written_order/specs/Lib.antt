pub mod Placed
pub mod Numbering
pub mod Orders
