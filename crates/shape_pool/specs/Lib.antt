pub mod Nodes
pub mod Rows
pub mod Calls
pub mod Laws
pub mod Held
