pub mod Turns
pub mod Kinds
pub mod Rules
pub mod Laws
