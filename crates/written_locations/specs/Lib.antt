pub mod Further
pub mod Added
pub mod Laws
