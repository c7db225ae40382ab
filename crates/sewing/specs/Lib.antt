pub mod Asked
pub mod Refused
pub mod Keys
pub mod AsTrees
