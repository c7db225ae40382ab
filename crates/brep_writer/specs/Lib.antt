pub mod Dress
pub mod WrittenFile
pub mod Sources
pub mod Located
pub mod Plans
pub mod OwnVersion
pub mod Copies
