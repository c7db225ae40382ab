pub mod Walks
pub mod Going
pub mod Levels
pub mod Trails
