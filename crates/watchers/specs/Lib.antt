pub mod Watching
pub mod Told
pub mod TellsAll
pub mod Hearing
