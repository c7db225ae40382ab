pub mod Pieces
pub mod Reading
pub mod ChannelLists
pub mod OutputLists
pub mod Keeping
pub mod Begun
pub mod Files
