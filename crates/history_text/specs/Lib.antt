pub mod HistoryText
pub mod LineForms
pub mod Reading
pub mod Sending
pub mod Spelled
pub mod TakenLine
