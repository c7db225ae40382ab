pub mod Readings
pub mod Asking
pub mod Limits
pub mod Collecting
pub mod Deriving
pub mod Making
pub mod Answers
