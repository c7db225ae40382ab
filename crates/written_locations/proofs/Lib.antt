pub mod Words
pub mod Numbers
pub mod Adding
pub mod Sections
