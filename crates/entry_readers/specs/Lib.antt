pub mod Reading
pub mod Takes
pub mod Left
pub mod Begins
pub mod Spelled
pub mod Entries
pub mod FieldForms
