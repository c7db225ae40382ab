pub mod Joins
pub mod FieldLaws
pub mod Spelling
pub mod Steps
pub mod FieldForms
