pub mod TextLemmas
pub mod DrawLemmas
pub mod FileLemmas
