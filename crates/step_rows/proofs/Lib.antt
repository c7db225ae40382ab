pub mod Given
pub mod ReadyLaws
