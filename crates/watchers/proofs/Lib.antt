pub mod TellingLaws
pub mod HearingLaws
