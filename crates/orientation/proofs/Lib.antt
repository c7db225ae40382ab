pub mod TurnLaws
pub mod Telling
