pub mod Limited
pub mod Places
pub mod Taken
pub mod LimitLaws
pub mod ReadLaws
pub mod PlaceLaws
pub mod WrittenLaws
pub mod SectionLaws
