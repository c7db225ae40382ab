pub mod PlaceLaws
pub mod UseLaws
pub mod SoundFiles
pub mod LoadLaws
pub mod StayLaws
