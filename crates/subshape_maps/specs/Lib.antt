pub mod Shapes
pub mod Maps
pub mod Refusals
pub mod Numbered
pub mod Above
