pub mod Forms
pub mod MeshLaws
pub mod PolygonLaws
pub mod PolygonOnLaws
pub mod Shortness
pub mod Waiting
