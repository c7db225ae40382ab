pub mod Lines
pub mod Texts
pub mod Causes
pub mod Files
pub mod ByNumber
