pub mod Trees
pub mod Places
pub mod Steps
pub mod Written
