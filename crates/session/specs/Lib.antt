pub mod Faults
pub mod States
pub mod Refusals
pub mod Carrying
pub mod Views
pub mod Stepped
pub mod Standing
pub mod Commands
