pub mod Sending
pub mod Handing
pub mod Laws
pub mod SendingLaws
pub mod HandingLaws
