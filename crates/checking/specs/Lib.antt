pub mod Checking
pub mod Examples
pub mod Laws
pub mod Steps
