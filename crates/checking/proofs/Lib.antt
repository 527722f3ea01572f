pub mod Laws
pub mod Midst
pub mod Outcome
pub mod Small
pub mod Stepping
pub mod Trees
