pub mod Gaps
pub mod Making
pub mod Ranges
pub mod Same
