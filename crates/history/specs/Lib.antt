pub mod Calls
pub mod Comparisons
pub mod Example
pub mod Law
pub mod Marked
pub mod Opening
