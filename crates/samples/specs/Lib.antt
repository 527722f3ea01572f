pub mod Kept
pub mod Outputs
pub mod Samples
pub mod Writing
