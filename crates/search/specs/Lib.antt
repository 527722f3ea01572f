pub mod Visits
pub mod Pairs
pub mod Paths
pub mod Questions
pub mod Scratch
pub mod Sequences
pub mod Watching
pub mod Words
