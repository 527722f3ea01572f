pub mod Entries
pub mod Slots
pub mod Groups
pub mod Spelling
pub mod Writing
pub mod Walking
pub mod Codes
