pub mod Examples
pub mod Kept
pub mod Law
pub mod Lent
pub mod Outcome
pub mod Trimmed
pub mod Trimming
