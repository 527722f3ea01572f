pub mod Faults
pub mod Order
pub mod Words
