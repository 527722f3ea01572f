pub mod Counting
pub mod Digits
pub mod Leading
pub mod Members
