pub mod Making
pub mod Kinds
pub mod Sets
