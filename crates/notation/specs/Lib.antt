pub mod Lists
pub mod Sets
pub mod Words
