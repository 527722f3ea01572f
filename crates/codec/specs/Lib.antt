pub mod Encoding
pub mod Items
pub mod Numbers
pub mod Piles
pub mod Reading
pub mod Trees
