pub mod Contexts
pub mod Counterexamples
pub mod Documents
pub mod Laws
pub mod Nodes
pub mod PathNodes
pub mod Steps
pub mod Writing
