pub mod Ordered
pub mod Statements
