pub mod Calling
pub mod Statements
