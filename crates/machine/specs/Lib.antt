pub mod Called
pub mod Promises
pub mod Statements
pub mod View
