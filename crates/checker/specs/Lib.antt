pub mod Desk
pub mod Statements
