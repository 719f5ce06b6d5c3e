pub mod Columned
pub mod Found
