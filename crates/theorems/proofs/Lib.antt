pub mod AfterCall
pub mod Following
pub mod Theorems
