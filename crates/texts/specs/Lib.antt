pub mod Letters
pub mod Placed
pub mod Said
