pub mod Below
pub mod Bytes
pub mod Elimination
pub mod Lists
pub mod Text
pub mod Walk
