pub mod Behind
pub mod Positions
pub mod Zipped
