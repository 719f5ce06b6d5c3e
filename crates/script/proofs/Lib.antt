pub mod HexLaws
pub mod Holding
pub mod Naming
pub mod ReadBack
pub mod Scanning
