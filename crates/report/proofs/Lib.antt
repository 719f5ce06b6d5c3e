pub mod Reporting
pub mod Telling
