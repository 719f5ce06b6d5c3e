-- Calls one after the other: what every run keeps, and the theorems over runs.
pub mod Handled
pub mod Holders
pub mod NewDays
pub mod OfRuns
pub mod Running
pub mod Told
