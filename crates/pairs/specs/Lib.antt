pub mod CellPass
pub mod Commits
pub mod Square
