pub mod CycleAnswer
pub mod Given
pub mod Lowest
pub mod Next
pub mod Peel
pub mod Rounds
pub mod Unmarked
