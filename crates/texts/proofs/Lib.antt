pub mod Counting
pub mod Fitting
pub mod Putting
pub mod Saying
pub mod Spelling
