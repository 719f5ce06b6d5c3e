pub mod Room
pub mod Written
