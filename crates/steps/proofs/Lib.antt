pub mod Either
pub mod Known
