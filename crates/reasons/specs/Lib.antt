-- The lengths of what is lent.
pub mod Lengths
