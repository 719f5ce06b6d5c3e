-- The verdict and the given order, on the books and on the day, and which lists explain a transaction.
pub mod Explained
pub mod Explaining
pub mod GivenOrders
pub mod PairsMirrored
pub mod Verdicts
