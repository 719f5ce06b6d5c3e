pub mod ByPlaces
pub mod Settled
