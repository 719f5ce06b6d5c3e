-- The log as bytes and as a walk: records and trailer, seats, layout.
pub mod Encoding
pub mod KindLaws
pub mod KindsSaid
pub mod LaidOut
pub mod LivePlaces
pub mod Seats
pub mod StandingLog
