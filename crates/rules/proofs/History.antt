-- Source document 000: what `accepted` says of histories, local opacity, permissiveness.
pub mod AcceptedSays
pub mod Blocks
pub mod EventOrder
pub mod HistoryParts
pub mod InTurn
pub mod LegalInTurn
pub mod LocalOpacity
pub mod OrdersSay
pub mod TakenApart
pub mod ValidReads
