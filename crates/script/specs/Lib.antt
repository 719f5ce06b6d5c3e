pub mod Blanks
pub mod Fronts
pub mod Hex
pub mod LineCalls
pub mod Numeral
pub mod Pieces
pub mod ReadBack
