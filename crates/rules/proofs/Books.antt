-- What holds of books and of lent bytes, whatever the call: shape, soundness, handles, cells.
pub mod CellLaws
pub mod HandleLaws
pub mod Room
pub mod Shape
pub mod SoundChanges
pub mod SoundKept
pub mod SoundStep
pub mod SoundnessSays
