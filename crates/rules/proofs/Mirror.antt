-- Books, table and drafts mirror the day, call by call.
pub mod Callers
pub mod CellsRead
pub mod CellsWritten
pub mod CommittedHeld
pub mod DayGrows
pub mod MirrorKinds
pub mod MirrorNew
pub mod MirrorStep
pub mod Mirrored
pub mod Mirrors
pub mod Valued
