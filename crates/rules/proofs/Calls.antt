-- What holds of one call: its reasons, what is known when none applies, its outcome by cases, what it keeps.
pub mod Asked
pub mod Conflict
pub mod EachCall
pub mod Joined
pub mod JudgedStep
pub mod Reasons
pub mod Shown
pub mod SoundCalls
pub mod Unlent
