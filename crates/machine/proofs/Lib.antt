pub mod Issuing
pub mod Results
pub mod SoundAnswer
pub mod Staying
