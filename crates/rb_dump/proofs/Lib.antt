-- What showing bytes stands on.
pub mod Shorter
pub mod Tiled
pub mod Taken
pub mod Led
pub mod Told
pub mod Recorded
