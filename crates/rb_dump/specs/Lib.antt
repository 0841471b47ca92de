-- What is stated of the bytes that are shown: how pieces cover them, and what is told of payloads, frames and journals.
pub mod Pieces
pub mod Found
pub mod Verdicts
pub mod Leads
pub mod Streams
pub mod Journals
pub mod Dumps
