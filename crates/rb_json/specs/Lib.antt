-- The JSON form of requests and replies.
pub mod Counts
pub mod Values
pub mod Exprs
pub mod Steps
pub mod Requests
pub mod Writes
pub mod Replies
pub mod Formed
pub mod Stops
pub mod Mirrors
pub mod Answering
