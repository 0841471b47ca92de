-- The lemmas on divisions.
pub mod Lists
mod Carriable
mod Batches
mod Numbers
mod Requests
mod Formed
mod Used
mod Known
mod Calls
mod Outer
mod Roots
mod Travels
mod Valid
mod Sent
mod Early
mod Reading
mod Sends
mod Replied
mod Overs
pub mod Held
mod Fitting
mod Nodes
mod Marked
mod RemoteFaults
mod Falls
pub mod Parted
pub mod Unmarked
mod OwnFaults
mod SentSites
