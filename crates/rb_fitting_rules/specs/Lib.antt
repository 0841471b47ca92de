-- Which nodes fit a remainder by cases, and what is the first misfit by cases.
pub mod Agree
pub mod Heads
pub mod Misfits
pub mod Rules
