-- The lemmas on typed code.
pub mod Checks
pub mod Parts
pub mod TypeFacts
pub mod SitesWithin
pub mod Values
pub mod Faults
pub mod Results
pub mod Steps
pub mod Known
pub mod OwnKinds
pub mod Names
pub mod Objects
pub mod Exprs
pub mod Stmts
pub mod Bodies
mod Services
pub mod InSurroundings
pub mod Served
mod FarValues
mod Far
mod ScriptRuns
mod NodeSizes
mod NodeFaults
mod FormedCode
