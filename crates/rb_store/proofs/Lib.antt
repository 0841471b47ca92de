-- The lemmas on texts of services.
pub mod Rules
pub mod Classes
pub mod Items
pub mod Lines
pub mod Numbered
pub mod Fitting
pub mod Made
pub mod Told
