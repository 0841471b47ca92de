-- Words of the contracts inside this crate, each after those that it names.
pub mod Levels
pub mod Origins
pub mod Walks
pub mod Views
pub mod Earliest
pub mod Readings
pub mod Found
pub mod Walked
pub mod Sited
pub mod Parts
pub mod Answers
pub mod Begun
pub mod Carried
pub mod ByTrees
pub mod Program
pub mod Admission
pub mod Laws
