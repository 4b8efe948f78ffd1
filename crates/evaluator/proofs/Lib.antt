pub mod Marks
pub mod Unfolds
pub mod Begins
pub mod Finishes
pub mod Turns
pub mod Insides
pub mod Calling
pub mod Evaluations
