pub mod Packed
pub mod Completed
pub mod Joins
