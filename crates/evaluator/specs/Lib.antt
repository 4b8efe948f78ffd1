pub mod Listed
pub mod Performed
pub mod Evaluated
