pub mod Puts
pub mod Emitted
