pub mod Checking
pub mod Table
pub mod Filling
pub mod Finding
pub mod Told
