pub mod Places
pub mod First
pub mod Next
pub mod Reasons
