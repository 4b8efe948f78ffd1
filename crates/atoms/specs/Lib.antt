pub mod Refusals
pub mod Tokens
