pub mod Entries
pub mod Scope
pub mod Associations
pub mod Settings
pub mod Planned
