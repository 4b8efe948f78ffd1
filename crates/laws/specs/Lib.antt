pub mod Demands
pub mod Backlogs
pub mod Grammar
pub mod Holding
pub mod Sanity
pub mod Parts
