pub mod Packing
pub mod Areas
pub mod Completing
pub mod Depths
pub mod Spread
pub mod Making
