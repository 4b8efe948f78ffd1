pub mod Numbers
pub mod Named
pub mod Gathered
pub mod Frames
pub mod Scanned
