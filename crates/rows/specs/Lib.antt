pub mod Kept
pub mod Layers
pub mod Tables
