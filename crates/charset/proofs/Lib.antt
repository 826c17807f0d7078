pub mod Filling
pub mod Inverse
pub mod Lookup
pub mod Tables
