pub mod Counting
pub mod Midway
pub mod Taking
