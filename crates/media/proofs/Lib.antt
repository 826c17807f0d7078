pub mod Appending
pub mod Midway
pub mod Scanning
pub mod Standing
pub mod Translating
pub mod Writing
