mod Capping
mod Composing
mod Counting
pub mod Fitting
mod Midway
mod Putting
mod Steps
mod Turning
