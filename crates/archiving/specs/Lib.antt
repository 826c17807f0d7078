pub mod Entering
pub mod Numbers
pub mod Reads
