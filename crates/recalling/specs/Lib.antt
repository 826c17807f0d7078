pub mod Caps
pub mod Checking
pub mod Numbers
pub mod Remaining
pub mod Statements
pub mod Writing
