pub mod Checks
pub mod Marks
pub mod Numbers
pub mod Rules
pub mod Values
