pub mod Examples
pub mod Files
pub mod KeptIn
pub mod Promises
pub mod Runs
pub mod Whole
