pub mod Building
pub mod Standing
pub mod Telling
