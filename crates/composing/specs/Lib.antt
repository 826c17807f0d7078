pub mod Building
pub mod Layouts
pub mod Parts
pub mod Records
