pub mod Blank
pub mod Calendar
pub mod Decimal
pub mod Marks
pub mod Reference
