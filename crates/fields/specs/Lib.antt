pub mod Blank
pub mod Calendar
pub mod Codes
pub mod Decimal
pub mod Keys
pub mod Modalities
pub mod Reference
