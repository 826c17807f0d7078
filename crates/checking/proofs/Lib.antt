pub mod Justifying
pub mod Telling
