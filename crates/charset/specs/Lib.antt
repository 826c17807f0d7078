pub mod Characters
pub mod Coding
pub mod Pages
pub mod Tables
