pub mod Kinds
pub mod Limits
pub mod Numbers
pub mod Offers
pub mod Phases
pub mod Progress
pub mod Taken
