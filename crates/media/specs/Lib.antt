pub mod Bytes
pub mod Copying
pub mod Endings
pub mod Frames
pub mod Images
pub mod Meaning
pub mod Translation
pub mod Volumes
