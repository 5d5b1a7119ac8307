pub mod BigEndian
pub mod Frame
pub mod Frames
