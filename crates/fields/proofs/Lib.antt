-- What each field of the state reads as, what each change of the state changes, and that every call keeps a state consistent.
pub mod Stores
pub mod Fields
pub mod Frames
pub mod Readers
pub mod Effects
pub mod Captures
pub mod Served
pub mod Kept
pub mod Writes
