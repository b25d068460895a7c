-- A slave at work in a program. `Stored`: bytes that are stored in a memory. `Frame`: the frame that a slot writes.
pub mod Stored
pub mod Frame
