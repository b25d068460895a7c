-- Laws of what is looked up, and of the packet in its buffer.
pub mod Packet
pub mod Looked
