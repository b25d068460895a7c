-- Laws that the functions' proofs cite.
pub mod Named
pub mod Counting
pub mod Sampled
pub mod Entries
pub mod Gathered
pub mod Tallied
pub mod Words
pub mod Steady
pub mod Round
pub mod Sending
pub mod Sizes
