-- Laws that the functions' proofs cite.
pub mod Data
pub mod Masks
pub mod Reading
pub mod Slicing
pub mod Heeding
pub mod Feeding
