-- Laws of the model that proofs cite.
pub mod Bounded
pub mod Shown
pub mod Fits
pub mod Room
