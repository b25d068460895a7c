-- Laws that the functions' proofs cite.
pub mod Doable
pub mod Looking
pub mod Entered
