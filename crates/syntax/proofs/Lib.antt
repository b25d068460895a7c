-- Laws that the functions' proofs cite, where a line ends, and that a step's line is used up.
pub mod Lists
pub mod Endings
pub mod Spelled
pub mod Used
