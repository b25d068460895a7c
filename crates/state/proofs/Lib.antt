-- Laws that the functions' proofs cite.
pub mod Sets
pub mod Copies
pub mod Rotated
pub mod Xorshift
pub mod Inside
pub mod Ranges
pub mod Allocated
pub mod Pointers
pub mod Consistent
