-- The slave of document 01, over the crates below it. `Perform`: what is done of what was judged. `Receive`, `PowerUp`:
-- two of the four calls; the other two are of the lists (Event, Slot). `Slice`: many received bytes at once. `Quiet`: what
-- the functions for bytes that end nothing promise each other.
pub mod Perform
pub mod Receive
pub mod Slice
pub mod Quiet
pub mod PowerUp
