-- `Words`: the laws' own words. `Commands`: what stands of every command that is done. `Faults`: when it is done, and with which code it is refused.
-- `Locked`: what no command changes while lists are locked. `Samples`: what an event captures. `Events`: which lists it samples. `OnTheLine`: what a received
-- byte is. `Turns`: whose turn a slot is, and what it leaves. `PoweredUp`: what power-up leaves. `Shown`: what a call in bytes shows.
pub mod Words
pub mod Commands
pub mod Faults
pub mod Locked
pub mod Samples
pub mod Events
pub mod OnTheLine
pub mod Turns
pub mod PoweredUp
pub mod Shown
