-- The lists, an event and a slot. `Lists`: how the lists read and change. `Alloc`: how they are freed and allocated. `Event`, `Slot`: the two calls that are about them.
-- `Word`: how an event takes an entry's bytes.
pub mod Lists
pub mod Alloc
pub mod Event
pub mod Slot
pub mod Word
