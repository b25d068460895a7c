-- What computed runs are of. `Exchange`: commands on the bench. `Laden`: a state to begin in. `Wrong`: slaves that fail a demand. `Table`: the bench sheet.
pub mod Exchange
pub mod Laden
pub mod Wrong
pub mod Table
