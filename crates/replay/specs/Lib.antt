-- The replay program. `Record`: what a record of a log is. `Text`: the line that a slot prints.
pub mod Record
pub mod Text
