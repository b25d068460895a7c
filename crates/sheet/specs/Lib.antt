-- The sheet program. `Tool`: what is kept from line to line.
pub mod Tool
