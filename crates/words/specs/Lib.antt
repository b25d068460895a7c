-- What the protocol's numbers mean. `Command`: codes, fewest bytes, locks, reasons of a refusal. `Values`: what may be unset, and what a call answers.
-- `Number`: the paper's number for each answer of a call.
pub mod Command
pub mod Values
pub mod Number
