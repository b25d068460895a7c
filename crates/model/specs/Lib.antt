-- The slave as document 01 speaks of it, without a single offset. `Model`: what there is. `Seen`, `Judge`: what a command's checks look at, and what it
-- leads to; `Heed`: what a good message is to the slave. `Step`: what each deed makes of the session. `Answers`: what it answers. `Turn`: whose frame a slot sends. `Calls`: whose
-- turn it is, what an event is to a list, and what else a call makes of the slave; `Whole`: each call whole. `View`: how the state in bytes shows it.
pub mod Model
pub mod Seen
pub mod Judge
pub mod Heed
pub mod Step
pub mod Turn
pub mod Answers
pub mod Calls
pub mod Whole
pub mod View
