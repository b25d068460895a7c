-- Every state that a run reaches is consistent; each promise leaves one outcome; each answer has its number.
pub mod Reached
pub mod Slices
pub mod Tight
pub mod Numbers
-- The first demand.
pub mod Judged
pub mod ReadBy
pub mod Received
pub mod Unchanged
pub mod Refusals
pub mod Demand1
-- The second demand.
pub mod Turns
pub mod Sends
pub mod EventSteps
pub mod Events
pub mod Deeds
pub mod ByteKeeps
pub mod Numbering
pub mod Locks
pub mod Alike
pub mod Changes
pub mod Between
pub mod Keys
pub mod Opening
pub mod Downloads
pub mod ReadsOn
pub mod Life
pub mod CutJudge
pub mod Cut
pub mod Demand2
-- What every command that is done makes of the slave; locked lists keep their settings; after three wrong keys it stays shut; the whole pool can be had.
pub mod Obeyed
pub mod Checked
pub mod ListsLocked
pub mod StaysShut
pub mod Pool
-- Every list that was started fits.
pub mod Fit
-- The first two leave no choice.
pub mod NoChoice
-- The third demand, and that nothing is lost.
pub mod Ranking
pub mod Carried
pub mod Soon
pub mod Whole
pub mod Reading
pub mod Conserved
pub mod Demand3
pub mod Shows
pub mod CallNumbers
-- All of it, sentence by sentence.
pub mod Letter
