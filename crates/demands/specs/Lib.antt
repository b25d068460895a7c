-- The customer's letter, of any slave. `Slave`: what a slave is; `Runs`: calls in any order; `Life`: power-ups among them, and one memory; `Slices`: many bytes at once. `Waiting`: what
-- waits, and what a sample is; `Heard`: what a received byte means; `Between`: what may come between two commands. `Letter`: the letter at a glance, a part for each sentence. Its parts: `Outcomes`,
-- `CallNumbers`, `Checked` and `Refusals` of the first demand; `Obeyed` and `Shows`, `Memory`, `Keys`, `ListsLocked`, `Wire` and `CalibrationLocked` of the
-- second; `Kept`: that nothing is lost and nothing invented; `Pool`: that the whole pool can be had; `StaysShut`: what three wrong keys come to. `Demand1`,
-- `Demand2`, `Demand3`: what is demanded of a slave, with `AsDefined`, from which all else follows; `Ranking`: what the bound of a sample rests on;
-- `Numbers`: which answers share a number; `Tight`: how tight a promise is.
pub mod Slave
pub mod Runs
pub mod Life
pub mod Slices
pub mod Waiting
pub mod Heard
pub mod Between
pub mod Shows
pub mod Obeyed
pub mod Checked
pub mod ListsLocked
pub mod Fit
pub mod StaysShut
pub mod Numbers
pub mod CallNumbers
pub mod Outcomes
pub mod Refusals
pub mod AsDefined
pub mod Wire
pub mod Keys
pub mod CalibrationLocked
pub mod Memory
pub mod Demand1
pub mod Demand2
pub mod Demand3
pub mod Pool
pub mod Ranking
pub mod Kept
pub mod Letter
pub mod Tight
