-- What is summed is a definition of `state`: `block_sum`. Here is only how.
pub mod Run
