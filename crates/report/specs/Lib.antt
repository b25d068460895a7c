-- What a verdict says.
pub mod Verdict
