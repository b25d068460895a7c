-- What the demands shut out.
pub mod Computed
pub mod AsOurs
pub mod Taken
pub mod ShutOut
-- The bench sheet.
pub mod Table
-- Each premise is met, and each bound is tight.
pub mod Never
pub mod Bounds
pub mod TooFew
pub mod AnswerBound
pub mod Premises
pub mod Between
pub mod Lives
