-- What the checks of a command look at, and the verdict on all that can be seen: `Look`.
pub mod Look
