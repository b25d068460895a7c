-- The wire in two layers: stuffing, and messages. `Stuffing`, `Form` and `Message` say what stands on the wire, `Unstuffing` and `Reader` how it is
-- read, `Writer` what is written, `Number` the paper's numbers, `Run` what many bytes come to, and `Wire` the words of the theorems.
pub mod Stuffing
pub mod Form
pub mod Message
pub mod Values
pub mod Unstuffing
pub mod Reader
pub mod Writer
pub mod Number
pub mod Run
pub mod Wire
