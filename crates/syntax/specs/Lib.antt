-- The text of a sheet. `Columns`: how far its lines reach. `Hex`: bytes in capital hex. `Form`: what a line of a sheet is. `Cases`: what a line asks for, by
-- where in a case it stands.
pub mod Columns
pub mod Hex
pub mod Form
pub mod Cases
