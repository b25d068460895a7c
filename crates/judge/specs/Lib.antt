-- How the checks answer a deed: `Judged`. What performing a deed leans on: `Doable`.
pub mod Judged
pub mod Doable
