-- Lemmas by topic, in the order in which they rest on each other.
pub mod Fitting
pub mod Deep
pub mod Trees
pub mod Faults
pub mod Meaning
pub mod Passing
pub mod Going
pub mod Telling
pub mod Testing
pub mod Asking
pub mod Columns
