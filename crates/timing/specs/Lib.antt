-- What is found and how long it takes.
pub mod Finds
pub mod Runs
pub mod Printing
