-- How bytes become numbers.
pub mod Numbers
pub mod Held
