-- How questions stand in the input of the program.
pub mod Parts
pub mod Words
