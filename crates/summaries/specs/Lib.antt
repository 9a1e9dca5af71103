-- What is told of registers, and in which words.
pub mod Summary
pub mod Words
