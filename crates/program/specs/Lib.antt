-- How programs end, and in which words.
pub mod Ending
pub mod Words
