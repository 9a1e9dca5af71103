-- Lemmas by topic.
pub mod Summing
pub mod Telling
