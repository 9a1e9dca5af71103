-- Lemmas by topic.
pub mod Cutting
pub mod Saying
