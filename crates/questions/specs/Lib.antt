-- What is asked. Read in this order; what follows Refusals is for the crates above.
pub mod Tests
pub mod Questions
pub mod Signs
pub mod Refusals
pub mod Words
pub mod Reading
pub mod Views
pub mod Meaning
pub mod Example
