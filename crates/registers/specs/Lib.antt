-- What stands in lent memory. Read in this order; what follows Answers is for the crates above.
pub mod Base
pub mod Layout
pub mod Refusals
pub mod Answers
pub mod Survey
pub mod Table
pub mod Indexing
pub mod Views
pub mod Limits
pub mod Example
