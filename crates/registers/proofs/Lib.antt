-- Lemmas by topic, in the order in which they rest on each other.
pub mod Small
pub mod Fitting
pub mod Surveying
pub mod Ways
pub mod Entering
pub mod Proper
pub mod Noting
pub mod Placing
pub mod Views
pub mod Finding
pub mod Checking
pub mod Limits
