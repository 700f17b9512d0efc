pub mod Answers
pub mod Clusters
pub mod Faults
pub mod Flows
pub mod Lines
pub mod Parts
pub mod Words
