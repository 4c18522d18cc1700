pub mod Disorders
pub mod Faults
pub mod Shown
pub mod Tests
pub mod Tuples
