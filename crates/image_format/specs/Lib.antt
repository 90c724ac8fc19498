pub mod Text
pub mod Valid
pub mod Reading
pub mod Heads
pub mod Faults
pub mod Rules
pub mod Inside
pub mod Measured
