pub mod DispatchLaws
pub mod KeepLaws
pub mod VariableLaws
pub mod SendLaws
pub mod TryLaws
