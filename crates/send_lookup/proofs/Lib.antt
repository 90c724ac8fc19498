pub mod ActivationLaws
pub mod ChainLaws
pub mod ClassLaws
pub mod MessageLaws
pub mod MethodLaws
pub mod PathLaws
pub mod RowLaws
pub mod SlotLaws
