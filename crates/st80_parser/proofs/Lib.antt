pub mod CursorLaws
pub mod JoinLaws
pub mod StandLaws
pub mod TreeLaws
pub mod MethodLaws
pub mod RefusalLaws
