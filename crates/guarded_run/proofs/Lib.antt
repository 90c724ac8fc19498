pub mod CourseLaws
pub mod EarlierLaws
pub mod HaltLaws
pub mod LegLaws
pub mod SerialLaws
pub mod WholeLaws
