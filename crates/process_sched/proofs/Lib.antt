pub mod RegisterLaws
pub mod ValueLaws
pub mod WakeLaws
