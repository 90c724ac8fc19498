pub mod StepLaws
pub mod WordLaws
pub mod RecordLaws
pub mod FillLaws
pub mod TranslateLaws
pub mod ValueLaws
pub mod OpenLaws
pub mod MergeLaws
pub mod CopyLaws
pub mod FieldLaws
pub mod LeavingLaws
pub mod RoomLaws
pub mod MakeLaws
pub mod StoreLaws
pub mod ValuedLaws
mod Examples
