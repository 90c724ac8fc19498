pub mod CourseLaws
pub mod RoomLaws
pub mod RunLaws
pub mod RunningLaws
pub mod SightLaws
pub mod StateLaws
