pub mod AreaLaws
mod FreshLaws
mod GateLaws
pub mod HistoryLaws
mod ImageHostLaws
pub mod ImagingLaws
mod KeepDisk
mod KeepLaws
pub mod LayoutLaws
mod Losses
mod MemoryLaws
pub mod MomentLaws
mod NotedLaws
mod PieceLaws
mod RecoverLaws
pub mod SparesLaws
pub mod SureLaws
