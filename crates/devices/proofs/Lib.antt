mod ClockLaws
mod DueLaws
mod FormLaws
mod InputLaws
pub mod KeepLaws
mod PictureLaws
mod PixelLaws
mod StateLaws
mod TextLaws
