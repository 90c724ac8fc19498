mod Frames
mod Kept
mod Places
mod PreciousLaws
mod Taken
