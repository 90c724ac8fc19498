pub mod CalledLaws
pub mod OwnLaws
