pub mod HostLaws
pub mod RoleLaws
