mod BlankLaws
mod CoverLaws
mod HostLaws
mod KeptLaws
mod ListLaws
mod OverLaws
mod RowLaws
mod WindowLaws
