mod CacheLaws
mod CallLaws
