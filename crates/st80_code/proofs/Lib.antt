mod CoverLaws
