mod CauseLaws
mod LineLaws
mod MapLaws
mod WalkLaws
mod WalkSteps
