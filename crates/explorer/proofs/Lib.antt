pub mod WalkLaws
pub mod FirstLaws
pub mod MarkLemmas
pub mod TrailLemmas
pub mod WayLemmas
pub mod NextLemmas
pub mod GoLemmas
pub mod KindLaws
