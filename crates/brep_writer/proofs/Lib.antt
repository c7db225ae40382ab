mod Heads
mod Adding
mod Plans
mod Texts
pub mod VersionedHeads
pub mod VersionedFiles
pub mod NumberedRecords
pub mod Weights
pub mod TokenCounts
pub mod LineCounts
pub mod LayoutSizes
pub mod TextCounts
pub mod ShortTokens
pub mod WrittenSound
pub mod CopyLemmas
pub mod Standing
pub mod TextLemmas
pub mod CopySizes
pub mod WritingLaws
pub mod RelabelledTrees
