pub mod SortedSame
pub mod Unmapped
pub mod KeyLaws
pub mod TreeLaws
pub mod MemberLemmas
