pub mod GatherLaws
pub mod StartLaws
pub mod ComposeLaws
pub mod JoinLaws
pub mod ChainLaws
