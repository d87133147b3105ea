pub mod CutLaws
pub mod Decoding
pub mod Indexes
pub mod TogetherLaws
pub mod Tuples
