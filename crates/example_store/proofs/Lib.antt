pub mod LogLemmas
pub mod FeedLemmas
pub mod KeptLemmas
pub mod CheckpointLemmas
pub mod AnswerLemmas
pub mod ReplayLemmas
pub mod InputLemmas
pub mod ServingLemmas
