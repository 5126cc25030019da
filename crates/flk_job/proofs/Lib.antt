pub mod DataLemmas
pub mod KeyLemmas
pub mod ChannelLemmas
pub mod MatchLemmas
pub mod JobLaws
pub mod JobCases
