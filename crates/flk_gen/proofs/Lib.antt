pub mod ValueBounds
pub mod ConfigurationLemmas
pub mod RecordingLemmas
mod RowLemmas
pub mod ProgressLemmas
pub mod AcceptedFiles
