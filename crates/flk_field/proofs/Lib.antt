pub mod FieldJudges
pub mod DateJudges
pub mod ColumnLemmas
pub mod FieldLaws
pub mod SetCases
