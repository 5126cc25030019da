-- cited by the contracts of public functions
pub mod Kinds
pub mod Records
pub mod SampleFields
pub mod AsciiRecords
pub mod BinaryRecords
pub mod DataFile
pub mod Streams
pub mod States
pub mod Written
-- cited by those of private ones
pub mod Blocks
pub mod Heads
pub mod Tails
pub mod Takings
