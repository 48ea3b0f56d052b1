pub mod SinkWrites
pub mod SourceReads
