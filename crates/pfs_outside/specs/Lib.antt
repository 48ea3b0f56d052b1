pub mod DeviceCalls
pub mod MemoryDevices
pub mod WholeStreams
pub mod StandardStreams
