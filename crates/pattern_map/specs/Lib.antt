pub mod ByteClasses
pub mod Coverage
pub mod SampleFaults
pub mod Walk
