pub mod ByteTests
pub mod Padding
pub mod Signed
pub mod BeginBytes
