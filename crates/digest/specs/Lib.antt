pub mod Digests
pub mod Examples
pub mod Hasher
pub mod Hex
pub mod Order
pub mod Sha256
