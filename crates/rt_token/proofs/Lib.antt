pub mod Accepted
pub mod Compared
pub mod Decoded
pub mod Digests
pub mod LastOfEach
pub mod Pieces
pub mod Seconds
pub mod SignedTokens
