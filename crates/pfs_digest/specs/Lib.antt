pub mod TokenPieces
pub mod Reduction
pub mod Stack
pub mod Keywords
pub mod Digest
pub mod PieceBytes
