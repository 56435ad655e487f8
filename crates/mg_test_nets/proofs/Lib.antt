pub mod Growing
pub mod PiecesBehind
pub mod CarriedParts
pub mod Unstated
