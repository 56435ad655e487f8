mod Sums
mod Shares
mod Draining
mod LevelsMade
mod HandRows
mod LeftOver
mod SeatSteps
