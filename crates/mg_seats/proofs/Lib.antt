mod NoBoxes
mod Outputs
mod Sharing
