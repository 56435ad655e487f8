mod Charted
mod Noting
mod Sharing
mod Levelled
mod Sent
