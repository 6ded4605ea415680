mod Arranging
mod Spends
mod Running
mod Takes
mod Stages
mod Turning
mod Examples
