mod Parts
mod Bounds
mod Built
mod Answered
mod Asked
mod Digits
mod Tables
mod ReadBack
