mod Digits
mod Kept
mod Lines
mod ReadBack
