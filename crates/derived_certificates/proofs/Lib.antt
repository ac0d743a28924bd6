mod Keeping
mod Within
mod ReadBack
