mod ReadAll
mod Thirds
