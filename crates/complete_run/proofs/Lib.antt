mod Lengths
mod Sound
mod Unsound
mod OneChannel
