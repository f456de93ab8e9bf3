mod Keying
mod Marking
mod Measuring
mod NearLaws
mod Passing
mod Planting
mod Searching
