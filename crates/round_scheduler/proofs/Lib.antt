mod Within
mod Knowing
mod Listing
mod Grounds
mod Seeing
mod Passing
mod Between
mod Told
