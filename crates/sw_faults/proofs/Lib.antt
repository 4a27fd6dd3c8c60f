mod Brought
mod Firsts
mod Pieces
mod Placed
mod Reached
