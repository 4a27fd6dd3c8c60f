mod Named
mod Rows
