mod Packing
mod Families
