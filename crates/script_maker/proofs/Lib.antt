mod Loops
mod Shapes
