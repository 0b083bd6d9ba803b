mod Writing
mod Pages
