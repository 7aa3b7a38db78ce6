mod Staged
mod Oks
mod Putting
