mod TestSteps
mod TestRoots
mod QuietBlock
