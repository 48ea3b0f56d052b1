mod ListedBlocks
mod StandingNumbers
mod WrittenSteps
