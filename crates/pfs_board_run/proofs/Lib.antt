mod Jobs
mod JobLoops
