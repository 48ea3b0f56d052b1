mod BlockStarts
mod RunStart
mod RunPhaseEnds
mod RunKnowledge
mod ReportedPhases
mod RunProgress
mod RunnerState
mod RunSteps
