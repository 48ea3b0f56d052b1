mod Openings
mod PhaseByPhase
