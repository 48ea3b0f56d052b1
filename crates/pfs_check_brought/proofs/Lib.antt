mod DueFacts
mod StopFacts
mod WalkFacts
