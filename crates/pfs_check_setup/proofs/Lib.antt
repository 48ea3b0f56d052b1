mod ActionPhases
mod BegunActions
mod CollectFacts
mod CompareFacts
mod DueFacts
mod FaultFacts
mod SetLaw
mod SetupFacts
