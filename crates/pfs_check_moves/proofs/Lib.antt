mod CompareFacts
mod DueFacts
mod FaultFacts
mod FoundFacts
mod MissFacts
mod PrintedFacts
mod RuleFacts
