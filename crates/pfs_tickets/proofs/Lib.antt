mod ListFacts
mod TicketFacts
mod StepNumbers
mod RuleSteps
mod Seats
mod ReadySeats
mod Examples
mod LawFacts
