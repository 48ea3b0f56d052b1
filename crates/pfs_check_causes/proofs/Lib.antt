mod FreeFacts
mod OwnFacts
mod PhaseFacts
mod PutFacts
mod RangeFacts
mod WordFacts
