pub mod SeenFacts
