mod NamedFacts
