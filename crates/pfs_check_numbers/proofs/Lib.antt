mod NumberFacts
