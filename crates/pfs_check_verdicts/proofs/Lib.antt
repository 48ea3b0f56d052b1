mod FlagFacts
mod VerdictFacts
