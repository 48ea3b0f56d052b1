pub mod RingRules
