pub mod RingParts
