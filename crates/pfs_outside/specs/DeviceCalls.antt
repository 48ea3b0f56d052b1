-- What one call of a source or a sink does to what it has left or has written, and to its count of failures.
use Rattle.std.specs.Prelude.{ℕ, ◌≡◌, ◌≤◌, ◌<◌, ◌⊎◌, List, [], ◌++◌, length, take, Option, option_map, IfSome}
use Rattle.pfs_outside.specs.declared.source.Got.{Got}
use Rattle.pfs_outside.specs.declared.source.Got.TheVariants.{Bytes, End, Failed}
use Rattle.pfs_outside.specs.declared.sink.Wrote.{Wrote}
use Rattle.pfs_outside.specs.declared.sink.Wrote.TheVariants as wrote

-- the count rose, or stands at its last value
abbrev pub Rose : ℕ → ℕ → Type 0
Rose before now = (before < now) ⊎ (now ≡ 18446744073709551615)

-- these bytes came: they stood in front of what is left now
abbrev pub Gave : Option (List ℕ) → Option (List ℕ) → List ℕ → Type 0
Gave before after bytes = before ≡ option_map (λ rest. bytes ++ rest) after

-- these bytes went: they stand behind what was written before
abbrev pub Added : Option (List ℕ) → Option (List ℕ) → List ℕ → Type 0
Added before after bytes = after ≡ option_map (λ text. text ++ bytes) before

-- what a read with a buffer of this size moved
abbrev pub Moved : Option (List ℕ) → Option (List ℕ) → ℕ → List ℕ → Got → Type 0
Moved before after size buffer (Bytes n) = (0 < n) × (n ≤ size) × Gave before after (take n buffer)
Moved before after size buffer End = (after ≡ before) × IfSome before (λ bytes. bytes ≡ [])
Moved before after size buffer Failed = after ≡ before

-- the count is of failed reads: at a failure it rose, and a read that doesn't fail leaves it
abbrev pub RoseAtFault : ℕ → ℕ → Got → Type 0
RoseAtFault before now (Bytes n) = now ≡ before
RoseAtFault before now End = now ≡ before
RoseAtFault before now Failed = (before ≤ now) × Rose before now

-- what a write of this buffer took
abbrev pub Taken : Option (List ℕ) → Option (List ℕ) → List ℕ → Wrote → Type 0
Taken before after buffer (wrote.Bytes n) = (0 < n) × (n ≤ length buffer) × Added before after (take n buffer)
Taken before after buffer wrote.Failed = after ≡ before

-- the count never falls, and at a failure it rose
abbrev pub RoseAtRefusal : ℕ → ℕ → Wrote → Type 0
RoseAtRefusal before now (wrote.Bytes n) = before ≤ now
RoseAtRefusal before now wrote.Failed = (before ≤ now) × Rose before now
