-- Whole streams: reading up to the end or to a size, and writing all of a text or a front of it.
use Rattle.std.specs.Prelude.{ℕ, ◌≡◌, ◌≤◌, ◌<◌, ◌+◌, List, [], ◌++◌, length, Option, IfSome, Result, Ok, Err, Vec}
use Rattle.std.specs.declared.alloc.Global.{Global}
use Rattle.pfs_outside.specs.DeviceCalls.{Rose, Gave, Added}
use Rattle.pfs_outside.specs.declared.reading.ReadStop.{ReadStop}
use Rattle.pfs_outside.specs.declared.reading.ReadStop.TheVariants as stop
use Rattle.pfs_outside.specs.declared.writing.WriteStop.{WriteStop}
use Rattle.pfs_outside.specs.declared.writing.WriteStop.TheVariants.{Failed, NoMemory}

-- how many bytes are asked for at a time, at most
abbrev pub piece_bytes : ℕ
piece_bytes = 65536

-- these bytes were taken of a source, by reads of which none failed
pub record Took {S : Type 0} (left : S → Option (List ℕ)) (faults : S → ℕ) (before after : S) (bytes : List ℕ) : Type 0 where
  pub gave : Gave (left before) (left after) bytes
  pub unfailed : faults after ≡ faults before

-- a source was read to its end, and all of it is at most so long
pub record ReadToEnd {S : Type 0} (left : S → Option (List ℕ)) (faults : S → ℕ) (before after : S) (most : ℕ)
    (bytes : List ℕ) : Type 0 where
  pub took : Took left faults before after bytes
  pub ended : IfSome (left after) (λ rest. rest ≡ [])
  pub within : length bytes ≤ most

-- it was read past so many bytes, by one piece at most
pub record ReadPast {S : Type 0} (left : S → Option (List ℕ)) (faults : S → ℕ) (before after : S) (most : ℕ)
    : Type 0 where
  pub bytes : List ℕ
  pub took : Took left faults before after bytes
  pub long : most < length bytes
  pub within : length bytes ≤ most + piece_bytes

-- the first read that failed was the last: this is the source before it
pub record ReadToFault {S : Type 0} (left : S → Option (List ℕ)) (faults : S → ℕ) (before after : S) (most : ℕ)
    : Type 0 where
  pub last : S
  pub bytes : List ℕ
  pub took : Took left faults before last bytes
  pub within : length bytes ≤ most
  pub kept : left after ≡ left last
  pub rose : Rose (faults last) (faults after)

-- it was read in part, past so many bytes by one piece at most
pub record ReadPart {S : Type 0} (left : S → Option (List ℕ)) (faults : S → ℕ) (before after : S) (most : ℕ)
    : Type 0 where
  pub bytes : List ℕ
  pub took : Took left faults before after bytes
  pub within : length bytes ≤ most + piece_bytes

-- a source was read: to its end, or past the most bytes that may be, or to its failure, or until memory ran out
abbrev pub Reads : {S : Type 0} → (S → Option (List ℕ)) → (S → ℕ) → S → S → ℕ → Result (Vec ℕ Global) ReadStop → Type 0
Reads left faults before after most (Ok bytes) = ReadToEnd left faults before after most bytes.items
Reads left faults before after most (Err stop.TooLong) = ReadPast left faults before after most
Reads left faults before after most (Err stop.Failed) = ReadToFault left faults before after most
Reads left faults before after most (Err stop.NoMemory) = ReadPart left faults before after most

-- a front of this text was written, maybe all of it
abbrev pub AddedPart : Option (List ℕ) → Option (List ℕ) → List ℕ → Type 0
AddedPart before after text = (front : List ℕ) × (back : List ℕ) × (text ≡ front ++ back) × Added before after front

-- a text was put to a sink: all of it, or a front of it and the reason for stopping
abbrev pub Puts : Option (List ℕ) → Option (List ℕ) → ℕ → ℕ → List ℕ → Result (Unit {0}) WriteStop → Type 0
Puts before after old now text (Ok done) = Added before after text × (old ≤ now)
Puts before after old now text (Err Failed) = AddedPart before after text × Rose old now × (old ≤ now)
Puts before after old now text (Err NoMemory) = AddedPart before after text × (old ≤ now)
