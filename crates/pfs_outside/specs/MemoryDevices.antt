-- The devices in memory as a caller sees them: what is left or written, and which calls are to fail.
use Rattle.std.specs.Prelude.{ℕ, ◌≡◌, ◌+◌, ◌-◌, ◌≤◌, ◌⊎◌, List, [], length, min, Contains}
use Rattle.pfs_outside.specs.declared.source.Got.{Got}
use Rattle.pfs_outside.specs.declared.source.Got.TheVariants.{Bytes, End, Failed}
use Rattle.pfs_outside.specs.declared.sink.Wrote.{Wrote}
use Rattle.pfs_outside.specs.declared.sink.Wrote.TheVariants as wrote

-- the number of the call after so many, from 1; it stays at 2^64 - 1
abbrev pub call_after : ℕ → ℕ
call_after calls = min (calls + 1) 18446744073709551615

-- a source in memory: what is still to come, the numbers of the reads that are to fail, how many reads there were,
-- and how many failed
pub record Reading : Type 0 where
  pub left : List ℕ
  pub fails : List ℕ
  pub calls : ℕ
  pub faults : ℕ

-- the next read is one of those that are to fail
abbrev pub NextReadFails : Reading → Type 0
NextReadFails s = Contains s.fails (call_after s.calls)

-- a source that has all these bytes to give, and will fail at these calls
abbrev pub new_source : List ℕ → List ℕ → Reading
new_source bytes fails = record { left = bytes; fails = fails; calls = 0; faults = 0 }

-- one that gives at most so many bytes a read
pub record ShortReading : Type 0 where
  pub device : Reading
  pub most : ℕ

-- one more read was made, and the same reads are to fail
pub record CountsRead (before after : Reading) : Type 0 where
  pub counted : after.calls ≡ call_after before.calls
  pub same_failing : after.fails ≡ before.fails

-- a read fills the buffer, or gives all that is left
abbrev pub Fills : ℕ → ℕ → Got → Type 0
Fills size left (Bytes n) = n ≡ min size left
Fills size left End = Unit {0}
Fills size left Failed = Unit {0}

-- the count of failures rises by one at a failure alone; it stays at 2^64 - 1
abbrev pub faults_after_read : ℕ → Got → ℕ
faults_after_read faults (Bytes n) = faults
faults_after_read faults End = faults
faults_after_read faults Failed = call_after faults

-- a sink in memory: what was written, how many bytes there is room for in all, the numbers of the writes that are to
-- fail, how many writes there were, and how many failed
pub record Writing : Type 0 where
  pub text : List ℕ
  pub room : ℕ
  pub fails : List ℕ
  pub calls : ℕ
  pub faults : ℕ

-- the next write is one of those that are to fail, or the sink is full
abbrev pub NextWriteFails : Writing → Type 0
NextWriteFails s = Contains s.fails (call_after s.calls) ⊎ (s.room ≤ length s.text)

-- a sink with nothing in it, with this room, that will fail at these calls
abbrev pub new_sink : ℕ → List ℕ → Writing
new_sink room fails = record { text = []; room = room; fails = fails; calls = 0; faults = 0 }

-- one that takes at most so many bytes a write
pub record ShortWriting : Type 0 where
  pub device : Writing
  pub most : ℕ

-- one more write was made; the room and the writes that are to fail are the same
pub record CountsWrite (before after : Writing) : Type 0 where
  pub counted : after.calls ≡ call_after before.calls
  pub same_failing : after.fails ≡ before.fails
  pub same_room : after.room ≡ before.room

-- a write takes the whole buffer, or as much as there is room for
abbrev pub TakesWhatFits : ℕ → ℕ → ℕ → Wrote → Type 0
TakesWhatFits size room written (wrote.Bytes n) = n ≡ min size (room - written)
TakesWhatFits size room written wrote.Failed = Unit {0}

-- the count of failures rises by one at a failure alone; it stays at 2^64 - 1
abbrev pub faults_after_write : ℕ → Wrote → ℕ
faults_after_write faults (wrote.Bytes n) = faults
faults_after_write faults wrote.Failed = call_after faults
