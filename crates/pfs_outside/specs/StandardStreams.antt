-- The standard streams as a caller sees them, and what reaches a reader or a writer that tells what it has.
use Rattle.std.specs.Prelude.{ℕ, List, [], take, Option, Result, Ok, Err}
use Rattle.std.specs.Io.KnownBytes.{Appends, Consumes, IsAtEnd, Keeps, append_known}
use Rattle.pfs_outside.specs.declared.source.Got.{Got}
use Rattle.pfs_outside.specs.declared.source.Got.TheVariants.{Bytes, End, Failed}
use Rattle.pfs_outside.specs.declared.sink.Wrote.{Wrote}
use Rattle.pfs_outside.specs.declared.sink.Wrote.TheVariants as wrote
use Rattle.pfs_outside.specs.declared.writing.WriteStop.{WriteStop}
use Rattle.pfs_outside.specs.MemoryDevices.{call_after}

-- a source over a reader, and how many reads failed
pub record ReaderSource (R : Type 0) : Type 0 where
  pub reader : R
  pub faults : ℕ

-- a sink over a writer: what it took and holds back from the writer, and how many writes failed
pub record WriterSink (W : Type 0) : Type 0 where
  pub writer : W
  pub held : List ℕ
  pub faults : ℕ

-- where the reader tells what it has left: these bytes came from it, it is at its end, or it is as before
abbrev pub Draws : Option (List ℕ) → Option (List ℕ) → List ℕ → Got → Type 0
Draws before after buffer (Bytes n) = Consumes before after (take n buffer)
Draws before after buffer End = Consumes before after [] × IsAtEnd after
Draws before after buffer Failed = Keeps before after

-- what the writer has and then what is held back, where the writer tells it
abbrev pub accepted : {W : Type 0} → (W → Option (List ℕ)) → WriterSink W → Option (List ℕ)
accepted contents s = append_known (contents s.writer) s.held

-- where the writer tells what it has: these bytes were accepted behind what was, or it is as before
abbrev pub Accepts : Option (List ℕ) → Option (List ℕ) → List ℕ → Wrote → Type 0
Accepts before after buffer (wrote.Bytes n) = Appends before after (take n buffer)
Accepts before after buffer wrote.Failed = Keeps before after

-- the count of failures rises by one where what was held did not go out; it stays at 2^64 - 1
abbrev pub faults_after_flush : ℕ → Result (Unit {0}) WriteStop → ℕ
faults_after_flush faults (Ok done) = faults
faults_after_flush faults (Err stop) = call_after faults
