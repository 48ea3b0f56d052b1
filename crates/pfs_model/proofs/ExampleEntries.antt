-- What the worked examples share: a wait, a statement, and entries where only the session, the action and the entry
-- itself count.
use Rattle.std.proofs.Common.{ℕ, cond, ◌==◌, nat_lt}
use Rattle.std.specs.Prelude.{Some, None}
use Rattle.pfs_event.specs.declared.entry.Entry.{Entry}
use Rattle.pfs_event.specs.declared.kind.EventKind.TheVariants as kinds
use Rattle.pfs_event.specs.declared.verdict.Verdict.TheVariants.{Attributed, OffClass}
use Rattle.pfs_model.specs.declared.lines.Line.TheVariants as lines
use Rattle.pfs_model.specs.declared.lines.Opened.{Opened}
use Rattle.pfs_model.specs.declared.lines.Subject.{Subject}
use Rattle.pfs_model.specs.Contexts.{fresh}
use Rattle.pfs_model.specs.EntryPlaces.{Placed}

-- a wait of the binary log's file, of class 6
abbrev pub binlog : Subject
binlog = record { kind = kinds.Wait; class = Some 6; cell = 6; table = None; digest = None }

abbrev pub waiting : Opened
waiting = record { subject = binlog; verdict = Attributed; index = 0; number = Some 1; consumers = Some 0; thread = Some 1; class = Some 0; table = None }

-- the same wait, of a class that is off
abbrev pub passing : Opened
passing = record waiting { verdict = OffClass; number = None }

-- a statement of class 17, whose digest has the first place
abbrev pub select : Subject
select = record { kind = kinds.Statement; class = Some 17; cell = 17; table = None; digest = Some 0 }

abbrev pub selecting : Opened
selecting = record waiting { subject = select }

-- a wait of the third table, of class 10
abbrev pub handler : Subject
handler = record { kind = kinds.Wait; class = Some 10; cell = 10; table = Some 2; digest = None }

abbrev pub handling : Opened
handling = record waiting { subject = handler; table = Some 0 }

-- an entry of a session in a phase, and of one of its actions
abbrev pub entry_in : ℕ → ℕ → Entry → Placed
entry_in phase session entry = record { phase = phase; session = session; line = lines.End; context = fresh; entry = entry }

abbrev pub entry_of : ℕ → Entry → Placed
entry_of session entry = entry_in 1 session entry

abbrev pub acted : ℕ → ℕ → Entry → Placed
acted session action entry = record { phase = 1; session = session; line = lines.Change; context = record fresh { action = action }; entry = entry }

-- an entry of a session in slot 0
abbrev pub slotted : ℕ → Entry → Placed
slotted session entry = record { phase = 1; session = session; line = lines.End; context = record fresh { slot = Some 0 }; entry = entry }

-- the flags of all versions of the consumers' word, of the threads' words, the classes' and the tables'
abbrev pub flags_of_all : ℕ → ℕ → ℕ → ℕ → ℕ → ℕ → ℕ
flags_of_all consumers threads classes tables word version =
    cond (word == 0) consumers (cond (nat_lt word 33) threads (cond (nat_lt word 96) classes tables))
