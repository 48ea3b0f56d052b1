-- What is kept of a session beside its track.
use Rattle.std.specs.Prelude.{ℕ, ◌≡◌, true, false, cond, List, [], ◌∷◌, drop, filter, map, reverse, Option, Some, None}
use Rattle.pfs_event.specs.Verdicts.{is_let_through}
use Rattle.pfs_event.specs.declared.entry.Entry.{Entry}
use Rattle.pfs_event.specs.declared.entry.Entry.TheVariants as says
use Rattle.pfs_model.specs.declared.changes.Change.{Change}
use Rattle.pfs_model.specs.declared.lines.Opened.{Opened}
use Rattle.pfs_model.specs.declared.lines.Subject.{Subject}
use Rattle.pfs_model.specs.Contents.{Written, written_at}
use Rattle.pfs_model.specs.Contexts.{Context}
use Rattle.pfs_model.specs.EntryAsks.{is_head}
use Rattle.pfs_check_amounts.specs.EventTerms.{IsWriting, outer_of}
use Rattle.pfs_check_amounts.specs.declared.words.Outer.{Outer}
use Rattle.pfs_check_amounts.specs.declared.words.Writing.{Writing}
use Rattle.pfs_check_notes.specs.declared.notes.SessionNotes.{SessionNotes}
use Rattle.pfs_check_trail.specs.OpenCounts.{is_through}
use Rattle.pfs_law_contexts.specs.ToldContexts.{is_quiet}

abbrev pub first_outer : List Outer → Option Outer
first_outer [] = None
first_outer (outer ∷ outers) = Some outer

-- the let-through events among these, the innermost first
abbrev pub outers_of : List Opened → List Outer
outers_of opened = map outer_of (filter is_through opened)

abbrev pub outer_started : Option Subject → Option ℕ → List Outer → List Outer
outer_started None number outers = outers
outer_started (Some subject) number outers = record { kind = subject.kind; number = number } ∷ outers

abbrev pub outers_without : Option Opened → List Outer → List Outer
outers_without None outers = outers
outers_without (Some event) outers = cond (is_through event) (drop 1 outers) outers

-- behind an entry, where this was the innermost open event
abbrev pub outers_behind : Option Subject → Option Opened → Entry → List Outer → List Outer
outers_behind subject innermost (says.Start event verdict consumers thread class table) outers =
    cond (is_let_through verdict) (outer_started subject event outers) outers
outers_behind subject innermost (says.End event last consumers thread) outers = outers_without innermost outers
outers_behind subject innermost _ outers = outers

-- the event that has just ended behind an entry
abbrev pub ended_behind : Entry → Option Opened → Option Opened → Option Opened
ended_behind (says.End event last consumers thread) innermost ended = innermost
ended_behind (says.Start event verdict consumers thread class table) innermost ended = None
ended_behind says.Settle innermost ended = None
ended_behind (says.Connect action thread account user host) innermost ended = None
ended_behind (says.Act action) innermost ended = None
ended_behind says.Query innermost ended = None
ended_behind (says.Error error) innermost ended = None
ended_behind _ innermost ended = ended

-- of a session that is left so, and has taken this in its action
pub record AreNotesOf (left : Context) (taken : Option Change) (notes : SessionNotes) : Type 0 where
  pub outers : reverse notes.outers.items ≡ outers_of left.opened
  pub ended : notes.ended ≡ left.ended
  pub taken_is : notes.taken ≡ taken

-- how the context of an entry goes on from what was left
pub record StepsFrom (left context : Context) (entry : Entry) : Type 0 where
  pub opened : context.opened ≡ left.opened
  pub inside : is_head entry ≡ false → context.ended ≡ left.ended
  pub quiet : is_quiet entry ≡ true → context.ended ≡ None

-- the event that a put of a context writes
abbrev pub IsWritingTold : Context → Option Writing → Type 0
IsWritingTold context None = written_at context ≡ None
IsWritingTold context (Some writing) =
    (written : Written) × (written_at context ≡ Some written) × IsWriting written writing
