-- What a start, an end and a stage answer is what the journal says of them.
use Rattle.std.specs.Prelude.{ℕ, ◌≡◌, Bool, true, false, List, [], ◌∷◌, ◌++◌, Option, Some, None, is_some}
use Rattle.pfs_event.specs.declared.entry.Entry.{Entry}
use Rattle.pfs_event.specs.declared.entry.Entry.TheVariants as says
use Rattle.pfs_event.specs.Verdicts.{is_let_through}
use Rattle.pfs_event.specs.declared.open.Open.{Open}
use Rattle.pfs_event.specs.declared.verdict.Verdict.{Verdict}
use Rattle.pfs_model.specs.Shapes.{is_stage}
use Rattle.pfs_model.specs.declared.lines.Subject.{Subject}
use Rattle.pfs_session.specs.Ends.{added_entry, added_entries}
use Rattle.pfs_session.specs.EventPuts.{StandInRings, put_entries}
use Rattle.pfs_session.specs.declared.outcomes.End.{End}
use Rattle.pfs_session.specs.declared.outcomes.End.TheVariants.{Through, Silent}
use Rattle.pfs_session.specs.declared.outcomes.Started.{Started}
use Rattle.pfs_session.specs.declared.setup.Setup.{Setup}
use Rattle.pfs_session.specs.Starts.{versions_in}

-- a start with the versions that it loaded, none where it loaded nothing
abbrev pub loaded_entry : Option ℕ → Verdict → Option Setup → Entry
loaded_entry event verdict None = says.Start event verdict None None None None
loaded_entry event verdict (Some seen) = says.Start event verdict (Some seen.consumers.version)
    (Some seen.thread.version) (Some seen.class.version) (versions_in seen)

-- a start of this event number, this verdict and these versions stands there, and what became of its put, where there
-- was one
pub record SaysStart (answer : Started) (before after : List Entry) : Type 0 where
  pub entries_are : after
      ≡ before ++ loaded_entry answer.event answer.verdict answer.seen ∷ put_entries answer.current

-- what became of the addition to the cell's row, then of that to the digest's, and of each put, where there was one
abbrev pub ended_entries : End → List Entry
ended_entries (Silent verdict) = []
ended_entries (Through ended) = added_entry ended.summary
    ∷ (added_entries ended.digest
    ++ (put_entries ended.current ++ (put_entries ended.history ++ put_entries ended.long)))

abbrev pub is_through : End → Bool
is_through (Silent verdict) = false
is_through (Through ended) = true

abbrev pub StandApart : End → Type 0
StandApart (Silent verdict) = Unit {0}
StandApart (Through ended) = StandInRings ended.current ended.history ended.long

-- an end stands there, with an event number just where something was added or held, and then what became of that: the
-- three puts are told each as that of its own ring
pub record SaysEnd (answer : End) (before after : List Entry) : Type 0 where
  pub event : Option ℕ
  pub last : Option ℕ
  pub consumers : Option ℕ
  pub thread : Option ℕ
  pub through : is_through answer ≡ is_some event
  pub entries_are : after ≡ before ++ says.End event last consumers thread ∷ ended_entries answer
  pub stand : StandApart answer

-- the innermost open event is let through, or the answer is its verdict
abbrev pub EndsAs : List Open → End → Type 0
EndsAs [] answer = ⊥
EndsAs (what ∷ events) (Through ended) = is_let_through what.verdict ≡ true
EndsAs (what ∷ events) (Silent verdict) = (is_let_through what.verdict ≡ false) × (verdict ≡ what.verdict)

-- the innermost open event is a stage
abbrev pub is_in_stage : List Open → Bool
is_in_stage [] = false
is_in_stage (what ∷ events) = is_stage what.kind

-- where no stage ends, there is no answer and no entry
abbrev pub SaysStageEnd : Bool → Option End → List Entry → List Entry → Type 0
SaysStageEnd true None before after = ⊥
SaysStageEnd true (Some answer) before after = SaysEnd answer before after
SaysStageEnd false answer before after = (answer ≡ None) × (after ≡ before)

-- where no stage starts, there is no answer and no entry
abbrev pub SaysStageStart : Option Subject → Option Started → List Entry → List Entry → Type 0
SaysStageStart None answer before after = (answer ≡ None) × (after ≡ before)
SaysStageStart (Some subject) None before after = ⊥
SaysStageStart (Some subject) (Some answer) before after = SaysStart answer before after

-- the end stands before the start
pub record SaysStage (events : List Open) (subject : Option Subject) (ended : Option End) (begun : Option Started)
    (before after : List Entry) : Type 0 where
  pub between : List Entry
  pub end_is : SaysStageEnd (is_in_stage events) ended before between
  pub start_is : SaysStageStart subject begun between after
