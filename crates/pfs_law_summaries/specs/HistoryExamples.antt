-- The history of two sessions of one slot, worked: the first one's statement is put there, and it quits; the second
-- one's first eleven take all places, and one more comes behind its TRUNCATE of the history.
use Rattle.std.specs.Prelude.{ℕ, zero, suc, ◌≡◌, ◌+◌, ◌*◌, ◌/◌, ◌%◌, ◌==◌, cond, List, [], ◌∷◌, ◌++◌, Some, None}
use Rattle.pfs_event.specs.declared.entry.Entry.{Entry}
use Rattle.pfs_event.specs.declared.entry.Entry.TheVariants as says
use Rattle.pfs_event.specs.declared.kind.EventKind.TheVariants as kinds
use Rattle.pfs_event.specs.declared.verdict.Verdict.TheVariants.{Attributed}
use Rattle.pfs_model.specs.Chains.{change_at}
use Rattle.pfs_model.specs.EntryPlaces.{Block, Placed, places, up_to_phase}
use Rattle.pfs_model.specs.Rings.{history_of, shown_at}
use Rattle.pfs_model.specs.declared.lines.Line.{Line}
use Rattle.pfs_model.specs.declared.lines.Line.TheVariants as lines
use Rattle.pfs_model.specs.declared.lines.Subject.{Subject}
use Rattle.pfs_law_summaries.specs.ThreadHistories.{IsThere}

-- a statement of the class 17
abbrev pub statement : Subject
statement = record { kind = kinds.Statement; class = Some 17; cell = 17; table = None; digest = None }

abbrev pub statements : ℕ → List Line
statements zero = []
statements (suc more) = lines.Start statement ∷ lines.End ∷ statements more

-- the entries of one: its current place from this version on, and its place of the history
abbrev pub puts_of : ℕ → ℕ → ℕ → ℕ → List (List Entry)
puts_of number current row version =
    (says.Start (Some number) Attributed (Some 0) (Some 0) (Some 0) None ∷ says.Ring 8455 current ∷ [])
    ∷ (says.End (Some number) (Some number) (Some 0) (Some 0) ∷ says.Ring 8455 (current + 1) ∷ says.Ring row version ∷ [])
    ∷ []

-- those of the second session, so many behind these; the first place of the history has had the first session's
abbrev pub second_puts : ℕ → ℕ → List (List Entry)
second_puts before zero = []
second_puts before (suc more) =
    puts_of (before + 1) (2 * before + 3) (8486 + before % 10) (before / 10 + 1 + cond (before % 10 == 0) 1 0)
    ++ second_puts (before + 1) more

abbrev pub connects : ℕ → List Entry
connects action = says.Connect action (Some 0) (Some 0) (Some 0) (Some 0) ∷ []

-- of an action what the history looks at
abbrev pub quits : List Entry
quits = says.Act 2 ∷ says.Free 8455 2 ∷ says.Free 8486 1 ∷ []

abbrev pub frees : List Entry
frees =
    says.Act 4 ∷ says.Free 8486 3 ∷ says.Free 8487 1 ∷ says.Free 8488 1 ∷ says.Free 8489 1 ∷ says.Free 8490 1
    ∷ says.Free 8491 1 ∷ says.Free 8492 1 ∷ says.Free 8493 1 ∷ says.Free 8494 1 ∷ says.Free 8495 1 ∷ says.Reply 0 ∷ []

abbrev pub block : ℕ → ℕ → List Line → List (List Entry) → Block
block phase session own parts = record { phase = phase; session = session; lines = own; parts = parts }

abbrev pub all : List Placed
all = places (block 1 1 (lines.Connect ∷ statements 1) (connects 1 ∷ puts_of 1 1 8486 1)
    ∷ block 2 1 (lines.Quit ∷ []) (quits ∷ [])
    ∷ block 3 2 (lines.Connect ∷ statements 1) (connects 3 ∷ second_puts 0 1)
    ∷ block 4 2 (statements 10) (second_puts 1 10)
    ∷ block 5 2 (lines.Change ∷ []) (frees ∷ [])
    ∷ block 6 2 (statements 1) (second_puts 11 1)
    ∷ [])

abbrev pub to : ℕ → List Placed
to phase = up_to_phase phase all

pub record WorkedHistory : Type 0 where
  -- a put stands in its place, and is the session's history
  pub first : history_of (to 1) 1 0 2 ≡ change_at 8486 1 ∷ []
  pub first_shown : shown_at (to 1) 8486 ≡ Some 1
  pub first_there : IsThere (to 1) 1 0
  pub other_kind : history_of (to 1) 1 0 1 ≡ []
  -- behind its quit there is none, and the session isn't there
  pub quit : history_of (to 2) 1 0 2 ≡ []
  pub quit_shown : shown_at (to 2) 8486 ≡ None
  pub gone : IsThere (to 2) 1 0 → ⊥
  -- the second session's begins at the first place, and is no other's
  pub second : history_of (to 3) 2 0 2 ≡ change_at 8486 2 ∷ []
  pub second_shown : shown_at (to 3) 8486 ≡ Some 2
  pub past : history_of (to 3) 1 0 2 ≡ []
  -- of eleven puts it has the last ten, of which the last stands in the place of the first
  pub many : history_of (to 4) 2 0 2
      ≡ change_at 8487 1 ∷ change_at 8488 1 ∷ change_at 8489 1 ∷ change_at 8490 1 ∷ change_at 8491 1 ∷ change_at 8492 1
      ∷ change_at 8493 1 ∷ change_at 8494 1 ∷ change_at 8495 1 ∷ change_at 8486 3 ∷ []
  pub many_shown : shown_at (to 4) 8487 ≡ Some 1
  pub again_shown : shown_at (to 4) 8486 ≡ Some 3
  -- behind the TRUNCATE there is none, and the next put goes to the place behind
  pub freed : history_of (to 5) 2 0 2 ≡ []
  pub freed_shown : shown_at (to 5) 8486 ≡ None
  pub next : history_of (to 6) 2 0 2 ≡ change_at 8487 2 ∷ []
  pub next_shown : shown_at (to 6) 8487 ≡ Some 2
  pub there : IsThere (to 6) 2 0
