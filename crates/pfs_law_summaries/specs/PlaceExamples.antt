-- The current places and a place of the long history, worked: two sessions put statements there, the first one's later
-- ticket comes too late and it quits; the second one empties the long history, and puts once more. Of the long history
-- only the puts at one place are here, not those of the tickets between.
use Rattle.std.specs.Prelude.{ℕ, ◌≡◌, ◌+◌, List, [], ◌∷◌, Some, None}
use Rattle.pfs_event.specs.declared.entry.Entry.{Entry}
use Rattle.pfs_event.specs.declared.entry.Entry.TheVariants as says
use Rattle.pfs_event.specs.declared.verdict.Verdict.TheVariants.{Attributed}
use Rattle.pfs_model.specs.EntryPlaces.{Placed, places, up_to_phase}
use Rattle.pfs_model.specs.Rings.{shown_at}
use Rattle.pfs_model.specs.declared.lines.Line.TheVariants as lines
use Rattle.pfs_law_summaries.specs.CurrentPlaces.{IsLastPut}
use Rattle.pfs_law_summaries.specs.LongHistory.{IsGreatestPut, IsPutSince}
use Rattle.pfs_law_summaries.specs.HistoryExamples.{block, statements}

-- a session's connect at this slot
abbrev pub connects_at : ℕ → ℕ → List Entry
connects_at action slot = says.Connect action (Some slot) (Some 0) (Some 0) (Some 0) ∷ []

-- the entries of a statement: its current place from this version on, its place of the history, and what the long
-- history told
abbrev pub puts_with : ℕ → ℕ → ℕ → ℕ → Entry → List (List Entry)
puts_with number current version row long =
    (says.Start (Some number) Attributed (Some 0) (Some 0) (Some 0) None ∷ says.Ring current version ∷ [])
    ∷ (says.End (Some number) (Some number) (Some 0) (Some 0) ∷ says.Ring current (version + 1) ∷ says.Ring row 1 ∷ long
    ∷ [])
    ∷ []

-- of an action what these places look at
abbrev pub quits : List Entry
quits = says.Act 3 ∷ says.Free 8455 4 ∷ says.Free 8486 1 ∷ says.Free 8487 1 ∷ []

abbrev pub frees : List Entry
frees = says.Act 4 ∷ says.Free 12242 2 ∷ says.Reply 0 ∷ []

abbrev pub all : List Placed
all = places (block 1 1 (lines.Connect ∷ statements 1)
    (connects_at 1 0 ∷ puts_with 1 8455 1 8486 (says.Long 12242 1 0))
    ∷ block 2 1 (statements 1) (puts_with 2 8455 3 8487 (says.Late 12242 1000 2000))
    ∷ block 2 2 (lines.Connect ∷ statements 1) (connects_at 2 1 ∷ puts_with 1 8511 1 8542 (says.Long 12242 2 2000))
    ∷ block 3 1 (lines.Quit ∷ []) (quits ∷ [])
    ∷ block 3 2 (lines.Change ∷ []) (frees ∷ [])
    ∷ block 4 2 (statements 1) (puts_with 2 8511 3 8543 (says.Long 12242 3 3000))
    ∷ [])

abbrev pub to : ℕ → List Placed
to phase = up_to_phase phase all

pub record WorkedPlaces : Type 0 where
  -- a current place shows the put at the statement's end, not that at its start
  pub current : IsLastPut (to 1) 8455 2
  pub current_shown : shown_at (to 1) 8455 ≡ Some 2
  pub earlier : IsLastPut (to 1) 8455 1 → ⊥
  -- and the next statement's behind it
  pub next : IsLastPut (to 2) 8455 4
  pub next_shown : shown_at (to 2) 8455 ≡ Some 4
  -- behind the quit none; the other session's stands
  pub freed : IsLastPut (to 3) 8455 4 → ⊥
  pub freed_shown : shown_at (to 3) 8455 ≡ None
  pub other : IsLastPut (to 3) 8511 2
  pub other_shown : shown_at (to 3) 8511 ≡ Some 2
  -- a place of the long history shows its put
  pub long : IsGreatestPut (to 1) 12242 1 0
  pub long_shown : shown_at (to 1) 12242 ≡ Some 1
  -- then that of the greater ticket, not the one before; a ticket that came too late is not put
  pub greater : IsGreatestPut (to 2) 12242 2 2000
  pub greater_shown : shown_at (to 2) 12242 ≡ Some 2
  pub lesser : IsGreatestPut (to 2) 12242 1 0 → ⊥
  pub late : (version : ℕ) → IsPutSince (to 2) 12242 version 1000 → ⊥
  -- behind the TRUNCATE none, then the next put
  pub emptied : IsGreatestPut (to 3) 12242 2 2000 → ⊥
  pub emptied_shown : shown_at (to 3) 12242 ≡ None
  pub since : IsGreatestPut (to 4) 12242 3 3000
  pub since_shown : shown_at (to 4) 12242 ≡ Some 3
