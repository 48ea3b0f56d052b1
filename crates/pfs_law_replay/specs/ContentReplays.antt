-- Contents of rows by a replay of their changes, one after another. The changes that were replayed stand in a list, the
-- last first.
use Rattle.std.specs.Prelude.{ℕ, ◌≡◌, ◌⊎◌, ◌-◌, ◌≤◌, cond, List, [], ◌∷◌, Some}
use Rattle.pfs_event.specs.declared.entry.Entry.{Entry}
use Rattle.pfs_event.specs.declared.entry.Entry.TheVariants as says
use Rattle.pfs_model.specs.declared.changes.Change.{Change}
use Rattle.pfs_model.specs.Actions.{IsAmong}
use Rattle.pfs_model.specs.Chains.{Each, change_at, each_of, is_that, row_change}
use Rattle.pfs_model.specs.Contents.{AllContents, AreContents, Given, content_after, opening_words}
use Rattle.pfs_model.specs.Contexts.{Context}
use Rattle.pfs_model.specs.EntryPlaces.{Placed}
use Rattle.pfs_model.specs.PlainAgreement.{AreNext, last_of}

-- the content of a row at a version: the new one where a change made it, the old one else
abbrev pub written_over : List Change → ℕ → ℕ → List ℕ → List ℕ → List ℕ
written_over [] row version new old = old
written_over (change ∷ changes) row version new old = cond (is_that (change_at row version) change) new old

-- What stands in the rows at their versions: each change makes its content of the one at the version before, and a give
-- of what its source had before it was taken, as these stood when it was replayed.
unfoldable pub content_in : Given → List Placed → ℕ → ℕ → List ℕ
content_in given [] row version = opening_words row
content_in given (place ∷ done) row version =
    written_over (row_change place.entry) row version
    (content_after given (content_in given done) place place.context (content_in given done row (version - 1))
    place.entry)
    (content_in given done row version)

-- the last version that a row had in a replay
abbrev pub last_in : List Placed → ℕ → ℕ
last_in done row = last_of row (each_of row_change done)

-- what a give gives was taken before it
abbrev pub HasSource : List Placed → Context → Entry → Type 0
HasSource done context (says.Give row version from) =
    (context.source ≡ Some from) × (context.source_version ≤ last_in done from)
HasSource done context entry = Unit {0}

-- each change has the version above its row's last one, and what it gives was taken before
abbrev pub IsReplayed : List Placed → Type 0
IsReplayed [] = Unit {0}
IsReplayed (place ∷ done) =
    AreNext (each_of row_change done) (row_change place.entry) × HasSource done place.context place.entry
    × IsReplayed done

-- what changes nothing needn't be replayed; all else was, and nothing that isn't there
pub record IsReplayOf (all done : List Placed) : Type 0 where
  pub replayed : IsReplayed done
  pub whole : Each (λ place. (row_change place.entry ≡ []) ⊎ IsAmong place done) all
  pub own : Each (λ place. IsAmong place all) done

-- two contents are the same at each version that a row had in a replay
abbrev pub AgreeOn : List Placed → (ℕ → ℕ → List ℕ) → (ℕ → ℕ → List ℕ) → Type 0
AgreeOn done content other = (row version : ℕ) → version ≤ last_in done row → content row version ≡ other row version

-- A replay makes contents as the changes that were replayed make them.
abbrev pub MadeLaw : Type 0
MadeLaw = (given : Given) (done : List Placed) → IsReplayed done → AllContents given (content_in given done) done

-- And there are no others.
abbrev pub OnlyLaw : Type 0
OnlyLaw = (given : Given) (content : ℕ → ℕ → List ℕ) (done : List Placed) → IsReplayed done
    → AreContents given content done → AgreeOn done content (content_in given done)

-- So a replay of all changes of a report has the contents of the report, and there are no others.
pub record WholeLaw : Type 0 where
  pub contents : (given : Given) (all done : List Placed) → IsReplayOf all done
      → AreContents given (content_in given done) all
  pub only : (given : Given) (content : ℕ → ℕ → List ℕ) (all done : List Placed) → IsReplayOf all done
      → AreContents given content all → AgreeOn done content (content_in given done)
