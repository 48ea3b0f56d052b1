-- The changes of rows, of switch words, and the numbers of actions: each version from 1 on once.
use Rattle.std.specs.Prelude.{ℕ, ◌≡◌, ◌+◌, ◌==◌, nat_lt, nat_le, Bool, ◌&&◌, ◌||◌, cond, List, [], ◌∷◌, ◌++◌}
use Rattle.pfs_event.specs.declared.entry.Entry.{Entry}
use Rattle.pfs_event.specs.declared.entry.Entry.TheVariants as says
use Rattle.pfs_model.specs.declared.changes.Change.{Change}
use Rattle.pfs_model.specs.EntryPlaces.{Placed, up_to_phase}

-- a fact of each of a list
abbrev pub Each : {A : Type 0} → (A → Type 0) → List A → Type 0
Each fact [] = Unit {0}
Each fact (x ∷ xs) = fact x × Each fact xs

-- how often a test holds
abbrev pub times : {A : Type 0} → (A → Bool) → List A → ℕ
times test [] = 0
times test (x ∷ xs) = cond (test x) 1 0 + times test xs

abbrev pub change_at : ℕ → ℕ → Change
change_at row version = record { row = row; version = version }

-- the change of a row that an entry is
abbrev pub row_change : Entry → List Change
row_change (says.Add row version) = change_at row version ∷ []
row_change (says.Ring row version) = change_at row version ∷ []
row_change (says.Long row version ticket) = change_at row version ∷ []
row_change (says.Take row version) = change_at row version ∷ []
row_change (says.Give row version from) = change_at row version ∷ []
row_change (says.Tag row version) = change_at row version ∷ []
row_change _ = []

-- the change of a switch word that an entry is
abbrev pub word_change : Entry → List Change
word_change (says.Set word version flags) = change_at word version ∷ []
word_change _ = []

-- the number of the action that an entry begins; the numbers are versions of row 0, which each action holds from its
-- beginning to its end
abbrev pub action_change : Entry → List Change
action_change (says.Connect action thread account user host) = change_at 0 action ∷ []
action_change (says.Act action) = change_at 0 action ∷ []
action_change _ = []

-- the release of a row that an entry is, at its version
abbrev pub release_of : Entry → List Change
release_of (says.Free row version) = change_at row version ∷ []
release_of _ = []

-- what entries give, one after another
abbrev pub each_of : {A : Type 0} → (Entry → List A) → List Placed → List A
each_of given [] = []
each_of given (place ∷ places) = given place.entry ++ each_of given places

abbrev pub is_of : ℕ → Change → Bool
is_of row change = change.row == row

abbrev pub is_that : Change → Change → Bool
is_that wanted change = (change.row == wanted.row) && (change.version == wanted.version)

-- of so many changes of a row there is one at each version from 1 on
abbrev pub IsChained : List Change → Type 0
IsChained changes =
    (change : Change)
    → times (is_that change) changes
    ≡ cond (nat_lt 0 change.version && nat_le change.version (times (is_of change.row) changes)) 1 0

-- at each phase's end, of all entries up to there
abbrev pub AreChained : (Entry → List Change) → List Placed → Type 0
AreChained given all = (phase : ℕ) → IsChained (each_of given (up_to_phase phase all))

-- the row is FREE before its first change: an info row, or a place of a ring or of the long history
abbrev pub opens_free : ℕ → Bool
opens_free row = (nat_lt 0 row && nat_lt row 129) || nat_le 8450 row

-- a release of the row at its last version stands, or it has no change and opened FREE
abbrev pub is_free_after : List Placed → ℕ → Bool
is_free_after places row =
    nat_lt 0 (times (is_that (change_at row (times (is_of row) (each_of row_change places))))
    (each_of release_of places))
    || ((times (is_of row) (each_of row_change places) == 0) && opens_free row)
