-- Plain agreement: each line goes by the lines before it, as where one session runs after another.
use Rattle.std.specs.Prelude.{ℕ, ◌≡◌, ◌+◌, ◌==◌, Bool, true, false, cond, List, [], ◌∷◌}
use Rattle.pfs_event.specs.declared.entry.Entry.{Entry}
use Rattle.pfs_event.specs.declared.entry.Entry.TheVariants as says
use Rattle.pfs_model.specs.declared.changes.Change.{Change}
use Rattle.pfs_model.specs.EntryPlaces.{Block, Placed, places, IsShaped}
use Rattle.pfs_model.specs.Chains.{row_change, word_change, action_change, each_of, opens_free, AreChained}
use Rattle.pfs_model.specs.Actions.{IsOrdered}
use Rattle.pfs_model.specs.Causes.{kind_of_row}
use Rattle.pfs_model.specs.Floors.{AreFloored}
use Rattle.pfs_model.specs.SetupFlags.{loads_of}

-- the version of a row's last change, the last changes first; 0 without one
abbrev pub last_of : ℕ → List Change → ℕ
last_of row [] = 0
last_of row (change ∷ changes) = cond (change.row == row) change.version (last_of row changes)

-- the tickets of a kind that were drawn before
abbrev pub tickets_at : Entry → List ℕ
tickets_at (says.Long row version ticket) = kind_of_row row ∷ []
tickets_at _ = []

abbrev pub drawn_of : ℕ → List ℕ → ℕ
drawn_of kind [] = 0
drawn_of kind (other ∷ others) = cond (other == kind) 1 0 + drawn_of kind others

-- the row was released after its last change, or it opened FREE and has no change: by the last line that changes or
-- releases it
abbrev pub stands_free : Entry → ℕ → Bool → Bool
stands_free (says.Free at version) row before = cond (at == row) true before
stands_free (says.Add at version) row before = cond (at == row) false before
stands_free (says.Ring at version) row before = cond (at == row) false before
stands_free (says.Long at version ticket) row before = cond (at == row) false before
stands_free (says.Take at version) row before = cond (at == row) false before
stands_free (says.Give at version from) row before = cond (at == row) false before
stands_free (says.Tag at version) row before = cond (at == row) false before
stands_free entry row before = before

abbrev pub is_free : List Placed → ℕ → Bool
is_free [] row = opens_free row
is_free (place ∷ places) row = stands_free place.entry row (is_free places row)

-- the changes each have the version one above the last
abbrev pub AreNext : List Change → List Change → Type 0
AreNext before [] = Unit {0}
AreNext before (change ∷ changes) = (change.version ≡ last_of change.row before + 1) × AreNext before changes

-- and these name the last version
abbrev pub AreLast : List Change → List Change → Type 0
AreLast before [] = Unit {0}
AreLast before (change ∷ changes) = (change.version ≡ last_of change.row before) × AreLast before changes

-- what an entry says beside its changes; `earlier` has the last line first
abbrev pub Agrees : List Placed → Entry → Type 0
Agrees earlier (says.Long row version ticket) = ticket ≡ drawn_of (kind_of_row row) (each_of tickets_at earlier)
Agrees earlier (says.Free row version) = version ≡ last_of row (each_of row_change earlier)
Agrees earlier (says.Seen row version) = (version ≡ last_of row (each_of row_change earlier))
    × (is_free earlier row ≡ false)
Agrees earlier (says.Vacant row) = is_free earlier row ≡ true
Agrees earlier (says.Held row first second) = ⊥
Agrees earlier (says.Busy row first second) = ⊥
Agrees earlier (says.Late row ticket greater) = ⊥
Agrees earlier says.Settle = ⊥
Agrees earlier entry = Unit {0}

-- a line agrees with those before it
pub record AgreesWith (earlier : List Placed) (place : Placed) : Type 0 where
  pub rows : AreNext (each_of row_change earlier) (row_change place.entry)
  pub words : AreNext (each_of word_change earlier) (word_change place.entry)
  pub numbers : AreNext (each_of action_change earlier) (action_change place.entry)
  pub loads : AreLast (each_of word_change earlier) (loads_of place)
  pub others : Agrees earlier place.entry

abbrev pub AgreeBehind : List Placed → List Placed → Type 0
AgreeBehind earlier [] = Unit {0}
AgreeBehind earlier (place ∷ places) = AgreesWith earlier place × AgreeBehind (place ∷ earlier) places

-- all lines of a report as one list, each in agreement with those before it
abbrev pub IsPlain : List Placed → Type 0
IsPlain all = AgreeBehind [] all

-- nothing is held or settled, busy or late
abbrev pub IsHeldBack : Entry → Type 0
IsHeldBack (says.Held row first second) = Unit {0}
IsHeldBack (says.Busy row first second) = Unit {0}
IsHeldBack (says.Late row ticket greater) = Unit {0}
IsHeldBack says.Settle = Unit {0}
IsHeldBack entry = ⊥

abbrev pub NoneHeldBack : List Placed → Type 0
NoneHeldBack [] = Unit {0}
NoneHeldBack (place ∷ places) = (IsHeldBack place.entry → ⊥) × NoneHeldBack places

-- what all journals have in common, whoever ran when: chains, the order of the actions, and floors
pub record AreJoint (all : List Placed) : Type 0 where
  pub rows : AreChained row_change all
  pub words : AreChained word_change all
  pub ordered : IsOrdered all
  pub floored : AreFloored all

pub record AreAlone (all : List Placed) : Type 0 where
  pub joint : AreJoint all
  pub none : NoneHeldBack all

-- Journals of the right shape in which each line agrees with those before it have chains, the order of the actions,
-- the versions of words along them, and floors; and nothing is held back in them. Of tickets, places and what is
-- vacant this says nothing.
abbrev pub PlainKeeps : Type 0
PlainKeeps = (blocks : List Block) → IsShaped blocks → IsPlain (places blocks) → AreAlone (places blocks)
