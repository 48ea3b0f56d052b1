-- A store as contracts see it, and what a call over it may need, use up and leave as it was.
use Rattle.std.specs.Prelude.{ℕ, ◌≡◌, ◌+◌, ◌≤◌, ◌==◌, if◌then◌else◌, List, Option, Some, None}
use Rattle.pfs_event.specs.Logs.{Journal}
use Rattle.pfs_levels.specs.declared.answers.Word.{Word}
use Rattle.pfs_levels.specs.Calls.{Call, Opening, with_set}

pub record Store : Type 1 where
  pub reached : Opening → List Call → Type 0  -- these calls of the actor, newest first, brought it here from this opening
  pub hand : ℕ → Option ℕ  -- the version at which it took a row in hand; row 0 is in hand inside an action alone
  pub left : ℕ  -- how many publications are left beside one for each row in hand
  pub draws : ℕ  -- how many tickets it may still draw
  pub words : Option (List Word)  -- the switch words as they stand, where the actor may set them
  pub name : ℕ  -- what a reference that the store keeps points back to; no call changes it

-- a store with a row taken at this version, with a row given back, with no row in hand, with a word set, and with these
-- words; what led to it is no matter here
abbrev pub taken : ℕ → ℕ → Store → Store
taken row version s = record s { hand = λ r. if r == row then Some version else s.hand r }

abbrev pub given_back : ℕ → Store → Store
given_back row s = record s { hand = λ r. if r == row then None else s.hand r }

abbrev pub empty_handed : Store → Store
empty_handed s = record s { hand = λ r. None }

abbrev pub with_word : ℕ → ℕ → ℕ → Store → Store
with_word at version flags s = record s { words = with_set s.words at version flags }

abbrev pub lent_as : List Word → Store → Store
lent_as words s = record s { words = Some words }

-- it is as it was meant to be
pub record Same (meant now : Store) : Type 0 where
  pub left : now.left ≡ meant.left
  pub draws : now.draws ≡ meant.draws
  pub hand : (r : ℕ) → now.hand r ≡ meant.hand r
  pub words : now.words ≡ meant.words
  pub name : now.name ≡ meant.name

-- it is as it was meant to be, with so many publications and tickets used up at most, and no ticket more
pub record Kept (spent drawn : ℕ) (meant now : Store) : Type 0 where
  pub left : meant.left ≤ now.left + spent
  pub draws : meant.draws ≤ now.draws + drawn
  pub no_more : now.draws ≤ meant.draws
  pub hand : (r : ℕ) → now.hand r ≡ meant.hand r
  pub words : now.words ≡ meant.words
  pub name : now.name ≡ meant.name

-- the same of a store and of the log that is written beside it, with so many entries used up at most
pub record Used (spent drawn entries : ℕ) (meant now : Store) (old new : Journal) : Type 0 where
  pub left : meant.left ≤ now.left + spent
  pub draws : meant.draws ≤ now.draws + drawn
  pub no_more : now.draws ≤ meant.draws
  pub hand : (r : ℕ) → now.hand r ≡ meant.hand r
  pub words : now.words ≡ meant.words
  pub name : now.name ≡ meant.name
  pub room : old.room ≤ new.room + entries

-- so many publications, tickets and entries are there to be used
pub record Affords (spent drawn entries : ℕ) (s : Store) (log : Journal) : Type 0 where
  pub left : spent ≤ s.left
  pub draws : drawn ≤ s.draws
  pub room : entries ≤ log.room
