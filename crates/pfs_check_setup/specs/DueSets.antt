-- The sets that are due of an action, by what it asks for and by how often its words were asked for before.
use Rattle.std.specs.Prelude.{ℕ, ◌≡◌, ◌+◌, ◌-◌, ◌<◌, ◌≤◌, ◌==◌, Bool, false, List, [], ◌∷◌, ◌++◌, length, Option, Some, None}
use Rattle.std.specs.BTreeMap.{BTreeMap}
use Rattle.pfs_event.specs.declared.entry.Entry.{Entry}
use Rattle.pfs_event.specs.declared.entry.Entry.TheVariants as says
use Rattle.pfs_model.specs.ActionAsks.{Asked}
use Rattle.pfs_check_faults.specs.ActionFaults.{sets_asked}
use Rattle.pfs_check_faults.specs.ReportCases.{AlikeUpTo}
use Rattle.pfs_check_setup.specs.PrintedActions.{count_in}
use Rattle.pfs_check_setup.specs.declared.sets.WordSet.{WordSet}

-- the entry asks to set this word
abbrev pub is_set_of : ℕ → Entry → Bool
is_set_of word (says.Set at version flags) = at == word
is_set_of word _ = false

-- the set that an entry asks for, where its word was asked for so often
abbrev pub due_at : BTreeMap ℕ ℕ → Entry → List WordSet
due_at counts (says.Set word version flags) = record {
  word = word;
  version = count_in counts word + 1;
  flags = flags;
} ∷ []
due_at counts _ = []

abbrev pub dues_by : BTreeMap ℕ ℕ → List Entry → List WordSet
dues_by counts [] = []
dues_by counts (entry ∷ entries) = due_at counts entry ++ dues_by counts entries

-- so often the actions up to one asked for each word
pub record AreAskedFor (asked : ℕ → Asked) (counts : BTreeMap ℕ ℕ) (number : ℕ) : Type 0 where
  pub each : (word : ℕ) → count_in counts word ≡ sets_asked asked word number

-- this is the first place at which two lists aren't alike
pub record Differs {A : Type 0} (due printed : List A) (at : ℕ) : Type 0 where
  pub within : at ≤ length printed
  pub wrong : AlikeUpTo due printed at → ⊥
  pub before : (other : ℕ) → other < at → AlikeUpTo due printed other

-- They are the same, or differ there first. The end of one counts as a place.
abbrev pub IsFirstDifference : {A : Type 0} → List A → List A → Option ℕ → Type 0
IsFirstDifference due printed None = due ≡ printed
IsFirstDifference due printed (Some at) = Differs due printed at
