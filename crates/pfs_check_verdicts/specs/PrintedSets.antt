-- The flags of the switch words at their versions, by the sets that a report prints.
use Rattle.std.specs.Prelude.{ℕ, ◌≡◌, ◌==◌, Bool, ◌&&◌, cond, List, [], ◌∷◌, slice_index_or, Option, Some, None}
use Rattle.std.specs.BTreeMap.{BTreeMap, get}
use Rattle.std.specs.declared.cmp.Ordering.{Ordering}
use Rattle.std.specs.Ordering.{nat_cmp, ordering_then}
use Rattle.pfs_admin.specs.OpeningState.{opening_flags}
use Rattle.pfs_classes.specs.declared.setting.Setting.{Setting}
use Rattle.pfs_event.specs.declared.entry.Entry.{Entry}
use Rattle.pfs_event.specs.declared.entry.Entry.TheVariants as says
use Rattle.pfs_matching.specs.ObjectRules.{opening_objects}
use Rattle.pfs_model.specs.EntryPlaces.{Placed}
use Rattle.pfs_check_verdicts.specs.declared.flags.PrintedFlags.{PrintedFlags}
use Rattle.pfs_check_verdicts.specs.declared.flags.WordVersion.{WordVersion}

abbrev pub word_cmp : WordVersion → WordVersion → Ordering
word_cmp one other = ordering_then (nat_cmp one.word other.word) (nat_cmp one.version other.version)

abbrev pub word_at : ℕ → ℕ → WordVersion
word_at word version = record { word = word; version = version }

abbrev pub is_same_word : WordVersion → WordVersion → Bool
is_same_word one at = (one.word == at.word) && (one.version == at.version)

-- the flags to which an entry sets a word at a version
abbrev pub set_to : WordVersion → Entry → Option ℕ
set_to at (says.Set word version flags) = cond ((word == at.word) && (version == at.version)) (Some flags) None
set_to at _ = None

-- the first of two, where there is one
abbrev pub or_first : Option ℕ → Option ℕ → Option ℕ
or_first None other = other
or_first (Some flags) other = Some flags

-- the flags of the first entry of these that sets it; they stand with the last first
abbrev pub first_set : WordVersion → List Placed → Option ℕ
first_set at [] = None
first_set at (place ∷ earlier) = or_first (first_set at earlier) (set_to at place.entry)

-- the map has them
abbrev pub AreSetsOf : List Placed → BTreeMap WordVersion ℕ → Type 0
AreSetsOf earlier sets = (at : WordVersion) → get word_cmp sets at ≡ first_set at earlier

abbrev pub flags_or : Option ℕ → ℕ → ℕ
flags_or None opening = opening
flags_or (Some flags) opening = flags

-- the flags of a word at a version, as they are kept
abbrev pub flags_kept : PrintedFlags → ℕ → ℕ → ℕ
flags_kept kept word version =
    flags_or (get word_cmp kept.sets (word_at word version)) (slice_index_or kept.opening.items word 0)

-- what is kept gives these flags
abbrev pub GivesFlags : (ℕ → ℕ → ℕ) → PrintedFlags → Type 0
GivesFlags flags kept = (word version : ℕ) → flags word version ≡ flags_kept kept word version

-- of a script with this setting, behind these entries
pub record AreFlagsSoFar (setting : Setting) (earlier : List Placed) (kept : PrintedFlags) : Type 0 where
  pub opening_is : kept.opening.items ≡ opening_flags setting opening_objects
  pub sets_are : AreSetsOf earlier kept.sets
