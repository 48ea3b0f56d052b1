-- The setup words as their writer knows them.
use Rattle.std.specs.Prelude.{ℕ, ◌≡◌, ◌+◌, ◌*◌, List, [], ◌∷◌, ◌++◌, Option, Some, None, slice_index}
use Rattle.std.proofs.Common.{zero, suc}
use Rattle.pfs_levels.specs.Calls.{Call, Adds, Rings, Reads, Loads, Draws, Takes, Puts, Frees, Sets, Enters, Leaves, Meets}
use Rattle.pfs_levels.specs.declared.answers.Word.{Word}
use Rattle.pfs_switches.specs.History.{flags_at, setting}
use Rattle.pfs_switches.specs.declared.view.Setting.{Setting}
use Rattle.pfs_switches.specs.declared.switches.Writer.{Writer}
use Rattle.pfs_switches.specs.declared.view.View.{View}

-- each word's present version, and its flags at that version; so many words from a place on
unfoldable pub words_from : ℕ → ℕ → View → List Word
words_from zero i w = []
words_from (suc n) i w = record {
  version = slice_index w.seen i;
  flags = flags_at w.start w.sets i (slice_index w.seen i);
} ∷ words_from n (i + 1) w

abbrev pub words_of : View → List Word
words_of w = words_from 160 0 w

-- an actor whose hold is lent the writer meets it
abbrev pub meeting : Option Writer → List Call
meeting None = []
meeting (Some w) = Meets w.view.seen ∷ []

-- what the actor set since it met the writer last, newest first
abbrev pub sets_since_met : List Call → List Setting
sets_since_met [] = []
sets_since_met (Meets versions ∷ calls) = []
sets_since_met (Sets word flags version ∷ calls) = setting word version flags ∷ sets_since_met calls
sets_since_met (Adds row amount answer ∷ calls) = sets_since_met calls
sets_since_met (Rings row content answer ∷ calls) = sets_since_met calls
sets_since_met (Reads row seen ∷ calls) = sets_since_met calls
sets_since_met (Loads word version flags ∷ calls) = sets_since_met calls
sets_since_met (Draws kind ticket ∷ calls) = sets_since_met calls
sets_since_met (Takes row version found ∷ calls) = sets_since_met calls
sets_since_met (Puts row content version ∷ calls) = sets_since_met calls
sets_since_met (Frees row version ∷ calls) = sets_since_met calls
sets_since_met (Enters label labels ∷ calls) = sets_since_met calls
sets_since_met (Leaves ∷ calls) = sets_since_met calls

abbrev pub sets_in : Option Writer → List Setting
sets_in None = []
sets_in (Some w) = w.view.sets

-- A writer has the sets of the calls behind its meet, then those that it had as it was lent
abbrev pub HasSet : Option Writer → List Call → Option Writer → Type 0
HasSet lent calls None = Unit {0}
HasSet lent calls (Some w) = w.view.sets ≡ sets_since_met calls ++ sets_in lent

-- two numbers in one
unfoldable pub both : ℕ → ℕ → ℕ
both zero b = 2 * b + 1
both (suc a) b = 2 * both a b

-- Sets as one number, other sets as another. A hold's name is that of the sets that its writer had as it was lent, since
-- no call changes a name
unfoldable pub number_of : List Setting → ℕ
number_of [] = 0
number_of (s ∷ ss) = both s.word (both s.version (both s.flags (number_of ss)))
