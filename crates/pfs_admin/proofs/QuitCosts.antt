-- What a quit costs at most, and that no word is set more often than there are actions.
use Rattle.std.proofs.Common.{ℕ, zero, suc, ◌≡◌, ◌≤◌, ◌+◌, ◌*◌, ◌==◌, Bool, true, false, if◌then◌else◌, List, [], ◌∷◌, length, slice_set, Option, Some, None, refl, ap, sym, subst, ◌∙◌, arith}
use Rattle.pfs_containers.specs.declared.containers.Seated.{Seated}
use Rattle.pfs_containers.specs.ContainerState.{Kept}
use Rattle.pfs_levels.specs.declared.answers.Word.{Word}
use Rattle.pfs_levels.specs.declared.places.Up.{Up}
use Rattle.pfs_levels.specs.declared.flushes.Source.TheVariants as of
use Rattle.pfs_levels.specs.Flushes.{asks_of, beyond, upper}
use Rattle.pfs_levels.specs.Moves.{cost}
use Rattle.pfs_admin.specs.Works.{word_at, set_word}
use Rattle.pfs_admin.specs.AdministrationStates.{State, AreEarly, IsState, words_by}

beyond_small : (user host : Option ℕ) (cell : ℕ) → length (beyond user host cell) ≤ 2
beyond_small (Some user) (Some host) cell = omega arith
beyond_small (Some user) None cell = omega arith
beyond_small None (Some host) cell = omega arith
beyond_small None None cell = omega arith

upper_small : (account user host : Option ℕ) (cell : ℕ) → length (upper account user host cell) ≤ 2
upper_small (Some account) user host cell = omega arith
upper_small None user host cell = beyond_small user host cell

pub cost_small : (up : Up) (cells : List ℕ) → cost (asks_of cells (of.Thread up)) ≤ 3 * length cells
cost_small up [] = omega arith
cost_small up (cell ∷ cells) = omega (arith, upper_small up.account up.user up.host cell, cost_small up cells)

pub early_at : (most at : ℕ) (words : List Word) → AreEarly most words → (word_at words at).version ≤ most
early_at most at [] are = omega arith
early_at most zero (w ∷ ws) are = are.0
early_at most (suc at) (w ∷ ws) are = early_at most at ws are.1

pub early_wider : (most : ℕ) (words : List Word) → AreEarly most words → AreEarly (most + 1) words
early_wider most [] are = tt
early_wider most (w ∷ ws) are = (omega (arith, are.0), early_wider most ws are.1)

pub early_set : (most at : ℕ) (word : Word) (words : List Word) → word.version ≤ most → AreEarly most words → AreEarly most (slice_set words at word)
early_set most at word [] le are = are
early_set most zero word (w ∷ ws) le are = (le, are.1)
early_set most (suc at) word (w ∷ ws) le are = (are.0, early_set most at word ws le are.1)

early_if : (b : Bool) (most at flags : ℕ) (words : List Word) → AreEarly most words
    → AreEarly (most + 1) (if b then words else slice_set words at (set_word (word_at words at) flags))
early_if true most at flags words are = early_wider most words are
early_if false most at flags words are =
    early_set (most + 1) at (set_word (word_at words at) flags) words (omega (arith, early_at most at words are)) (early_wider most words are)

pub early_by : (most flags : ℕ) (words : List Word) (seat : Option Seated) → AreEarly most words → AreEarly (most + 1) (words_by words flags seat)
early_by most flags words None are = early_wider most words are
early_by most flags words (Some seat) are =
    early_if ((word_at words (1 + seat.slot)).flags == flags) most (1 + seat.slot) flags words are

len_set : (at : ℕ) (word : Word) (words : List Word) → length (slice_set words at word) ≡ length words
len_set at word [] = refl
len_set zero word (w ∷ ws) = refl
len_set (suc at) word (w ∷ ws) = ap suc (len_set at word ws)

pub len_if : (b : Bool) (at flags : ℕ) (words : List Word)
    → length (if b then words else slice_set words at (set_word (word_at words at) flags)) ≡ length words
len_if true at flags words = refl
len_if false at flags words = len_set at (set_word (word_at words at) flags) words

pub len_by : (flags : ℕ) (words : List Word) (seat : Option Seated) → length (words_by words flags seat) ≡ length words
len_by flags words None = refl
len_by flags words (Some seat) = len_if ((word_at words (1 + seat.slot)).flags == flags) (1 + seat.slot) flags words

-- a call of the administration is one action, and keeps what always holds
pub state_keeps : (s : State) (kept : Kept) (flags : ℕ) (seat : Option Seated) (words : List Word) → IsState s → kept.connects ≤ s.kept.connects + 1
    → words ≡ words_by s.words flags seat → IsState (record s { kept = kept; words = words; actions = s.actions + 1 })
state_keeps s kept flags seat words is le same = record {
  words_wide = ap length same ∙ (len_by flags s.words seat ∙ is.words_wide);
  words_early = subst (AreEarly (s.actions + 1)) (sym same) (early_by s.actions flags s.words seat is.words_early);
  connects_few = omega (arith, le, is.connects_few);
  cells_small = is.cells_small;
  cells_few = is.cells_few;
  kinds_are = is.kinds_are;
}
