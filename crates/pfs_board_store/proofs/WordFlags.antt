-- What the calls say of the setup words, from what a meet of the root with the writer tells.
use Rattle.std.proofs.Common.{ℕ, zero, suc, ◌≡◌, ◌+◌, ◌==◌, ◌<◌, ◌≤◌, ◌&&◌, Bool, true, false, cond, List, [], ◌∷◌, ◌++◌, slice_index, get_or, refl, ap, sym, ◌∙◌, arith}
use Rattle.pfs_levels.specs.Calls.{Call, Adds, Rings, Reads, Loads, Draws, Takes, Puts, Frees, Sets, Enters, Leaves, Meets, Opening}
use Rattle.pfs_levels.specs.JointCalls.{flags_at, word_version, AreWordsCounted}
use Rattle.pfs_board_store.specs.RootLaws.{settings_in}
use Rattle.pfs_board_store.specs.Ties.{AreLoaded, AreMet}
use Rattle.pfs_board_store.specs.Ties as ties
use Rattle.pfs_board_store.proofs.CallContents.{AllFlagged}
use Rattle.pfs_switches.specs.declared.view.Loaded.{Loaded}
use Rattle.pfs_switches.specs.declared.view.Met.{Met}
use Rattle.pfs_switches.specs.declared.view.Setting.{Setting as Written}
use Rattle.pfs_switches.specs.History as switches
use Rattle.pfs_switches.specs.History.{Each, IsChain, version}
use Rattle.pfs_switches.specs.OpeningWords.{opening_words}
use Rattle.pfs_switches.specs.Rule.{IsLoad, IsMeet}

one_more : (xs : List ℕ) (i : ℕ) → get_or (xs ++ 0 ∷ []) i 0 ≡ get_or xs i 0
one_more [] zero = refl
one_more [] (suc i) = refl
one_more (x ∷ xs) zero = refl
one_more (x ∷ xs) (suc i) = one_more xs i

both_at : {A : Type 0} (b c : Bool) (x y : A) → cond b (cond c x y) y ≡ cond (b && c) x y
both_at true c x y = refl
both_at false c x y = refl

pub same_flags : (flags : List ℕ) (sets : List Written) (at k : ℕ) → switches.flags_at (opening_words flags) sets at k ≡ flags_at flags (settings_in sets) at k
unfolding flags_at settings_in
same_flags flags [] at k = one_more flags at
same_flags flags (s ∷ ss) at k =
    both_at (s.word == at) (s.version == k) s.flags (switches.flags_at (opening_words flags) ss at k) ∙ ap (λ z. cond ((s.word == at) && (s.version == k)) s.flags z) (same_flags flags ss at k)

pub same_versions : (sets : List Written) (at : ℕ) → version sets at ≡ word_version (settings_in sets) at
unfolding word_version settings_in
same_versions [] at = refl
same_versions (s ∷ ss) at = ap (λ n. cond (s.word == at) (n + 1) n) (same_versions ss at)

pub words_chain : (sets : List Written) → IsChain sets → AreWordsCounted (settings_in sets)
unfolding settings_in
words_chain [] c = tt
words_chain (s ∷ ss) c = (c.0 ∙ ap (λ n. n + 1) (same_versions ss s.word), words_chain ss c.1)

module _ (flags : List ℕ) (sets : List Written) where
  abbrev pub IsSo : Loaded → Type 0
  IsSo x = IsLoad (opening_words flags) sets (version sets) x

  abbrev pub HasMet : Met → Type 0
  HasMet m = IsMeet (opening_words flags) sets (version sets) m

  flags_is : (start : Opening) (at k found : ℕ) (x : Loaded) → ties.IsLoad start at k found x → IsSo x → found ≡ flags_at flags (settings_in sets) at k
  flags_is start at k found x l e =
      sym l.flags_is ∙ e.flags_are ∙ ap (λ z. switches.flags_at (opening_words flags) sets z x.version) l.word_is ∙ ap (λ z. switches.flags_at (opening_words flags) sets at z) l.version_is ∙ same_flags flags sets at k

  low_is : (start : Opening) (at k found : ℕ) (x : Loaded) → ties.IsLoad start at k found x → IsSo x → k ≤ word_version (settings_in sets) at
  low_is start at k found x l e = omega (arith, l.version_is, e.below, ap (version sets) l.word_is, same_versions sets at)

  met_is : (versions : List ℕ) (m : Met) → m.versions ≡ versions → HasMet m → (at : ℕ) → at < 160 → slice_index versions at ≤ word_version (settings_in sets) at
  met_is versions m e f at low = omega (arith, ap (λ z. slice_index z at) e, f.below at, same_versions sets at)

  pub flagged : (start : Opening) (calls : List Call) (loads : List Loaded) (meets : List Met) → AreLoaded start calls loads → AreMet start.switches calls meets → Each IsSo loads → Each HasMet meets → AllFlagged flags (settings_in sets) calls
  flagged start [] loads meets l m e f = tt
  flagged start (Loads at k found ∷ calls) [] meets l m e f = absurd l
  flagged start (Loads at k found ∷ calls) (x ∷ loads) meets l m e f = ((flags_is start at k found x l.0 e.0, low_is start at k found x l.0 e.0), flagged start calls loads meets l.1 m e.1 f)
  flagged start (Sets at to k ∷ calls) [] meets l m e f = absurd l
  flagged start (Sets at to k ∷ calls) (x ∷ loads) [] l m e f = absurd m
  flagged start (Sets at to k ∷ calls) (x ∷ loads) (b ∷ []) l m e f = absurd m
  flagged start (Sets at to k ∷ calls) (x ∷ loads) (b ∷ a ∷ meets) l m e f = (sym (flags_is start at k to x l.0 e.0), flagged start calls loads meets l.1 m.4 e.1 f.1.1)
  flagged start (Meets versions ∷ calls) loads [] l m e f = absurd m
  flagged start (Meets versions ∷ calls) loads (x ∷ meets) l m e f = (met_is versions x m.1 f.0, flagged start calls loads meets l m.2 e f.1)
  flagged start (Adds row amount answer ∷ calls) loads meets l m e f = (tt, flagged start calls loads meets l m e f)
  flagged start (Rings row put answer ∷ calls) loads meets l m e f = (tt, flagged start calls loads meets l m e f)
  flagged start (Reads row seen ∷ calls) loads meets l m e f = (tt, flagged start calls loads meets l m e f)
  flagged start (Draws kind ticket ∷ calls) loads meets l m e f = (tt, flagged start calls loads meets l m e f)
  flagged start (Takes row k found ∷ calls) loads meets l m e f = (tt, flagged start calls loads meets l m e f)
  flagged start (Puts row put k ∷ calls) loads meets l m e f = (tt, flagged start calls loads meets l m e f)
  flagged start (Frees row k ∷ calls) loads meets l m e f = (tt, flagged start calls loads meets l m e f)
  flagged start (Enters label labels ∷ calls) loads meets l m e f = (tt, flagged start calls loads meets l m e f)
  flagged start (Leaves ∷ calls) loads meets l m e f = (tt, flagged start calls loads meets l m e f)
