-- What the actors of a phase have in common with those of the phases before, and one call among theirs.
use Rattle.std.specs.Prelude.{ℕ, ◌≡◌, ◌⊎◌, ◌/◌, ◌<◌, ◌≤◌, List, [], ◌∷◌, ◌++◌, slice_index}
use Rattle.pfs_board.specs.declared.view.Label.{Label}
use Rattle.pfs_rows.specs.declared.table.Seen.TheVariants.{Whole, Free}
use Rattle.pfs_rows.specs.declared.table.Seen.TheVariants as sees
use Rattle.pfs_levels.specs.declared.answers.Added.TheVariants.{Counted, Held}
use Rattle.pfs_levels.specs.declared.answers.RingPut.TheVariants.{Done, Busy, Late}
use Rattle.pfs_levels.specs.Calls.{Call, Adds, Rings, Reads, Loads, Draws, Takes, Puts, Frees, Sets, Enters, Leaves, Meets, action_in, after_in}
use Rattle.pfs_levels.specs.JointCalls.{total, At, count, changes_of, Setting, sets_of, word_version, Draw, Joint, all_calls}
use Rattle.pfs_levels.specs.CallOrder.{Mark, Order, AllCalls, AreMarked, AreRising, all_marks, all_word_marks, marked, reaching, top_in, top_word}
use Rattle.pfs_levels.specs.PhaseFloors.{AllSince}
use Rattle.pfs_levels.specs.PlainCalls.{AllOutside}
use Rattle.pfs_levels.specs.PlainStore.{AllAnswer}

-- the actors of a phase, at its end, with all those before them: one order of all that they changed, which nothing that
-- they named is below
pub record IsShared (flags : List ℕ) (before now : List (List Call)) : Type 0 where
  pub content : ℕ → ℕ → List ℕ
  pub log : List At
  pub sets : List Setting
  pub draws : List Draw
  pub marks : List Mark
  pub words : List Mark
  pub labels : List Label
  pub joint : Joint flags (now ++ before) content log sets draws
  pub order : Order (now ++ before) marks words labels
  pub since : AllSince before now

-- a plain store that its actors use one after another gives it
abbrev pub PlainLaw : Type 0
PlainLaw = (flags : List ℕ) (before now : List (List Call)) → AllAnswer flags (all_calls (now ++ before))
    → AllOutside (now ++ before) → IsShared flags before now

-- what the actors of ended phases changed has an order of its own, as it had at the end of the last of them
pub record HaveEnded (actors : List (List Call)) : Type 0 where
  pub marks : List Mark
  pub words : List Mark
  pub chain : AreMarked marks
  pub word_chain : AreMarked words
  pub once : (h : Mark → ℕ) → total h (all_marks actors) ≡ total h marks
  pub words_once : (h : Mark → ℕ) → total h (all_word_marks actors) ≡ total h words

-- an action begins outside any other
abbrev pub BeginsOutside : List Call → Call → Type 0
BeginsOutside calls (Enters label labels) = action_in calls ≡ 0
BeginsOutside calls _ = Unit {0}

abbrev pub BeginOutside : List Call → Type 0
BeginOutside [] = Unit {0}
BeginOutside (call ∷ calls) = BeginsOutside calls call × BeginOutside calls

-- an actor's actions are whole: each begins outside any other, and has ended at the actor's end
pub record AreWhole (calls : List Call) : Type 0 where
  pub outside : BeginOutside calls
  pub ended : action_in calls ≡ 0

-- a call of one of the actors of a phase: the actors in front of its own and behind it, and its own calls, those behind
-- the call and those before it. Lists of calls have the newest first
pub record Moment : Type 0 where
  pub front : List (List Call)
  pub later : List Call
  pub call : Call
  pub earlier : List Call
  pub behind : List (List Call)

abbrev pub own_of : Moment → List Call
own_of m = m.later ++ m.call ∷ m.earlier

abbrev pub phase_of : Moment → List (List Call)
phase_of m = m.front ++ own_of m ∷ m.behind

abbrev pub others_of : Moment → List (List Call)
others_of m = m.front ++ m.behind

-- the actions up to this number had ended, as whoever made the calls knew: by these, or since the phases before had
abbrev pub WereDone : List (List Call) → List Call → ℕ → Type 0
WereDone before calls done = (done ≤ after_in calls) ⊎ (done ≤ marked (all_marks before) 0)

-- a call names a row at a version, of what was held back by either word; row 0 isn't among these
abbrev pub Names : Call → ℕ → ℕ → Type 0
Names (Adds at amount (Counted r k)) row version = (r ≡ row) × (k ≡ version)
Names (Adds at amount (Held r first second)) row version =
    (r ≡ row) × ((first / 4 ≡ version) ⊎ (second / 4 ≡ version))
Names (Rings at content (Done k)) row version = (at ≡ row) × (k ≡ version)
Names (Rings at content (Busy first second)) row version =
    (at ≡ row) × ((first / 4 ≡ version) ⊎ (second / 4 ≡ version))
Names (Rings at content (Late ticket k)) row version = (at ≡ row) × (k ≡ version)
Names (Reads at (Whole k found)) row version = (at ≡ row) × (k ≡ version)
Names (Reads at (Free w)) row version = (at ≡ row) × (w / 4 ≡ version)
Names (Reads at (sees.Busy first second)) row version =
    (at ≡ row) × ((first / 4 ≡ version) ⊎ (second / 4 ≡ version))
Names (Loads at k flags) row version = ⊥
Names (Draws kind ticket) row version = ⊥
Names (Meets versions) row version = ⊥
Names (Takes at k found) row version = (at ≡ row) × (k ≡ version)
Names (Puts at content k) row version = (at ≡ row) × (k ≡ version)
Names (Frees at k) row version = (at ≡ row) × (k ≡ version)
Names (Sets at flags k) row version = ⊥
Names (Enters label labels) row version = ⊥
Names Leaves row version = ⊥

-- and a word
abbrev pub NamesWord : Call → ℕ → ℕ → Type 0
NamesWord (Loads at k flags) word version = (at ≡ word) × (k ≡ version)
NamesWord (Sets at flags k) word version = (at ≡ word) × (k ≡ version)
NamesWord (Meets versions) word version = slice_index versions word ≡ version
NamesWord _ word version = ⊥

-- what a call named is not above what is said of the calls behind it
abbrev pub NamedLaw : Type 0
NamedLaw = (later earlier : List Call) (call : Call) (row version : ℕ) → AreRising (later ++ call ∷ earlier)
    → Names call row version → version ≤ top_in (later ++ call ∷ earlier) row

abbrev pub WordNamedLaw : Type 0
WordNamedLaw = (later earlier : List Call) (call : Call) (word version : ℕ) → word < 160
    → AreRising (later ++ call ∷ earlier) → NamesWord call word version
    → version ≤ top_word (later ++ call ∷ earlier) word

-- a version that a call names is one that its row, or word, had by the phase's end
abbrev pub HadLaw : Type 0
HadLaw = (flags : List ℕ) (before : List (List Call)) (m : Moment) (row version : ℕ)
    → IsShared flags before (phase_of m) → 0 < row → Names m.call row version
    → version ≤ count (changes_of (all_calls (phase_of m ++ before))) row

abbrev pub WordHadLaw : Type 0
WordHadLaw = (flags : List ℕ) (before : List (List Call)) (m : Moment) (word version : ℕ)
    → IsShared flags before (phase_of m) → word < 160 → NamesWord m.call word version
    → version ≤ word_version (sets_of (all_calls (phase_of m ++ before))) word

-- the actions of a phase have greater numbers than those of the phases before: none of its changes and sets is by an
-- action up to the last of theirs
pub record AreLater (before now : List (List Call)) : Type 0 where
  pub rows : (row : ℕ) → reaching (all_marks now) row 0 (marked (all_marks before) 0) ≡ 0
  pub words : (word : ℕ) → reaching (all_word_marks now) word 0 (marked (all_marks before) 0) ≡ 0

abbrev pub LaterLaw : Type 0
LaterLaw = (flags : List ℕ) (before now : List (List Call)) → IsShared flags before now → HaveEnded before
    → AllCalls AreWhole now → AreLater before now
