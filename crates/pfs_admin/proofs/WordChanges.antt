-- Words that are changed one after another.
use Rattle.std.proofs.Common.{ℕ, zero, suc, ◌≡◌, ◌<◌, ◌≤◌, ◌+◌, ◌^◌, ◌==◌, Bool, true, false, if◌then◌else◌, List, [], ◌∷◌, ◌++◌, Some, Ok, length, slice_set, refl, ap, sym, subst, ◌∙◌, arith}
use Rattle.std.proofs.lemmas.List.{append_assoc, append-nil}
use Rattle.pfs_event.specs.declared.entry.Entry.{Entry}
use Rattle.pfs_event.specs.declared.entry.Entry.TheVariants as says
use Rattle.pfs_levels.specs.declared.answers.Word.{Word}
use Rattle.pfs_levels.specs.Calls.{Call, Sets, Opening}
use Rattle.pfs_event.specs.Logs.{Journal}
use Rattle.pfs_levels.specs.Moves.{Did}
use Rattle.pfs_levels.specs.Views.{Store, Used, lent_as}
use Rattle.pfs_levels.proofs.MoveLists.{did_as, did_then}
use Rattle.pfs_containers.specs.ContainerState.{Kept}
use Rattle.pfs_matching.specs.declared.actor_rows.ActorRow.{ActorRow}
use Rattle.pfs_matching.specs.declared.object_rows.ObjectRow.{ObjectRow}
use Rattle.pfs_admin.specs.AdministrationStates.{State, AreEarly, IsState}
use Rattle.pfs_rows.specs.declared.truncations.Truncation.{Truncation}
use Rattle.pfs_rows.specs.declared.truncations.Truncation.TheVariants.{Events, Summary, DigestSummary, Accounts, Users, Hosts, SetupActors, SetupObjects}
use Rattle.pfs_admin.specs.WordChanges.{up_to, change_at, changed_up_to, flags_changed, words_changed}
use Rattle.pfs_admin.specs.Truncations.{words_behind, off}
use Rattle.pfs_admin.specs.Works.{Flagging, flagging, flagged, flagging_calls, flagging_entries, word_at, set_word}
use Rattle.pfs_rows.specs.declared.table.Table.{Table}
use Rattle.pfs_setups.specs.Deletes.{flags_by_rows}
use Rattle.pfs_setups.specs.Inserts.{flags_by_answer}
use Rattle.pfs_setups.specs.SetupRows.{Naming}
use Rattle.pfs_admin.proofs.QuitCosts.{len_if, early_at, early_set, early_wider}
use Rattle.pfs_admin.proofs.LevelMoves.{up_next}

pub used_nothing : (count entries : ℕ) (words : List Word) (s : Store) (log : Journal) → s.words ≡ Some words → Used count 0 entries (lent_as words s) s log log
used_nothing count entries words s log lent = record {
  left = omega arith;
  draws = omega arith;
  no_more = omega arith;
  hand = λ r. refl;
  words = lent;
  name = refl;
  room = omega arith;
}

calls_then : (words : List Word) (xs ys : List Flagging) → flagging_calls words (xs ++ ys) ≡ flagging_calls words ys ++ flagging_calls words xs
calls_then words [] ys = sym (append-nil (flagging_calls words ys))
calls_then words (x ∷ xs) ys =
    ap (λ z. z ++ Sets x.word x.flags ((word_at words x.word).version + 1) ∷ []) (calls_then words xs ys)
    ∙ append_assoc (flagging_calls words ys) (flagging_calls words xs) (Sets x.word x.flags ((word_at words x.word).version + 1) ∷ [])

entries_then : (words : List Word) (xs ys : List Flagging) → flagging_entries words (xs ++ ys) ≡ flagging_entries words xs ++ flagging_entries words ys
entries_then words [] ys = refl
entries_then words (x ∷ xs) ys = ap (λ z. says.Set x.word ((word_at words x.word).version + 1) x.flags ∷ z) (entries_then words xs ys)

-- what one word asks for depends on that word alone
calls_if : (b : Bool) (words : List Word) (at flags : ℕ)
    → flagging_calls words (if b then [] else record { word = at; flags = flags } ∷ []) ≡ (if b then [] else Sets at flags ((word_at words at).version + 1) ∷ [])
calls_if true words at flags = refl
calls_if false words at flags = refl

entries_if : (b : Bool) (words : List Word) (at flags : ℕ)
    → flagging_entries words (if b then [] else record { word = at; flags = flags } ∷ []) ≡ (if b then [] else says.Set at ((word_at words at).version + 1) flags ∷ [])
entries_if true words at flags = refl
entries_if false words at flags = refl

abbrev calls_of : Word → ℕ → ℕ → List Call
calls_of word at flags = if word.flags == flags then [] else Sets at flags (word.version + 1) ∷ []

abbrev entries_of : Word → ℕ → ℕ → List Entry
entries_of word at flags = if word.flags == flags then [] else says.Set at (word.version + 1) flags ∷ []

calls_same : (words others : List Word) (at flags : ℕ) → word_at words at ≡ word_at others at → flagging_calls words (flagging words at flags) ≡ flagging_calls others (flagging others at flags)
calls_same words others at flags e =
    calls_if ((word_at words at).flags == flags) words at flags
    ∙ (ap (λ (w : Word). calls_of w at flags) e ∙ sym (calls_if ((word_at others at).flags == flags) others at flags))

entries_same : (words others : List Word) (at flags : ℕ) → word_at words at ≡ word_at others at → flagging_entries words (flagging words at flags) ≡ flagging_entries others (flagging others at flags)
entries_same words others at flags e =
    entries_if ((word_at words at).flags == flags) words at flags
    ∙ (ap (λ (w : Word). entries_of w at flags) e ∙ sym (entries_if ((word_at others at).flags == flags) others at flags))

-- a word that is set leaves those behind it
set_past : (words : List Word) (at other : ℕ) (word : Word) → at < other → word_at (slice_set words at word) other ≡ word_at words other
set_past [] at other word l = refl
set_past (w ∷ ws) zero zero word l = absurd (omega (arith, l))
set_past (w ∷ ws) zero (suc other) word l = refl
set_past (w ∷ ws) (suc at) zero word l = absurd (omega (arith, l))
set_past (w ∷ ws) (suc at) (suc other) word l = set_past ws at other word (omega (arith, l))

past_if : (b : Bool) (words : List Word) (at other flags : ℕ) → at < other
    → word_at (if b then words else slice_set words at (set_word (word_at words at) flags)) other ≡ word_at words other
past_if true words at other flags l = refl
past_if false words at other flags l = set_past words at other (set_word (word_at words at) flags) l

pub changed_past : (change : ℕ → ℕ → ℕ) (words : List Word) (first n other : ℕ) → first + n ≤ other → word_at (changed_up_to change words first n) other ≡ word_at words other
changed_past change words first zero other l = refl
changed_past change words first (suc n) other l =
    let flags = change (first + n) (word_at words (first + n)).flags in
    past_if ((word_at (changed_up_to change words first n) (first + n)).flags == flags) (changed_up_to change words first n) (first + n) other flags (omega (arith, l))
    ∙ changed_past change words first n other (omega (arith, l))

pub changed_wide : (change : ℕ → ℕ → ℕ) (words : List Word) (first n : ℕ) → length (changed_up_to change words first n) ≡ length words
changed_wide change words first zero = refl
changed_wide change words first (suc n) =
    let flags = change (first + n) (word_at words (first + n)).flags in
    len_if ((word_at (changed_up_to change words first n) (first + n)).flags == flags) (first + n) flags (changed_up_to change words first n) ∙ changed_wide change words first n

pub changed_next : (change : ℕ → ℕ → ℕ) (words : List Word) (first n : ℕ) → changed_up_to change words first (n + 1) ≡ flagged (changed_up_to change words first n) (first + n) (change (first + n) (word_at words (first + n)).flags)
changed_next change words first n = let next : n + 1 ≡ suc n = omega arith in ap (changed_up_to change words first) next

pub words_whole : (change : ℕ → ℕ → ℕ) (words : List Word) (first n count : ℕ) → n ≡ count → changed_up_to change words first n ≡ words_changed change words first count
unfolding words_changed
words_whole change words first n count e = ap (changed_up_to change words first) e

pub flags_whole : (change : ℕ → ℕ → ℕ) (words : List Word) (first n count : ℕ) → n ≡ count → up_to (change_at change words first) n ≡ flags_changed change words first count
unfolding flags_changed
flags_whole change words first n count e = ap (up_to (change_at change words first)) e

pub changed_more : (change : ℕ → ℕ → ℕ) (words : List Word) (first n flags : ℕ) (old at new : Journal) (was mid now : Opening → List Call → Type 0)
    → flags ≡ change (first + n) (word_at words (first + n)).flags
    → Did (flagging_calls words (up_to (change_at change words first) n)) (flagging_entries words (up_to (change_at change words first) n)) old at was mid
    → Did (flagging_calls (changed_up_to change words first n) (flagging (changed_up_to change words first n) (first + n) flags))
    (flagging_entries (changed_up_to change words first n) (flagging (changed_up_to change words first n) (first + n) flags)) at new mid now
    → Did (flagging_calls words (up_to (change_at change words first) (n + 1))) (flagging_entries words (up_to (change_at change words first) (n + 1))) old new was now
changed_more change words first n flags old at new was mid now e p q =
    let so : ℕ = change (first + n) (word_at words (first + n)).flags in
    let before : List Word = changed_up_to change words first n in
    let same : word_at before (first + n) ≡ word_at words (first + n) = changed_past change words first n (first + n) (omega arith) in
    did_as _ _ _ _ old new was now
    (ap (λ z. flagging_calls before (flagging before (first + n) z) ++ flagging_calls words (up_to (change_at change words first) n)) e
    ∙ (ap (λ z. z ++ flagging_calls words (up_to (change_at change words first) n)) (calls_same before words (first + n) so same)
    ∙ (sym (calls_then words (up_to (change_at change words first) n) (change_at change words first n)) ∙ ap (flagging_calls words) (sym (up_next (change_at change words first) n)))))
    (ap (λ z. flagging_entries words (up_to (change_at change words first) n) ++ flagging_entries before (flagging before (first + n) z)) e
    ∙ (ap (λ z. flagging_entries words (up_to (change_at change words first) n) ++ z) (entries_same before words (first + n) so same)
    ∙ (sym (entries_then words (up_to (change_at change words first) n) (change_at change words first n)) ∙ ap (flagging_entries words) (sym (up_next (change_at change words first) n)))))
    (did_then _ _ _ _ old at new was mid now p q)

pub early_same : (words others : List Word) (at : ℕ) → word_at words at ≡ word_at others at → (word_at others at).version + 1 < 2 ^ 48 → (word_at words at).version + 1 < 2 ^ 48
early_same words others at e h = subst (λ (w : Word). w.version + 1 < 2 ^ 48) (sym e) h

-- each word is set once at most
early_one : (b : Bool) (most at flags : ℕ) (words : List Word) → (word_at words at).version ≤ most → AreEarly (most + 1) words
    → AreEarly (most + 1) (if b then words else slice_set words at (set_word (word_at words at) flags))
early_one true most at flags words le are = are
early_one false most at flags words le are = early_set (most + 1) at (set_word (word_at words at) flags) words (omega (arith, le)) are

changed_early_to : (change : ℕ → ℕ → ℕ) (most first n : ℕ) (words : List Word) → AreEarly most words → AreEarly (most + 1) (changed_up_to change words first n)
changed_early_to change most first zero words are = early_wider most words are
changed_early_to change most first (suc n) words are =
    let flags = change (first + n) (word_at words (first + n)).flags in
    let same : (word_at (changed_up_to change words first n) (first + n)).version ≡ (word_at words (first + n)).version =
    ap (λ (w : Word). w.version) (changed_past change words first n (first + n) (omega arith)) in
    early_one ((word_at (changed_up_to change words first n) (first + n)).flags == flags) most (first + n) flags (changed_up_to change words first n)
    (omega (arith, same, early_at most (first + n) words are)) (changed_early_to change most first n words are)

pub changed_early : (change : ℕ → ℕ → ℕ) (most first count : ℕ) (words : List Word) → AreEarly most words → AreEarly (most + 1) (words_changed change words first count)
unfolding words_changed
changed_early change most first count words are = changed_early_to change most first count words are

pub changed_length : (change : ℕ → ℕ → ℕ) (words : List Word) (first count : ℕ) → length (words_changed change words first count) ≡ length words
unfolding words_changed
changed_length change words first count = changed_wide change words first count

pub early_behind : (what : Truncation) (most : ℕ) (words : List Word) → AreEarly most words → AreEarly (most + 1) (words_behind what words)
early_behind (Events kind table) most words are = early_wider most words are
early_behind (Summary kind table) most words are = early_wider most words are
early_behind DigestSummary most words are = early_wider most words are
early_behind Accounts most words are = early_wider most words are
early_behind Users most words are = early_wider most words are
early_behind Hosts most words are = early_wider most words are
early_behind SetupActors most words are = early_wider most words are
early_behind SetupObjects most words are = changed_early off most 96 64 words are

pub wide_behind : (what : Truncation) (words : List Word) → length (words_behind what words) ≡ length words
wide_behind (Events kind table) words = refl
wide_behind (Summary kind table) words = refl
wide_behind DigestSummary words = refl
wide_behind Accounts words = refl
wide_behind Users words = refl
wide_behind Hosts words = refl
wide_behind SetupActors words = refl
wide_behind SetupObjects words = changed_length off words 96 64

-- a truncation keeps what always holds
pub truncated_keeps : (s : State) (what : Truncation) (kept : Kept) (words : List Word) (actors : List ActorRow) (objects : List ObjectRow) → IsState s → kept.connects ≡ s.kept.connects
    → words ≡ words_behind what s.words → IsState (record s { kept = kept; words = words; actors = actors; objects = objects; actions = s.actions + 1 })
truncated_keeps s what kept words actors objects is same e = record {
  words_wide = ap length e ∙ (wide_behind what s.words ∙ is.words_wide);
  words_early = subst (AreEarly (s.actions + 1)) (sym e) (early_behind what s.actions s.words is.words_early);
  connects_few = omega (arith, same, is.connects_few);
  cells_small = is.cells_small;
  cells_few = is.cells_few;
  kinds_are = is.kinds_are;
}

-- behind an INSERT that adds a row the words are those behind a DELETE of rows
pub answered_rows : (n : Naming) (objects : List ObjectRow) (table : Table) (count : ℕ) → flags_by_answer n objects table (Ok count) ≡ flags_by_rows n objects table
unfolding flags_by_answer
answered_rows n objects table count = refl
