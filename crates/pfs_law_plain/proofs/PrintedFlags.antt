-- The flags that the printed sets of words give are those of the store's sets.
use Rattle.std.proofs.Common.{ℕ, inl, inr, ◌≡◌, ◌<◌, ◌+◌, ◌==◌, ◌&&◌, Bool, true, false, cond, List, [], ◌∷◌, ◌++◌, Option, refl, ap, sym, ◌∙◌, subst, arith, eq-eqb, ne_eqb, slice_index_or}
use Rattle.std.proofs.lemmas.Bool.{cases_eq, eqb-true as same}
use Rattle.pfs_lemmas.proofs.Bools.{and_false, and_first, and_second}
use Rattle.pfs_event.specs.declared.entry.Entry.{Entry}
use Rattle.pfs_event.specs.declared.entry.Entry.TheVariants as says
use Rattle.pfs_levels.specs.Calls.{Call, Adds, Rings, Reads, Loads, Draws, Takes, Puts, Frees, Sets, Enters, Leaves, Meets}
use Rattle.pfs_levels.specs.JointCalls.{Setting, sets_of, word_version, flags_at, AreWordsCounted}
use Rattle.pfs_levels.specs.declared.answers.Added.TheVariants.{Counted, Held}
use Rattle.pfs_levels.specs.declared.answers.RingPut.TheVariants.{Done, Busy, Late}
use Rattle.pfs_model.specs.Actions.{setting_at, settings_of}
use Rattle.pfs_model.specs.Actions.{Setting as PrintedSetting}
use Rattle.pfs_model.specs.declared.changes.Change.{Change}
use Rattle.pfs_model.specs.declared.lines.Subject.{Subject}
use Rattle.pfs_model.specs.Contexts.{Context, subject_of}
use Rattle.pfs_model.specs.EntryPlaces.{Placed}
use Rattle.pfs_model.specs.SetupFlags.{loads_at}
use Rattle.pfs_model.specs.SetupFlags.{flags_at as printed_at}
use Rattle.pfs_rows.specs.declared.table.Seen.TheVariants as seen
use Rattle.pfs_law_plain.specs.Notes.{Note, Wrote, Freed, Found, Vacant, Refused, Overdue, Switched, Saw, Acted, saw_all, notes_at, notes_of, told, all_told}
use Rattle.pfs_law_plain.specs.PlainJournals.{printed}

-- what the first set of a word to a version gives it, or else this
abbrev first_or : ℕ → List Note → ℕ → ℕ → ℕ
first_or d [] word version = d
first_or d (Switched at k flags ∷ notes) word version = cond ((at == word) && (k == version)) flags (first_or d notes word version)
first_or d (Wrote at k ∷ notes) word version = first_or d notes word version
first_or d (Freed at k ∷ notes) word version = first_or d notes word version
first_or d (Found at k ∷ notes) word version = first_or d notes word version
first_or d (Vacant at ∷ notes) word version = first_or d notes word version
first_or d (Refused at first second ∷ notes) word version = first_or d notes word version
first_or d (Overdue at ticket ∷ notes) word version = first_or d notes word version
first_or d (Saw at k ∷ notes) word version = first_or d notes word version
first_or d (Acted number ∷ notes) word version = first_or d notes word version

first_then : (d : ℕ) (xs ys : List Note) (word version : ℕ) → first_or d (xs ++ ys) word version ≡ first_or (first_or d ys word version) xs word version
first_then d [] ys word version = refl
first_then d (Switched at k flags ∷ xs) ys word version = ap (λ z. cond ((at == word) && (k == version)) flags z) (first_then d xs ys word version)
first_then d (Wrote at k ∷ xs) ys word version = first_then d xs ys word version
first_then d (Freed at k ∷ xs) ys word version = first_then d xs ys word version
first_then d (Found at k ∷ xs) ys word version = first_then d xs ys word version
first_then d (Vacant at ∷ xs) ys word version = first_then d xs ys word version
first_then d (Refused at first second ∷ xs) ys word version = first_then d xs ys word version
first_then d (Overdue at ticket ∷ xs) ys word version = first_then d xs ys word version
first_then d (Saw at k ∷ xs) ys word version = first_then d xs ys word version
first_then d (Acted number ∷ xs) ys word version = first_then d xs ys word version

saw_first : (d : ℕ) (loads : List Change) (ns : List Note) (word version : ℕ) → first_or d (saw_all loads ++ ns) word version ≡ first_or d ns word version
saw_first d [] ns word version = refl
saw_first d (l ∷ ls) ns word version = saw_first d ls ns word version

one_printed : (opening : ℕ → ℕ) (action : ℕ) (subject : Option Subject) (context : Context) (e : Entry) (ss : List PrintedSetting) (ns : List Note) (word version : ℕ)
    → printed_at opening ss word version ≡ first_or (opening word) ns word version
    → printed_at opening (setting_at action e ++ ss) word version ≡ first_or (opening word) (notes_at subject context e ++ ns) word version
one_printed opening action subject context (says.Set at k flags) ss ns word version e = ap (λ z. cond ((at == word) && (k == version)) flags z) e
one_printed opening action subject context (says.Start event verdict consumers thread class table) ss ns word version e =
    e ∙ sym (saw_first (opening word) (loads_at subject context (says.Start event verdict consumers thread class table)) ns word version)
one_printed opening action subject context (says.End event last consumers thread) ss ns word version e =
    e ∙ sym (saw_first (opening word) (loads_at subject context (says.End event last consumers thread)) ns word version)
one_printed opening action subject context _ ss ns word version e = e

places_printed : (opening : ℕ → ℕ) (ps : List Placed) (word version : ℕ) → printed_at opening (settings_of ps) word version ≡ first_or (opening word) (notes_of ps) word version
places_printed opening [] word version = refl
places_printed opening (p ∷ ps) word version =
    one_printed opening p.context.action (subject_of p.line) p.context p.entry (settings_of ps) (notes_of ps) word version (places_printed opening ps word version)

-- the same of sets that stand newest first
abbrev first_set : ℕ → List Setting → ℕ → ℕ → ℕ
first_set d [] word version = d
first_set d (s ∷ ss) word version = first_set (cond ((s.word == word) && (s.version == version)) s.flags d) ss word version

sets_first : (calls : List Call) (d word version : ℕ) → first_or d (all_told calls) word version ≡ first_set d (sets_of calls) word version
unfolding all_told sets_of
sets_first [] d word version = refl
sets_first (Adds at amount (Counted r v) ∷ calls) d word version = first_then d (all_told calls) (told (Adds at amount (Counted r v))) word version ∙ sets_first calls d word version
sets_first (Adds at amount (Held r v w) ∷ calls) d word version = first_then d (all_told calls) (told (Adds at amount (Held r v w))) word version ∙ sets_first calls d word version
sets_first (Rings at content (Done v) ∷ calls) d word version = first_then d (all_told calls) (told (Rings at content (Done v))) word version ∙ sets_first calls d word version
sets_first (Rings at content (Busy v w) ∷ calls) d word version = first_then d (all_told calls) (told (Rings at content (Busy v w))) word version ∙ sets_first calls d word version
sets_first (Rings at content (Late t v) ∷ calls) d word version = first_then d (all_told calls) (told (Rings at content (Late t v))) word version ∙ sets_first calls d word version
sets_first (Reads at (seen.Whole v found) ∷ calls) d word version =
    first_then d (all_told calls) (told (Reads at (seen.Whole v found))) word version ∙ sets_first calls d word version
sets_first (Reads at (seen.Free w) ∷ calls) d word version = first_then d (all_told calls) (told (Reads at (seen.Free w))) word version ∙ sets_first calls d word version
sets_first (Reads at (seen.Busy v w) ∷ calls) d word version = first_then d (all_told calls) (told (Reads at (seen.Busy v w))) word version ∙ sets_first calls d word version
sets_first (Loads at v found ∷ calls) d word version = first_then d (all_told calls) (told (Loads at v found)) word version ∙ sets_first calls d word version
sets_first (Draws kind ticket ∷ calls) d word version = first_then d (all_told calls) [] word version ∙ sets_first calls d word version
sets_first (Meets versions ∷ calls) d word version = first_then d (all_told calls) [] word version ∙ sets_first calls d word version
sets_first (Takes at v found ∷ calls) d word version = first_then d (all_told calls) [] word version ∙ sets_first calls d word version
sets_first (Puts at content v ∷ calls) d word version = first_then d (all_told calls) (told (Puts at content v)) word version ∙ sets_first calls d word version
sets_first (Frees at v ∷ calls) d word version = first_then d (all_told calls) (told (Frees at v)) word version ∙ sets_first calls d word version
sets_first (Sets at to v ∷ calls) d word version =
    first_then d (all_told calls) (told (Sets at to v)) word version ∙ sets_first calls (cond ((at == word) && (v == version)) to d) word version
sets_first (Enters label labels ∷ calls) d word version = first_then d (all_told calls) (told (Enters label labels)) word version ∙ sets_first calls d word version
sets_first (Leaves ∷ calls) d word version = first_then d (all_told calls) [] word version ∙ sets_first calls d word version

-- no set goes above the last version
none_first : (ss : List Setting) (x word version : ℕ) → AreWordsCounted ss → word_version ss word < version → first_set x ss word version ≡ x
unfolding word_version
none_first [] x word version c low = refl
none_first (s ∷ ss) x word version c low = elim (cases_eq s.word word) [
  | inl e ↦ let up : word_version ss word + 1 < version = subst (λ z. cond z (word_version ss word + 1) (word_version ss word) < version) (eq-eqb s.word word e) low in
      let v : s.version ≡ word_version ss word + 1 = c.0 ∙ ap (λ z. word_version ss z + 1) e in
      let no : (s.version == version) ≡ false = ne_eqb s.version version (λ z. absurd (omega (arith, up, v, z))) in
      ap (λ z. first_set (cond ((s.word == word) && z) s.flags x) ss word version) no ∙ (ap (λ z. first_set (cond z s.flags x) ss word version) (and_false (s.word == word))
      ∙ none_first ss x word version c.1 (omega (arith, up)))
  | inr e ↦ let same : word_version ss word < version = subst (λ z. cond z (word_version ss word + 1) (word_version ss word) < version) (ne_eqb s.word word e) low in
      ap (λ z. first_set (cond (z && (s.version == version)) s.flags x) ss word version) (ne_eqb s.word word e) ∙ none_first ss x word version c.1 same
]

counted_first : (flags : List ℕ) (ss : List Setting) (word version : ℕ) → AreWordsCounted ss → first_set (slice_index_or flags word 0) ss word version ≡ flags_at flags ss word version
unfolding flags_at
counted_first flags [] word version c = refl
counted_first flags (s ∷ ss) word version c = by_test (counted_first flags ss word version c.1) ((s.word == word) && (s.version == version)) refl where
  by_test : first_set (slice_index_or flags word 0) ss word version ≡ flags_at flags ss word version → (b : Bool) → ((s.word == word) && (s.version == version)) ≡ b
      → first_set (cond b s.flags (slice_index_or flags word 0)) ss word version ≡ cond b s.flags (flags_at flags ss word version)
  by_test rest true e =
      let at : s.word ≡ word = same s.word word (and_first (s.word == word) (s.version == version) e) in
      let v : s.version ≡ version = same s.version version (and_second (s.word == word) (s.version == version) e) in
      let n : s.version ≡ word_version ss word + 1 = c.0 ∙ ap (λ z. word_version ss z + 1) at in
      none_first ss s.flags word version c.1 (omega (arith, n, v))
  by_test rest false e = rest

-- lines that tell what calls tell print the sets of those calls
pub printed_same : (flags : List ℕ) (ps : List Placed) (calls : List Call) (word version : ℕ) → AreWordsCounted (sets_of calls) → notes_of ps ≡ all_told calls
    → flags_at flags (sets_of calls) word version ≡ printed flags ps word version
printed_same flags ps calls word version c e =
    sym (places_printed (λ at. slice_index_or flags at 0) ps word version ∙ (ap (λ z. first_or (slice_index_or flags word 0) z word version) e
    ∙ (sets_first calls (slice_index_or flags word 0) word version ∙ counted_first flags (sets_of calls) word version c)))
