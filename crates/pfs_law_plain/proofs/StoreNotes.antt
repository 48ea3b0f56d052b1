-- What the calls of a plain store tell: each note goes by those before it.
use Rattle.std.proofs.Common.{ℕ, inl, inr, ◌≡◌, ◌<◌, ◌+◌, ◌==◌, false, true, Bool, cond, List, [], ◌∷◌, ◌++◌, length, refl, ap, sym, ◌∙◌, subst, arith, ne_eqb, length-append, ◌&&◌}
use Rattle.std.specs.Prelude.{not}
use Rattle.std.proofs.lemmas.Bool.{false≢true, eqb-true}
use Rattle.std.proofs.lemmas.Bool.Decides.{nat_tests}
use Rattle.pfs_levels.specs.declared.answers.Added.TheVariants.{Counted, Held}
use Rattle.pfs_levels.specs.declared.answers.RingPut.TheVariants.{Done, Busy, Late}
use Rattle.pfs_board.specs.declared.view.Label.{Label}
use Rattle.pfs_levels.specs.Calls.{Call, Adds, Rings, Reads, Loads, Draws, Takes, Puts, Frees, Sets, Enters, Leaves, Meets, IsRing, label_in}
use Rattle.pfs_levels.specs.JointCalls.{At, changes_of, count, IsCounted, Setting, sets_of, word_version, AreWordsCounted}
use Rattle.pfs_levels.specs.JointCalls.{opens_free as opens_free_there}
use Rattle.pfs_levels.specs.declared.plain.Slot.{Slot}
use Rattle.pfs_rows.specs.declared.table.Seen.TheVariants as seen
use Rattle.pfs_levels.specs.PlainStore.{AllAnswer, IsNext, Op, op, Merges, Becomes, Renews, Holds, Releases, ops_of, slot_after, slot_by, labels_after}
use Rattle.pfs_levels.proofs.PlainChanges.{plain_chain, plain_words}
use Rattle.pfs_levels.proofs.NextNames.{plain_next}
use Rattle.pfs_model.specs.declared.changes.Change.{Change}
use Rattle.pfs_model.specs.Chains.{change_at, opens_free}
use Rattle.pfs_model.specs.PlainAgreement.{last_of}
use Rattle.pfs_law_plain.specs.Notes.{Note, told, all_told}
use Rattle.pfs_law_plain.proofs.NextNotes.{writes, switches, acts, free_in, AreNextNotes, behind, behind_then, next_then}

-- what calls tell, newest first
abbrev pub newest : List Call → List Note
newest [] = []
newest (call ∷ calls) = behind (newest calls) (told call)

pub newest_is : (calls : List Call) → behind [] (all_told calls) ≡ newest calls
unfolding all_told
newest_is [] = refl
newest_is (call ∷ calls) = behind_then [] (all_told calls) (told call) ∙ ap (λ z. behind z (told call)) (newest_is calls)

abbrev put_of : At → List Change
put_of x = cond x.puts (change_at x.row x.version ∷ []) []

abbrev puts_of : List At → List Change
puts_of [] = []
puts_of (x ∷ xs) = put_of x ++ puts_of xs

writes_are : (calls : List Call) → writes (newest calls) ≡ puts_of (changes_of calls)
unfolding changes_of
writes_are [] = refl
writes_are (Adds at amount (Counted r v) ∷ calls) = ap (λ z. change_at r v ∷ z) (writes_are calls)
writes_are (Adds at amount (Held r v w) ∷ calls) = writes_are calls
writes_are (Rings at content (Done v) ∷ calls) = ap (λ z. change_at at v ∷ z) (writes_are calls)
writes_are (Rings at content (Busy v w) ∷ calls) = writes_are calls
writes_are (Rings at content (Late t v) ∷ calls) = writes_are calls
writes_are (Reads at (seen.Whole v found) ∷ calls) = writes_are calls
writes_are (Reads at (seen.Free w) ∷ calls) = writes_are calls
writes_are (Reads at (seen.Busy v w) ∷ calls) = writes_are calls
writes_are (Loads at v found ∷ calls) = writes_are calls
writes_are (Draws kind ticket ∷ calls) = writes_are calls
writes_are (Meets versions ∷ calls) = writes_are calls
writes_are (Takes at v found ∷ calls) = writes_are calls
writes_are (Puts at content v ∷ calls) = ap (λ z. change_at at v ∷ z) (writes_are calls)
writes_are (Frees at v ∷ calls) = writes_are calls
writes_are (Sets at to v ∷ calls) = writes_are calls
writes_are (Enters label labels ∷ calls) = writes_are calls
writes_are (Leaves ∷ calls) = writes_are calls

by_row : (b : Bool) (xs : List At) (at row v last : ℕ) → (at == row) ≡ b → v ≡ count xs at + 1 → last ≡ count xs row → cond b v last ≡ cond b (count xs row + 1) (count xs row)
by_row true xs at row v last e n m = n ∙ ap (λ z. count xs z + 1) (eqb-true at row e)
by_row false xs at row v last e n m = m

counted : (log : List At) (row : ℕ) → IsCounted log → last_of row (puts_of log) ≡ count log row
unfolding count
counted [] row c = refl
counted (x ∷ xs) row c = by_put (counted xs row c.1) x.puts refl where
  by_put : last_of row (puts_of xs) ≡ count xs row → (p : Bool) → x.puts ≡ p → last_of row (put_of x ++ puts_of xs) ≡ count (x ∷ xs) row
  by_put rest true e =
      let v : x.version ≡ count xs x.row + 1 = c.0 ∙ ap (λ z. cond z (count xs x.row + 1) (count xs x.row)) e in
      ap (λ z. last_of row (cond z (change_at x.row x.version ∷ []) [] ++ puts_of xs)) e ∙ by_row (x.row == row) xs x.row row x.version _ refl v rest
      ∙ sym (ap (λ z. cond ((x.row == row) && z) (count xs row + 1) (count xs row)) e ∙ and_true (x.row == row)) where
        and_true : (b : Bool) → cond (b && true) (count xs row + 1) (count xs row) ≡ cond b (count xs row + 1) (count xs row)
        and_true true = refl
        and_true false = refl
  by_put rest false e =
      ap (λ z. last_of row (cond z (change_at x.row x.version ∷ []) [] ++ puts_of xs)) e ∙ rest
      ∙ sym (ap (λ z. cond ((x.row == row) && z) (count xs row + 1) (count xs row)) e ∙ and_false (x.row == row)) where
        and_false : (b : Bool) → cond (b && false) (count xs row + 1) (count xs row) ≡ count xs row
        and_false true = refl
        and_false false = refl

pub rows_are : (flags : List ℕ) (calls : List Call) (row : ℕ) → AllAnswer flags calls → last_of row (writes (newest calls)) ≡ count (changes_of calls) row
rows_are flags calls row a = ap (last_of row) (writes_are calls) ∙ counted (changes_of calls) row (plain_chain flags calls a)

abbrev set_of : Setting → Change
set_of s = change_at s.word s.version

abbrev set_changes : List Setting → List Change
set_changes [] = []
set_changes (s ∷ ss) = set_of s ∷ set_changes ss

switches_are : (calls : List Call) → switches (newest calls) ≡ set_changes (sets_of calls)
unfolding sets_of
switches_are [] = refl
switches_are (Adds at amount (Counted r v) ∷ calls) = switches_are calls
switches_are (Adds at amount (Held r v w) ∷ calls) = switches_are calls
switches_are (Rings at content (Done v) ∷ calls) = switches_are calls
switches_are (Rings at content (Busy v w) ∷ calls) = switches_are calls
switches_are (Rings at content (Late t v) ∷ calls) = switches_are calls
switches_are (Reads at (seen.Whole v found) ∷ calls) = switches_are calls
switches_are (Reads at (seen.Free w) ∷ calls) = switches_are calls
switches_are (Reads at (seen.Busy v w) ∷ calls) = switches_are calls
switches_are (Loads at v found ∷ calls) = switches_are calls
switches_are (Draws kind ticket ∷ calls) = switches_are calls
switches_are (Meets versions ∷ calls) = switches_are calls
switches_are (Takes at v found ∷ calls) = switches_are calls
switches_are (Puts at content v ∷ calls) = switches_are calls
switches_are (Frees at v ∷ calls) = switches_are calls
switches_are (Sets at to v ∷ calls) = ap (λ z. change_at at v ∷ z) (switches_are calls)
switches_are (Enters label labels ∷ calls) = switches_are calls
switches_are (Leaves ∷ calls) = switches_are calls

words_counted : (ss : List Setting) (word : ℕ) → AreWordsCounted ss → last_of word (set_changes ss) ≡ word_version ss word
unfolding word_version
words_counted [] word c = refl
words_counted (s ∷ ss) word c = by_word (words_counted ss word c.1) (s.word == word) refl where
  by_word : last_of word (set_changes ss) ≡ word_version ss word → (b : Bool) → (s.word == word) ≡ b → cond b s.version (last_of word (set_changes ss)) ≡ cond b (word_version ss word + 1) (word_version ss word)
  by_word rest true e = c.0 ∙ ap (λ z. word_version ss z + 1) (eqb-true s.word word e)
  by_word rest false e = rest

pub words_are : (flags : List ℕ) (calls : List Call) (word : ℕ) → AllAnswer flags calls → last_of word (switches (newest calls)) ≡ word_version (sets_of calls) word
words_are flags calls word a = ap (last_of word) (switches_are calls) ∙ words_counted (sets_of calls) word (plain_words flags calls a)

-- the last action's number, by whether it goes on, and how many have ended
abbrev Stood : Bool → ℕ → ℕ → Type 0
Stood false last ended = last ≡ ended
Stood true last ended = last ≡ ended + 1

stood_kept : (o : Op) (os : List Op) (last ended : ℕ) → 0 < o.row → Stood (slot_after os 0).taken last ended → Stood (slot_after (o ∷ os) 0).taken last ended
unfolding slot_after
stood_kept o os last ended up st = rw (ne_eqb o.row 0 (λ z. absurd (omega (arith, up, z)))) st

ring_up : (row : ℕ) (content : List ℕ) → IsRing row content → 0 < row
ring_up row content r = elim r [ inl a ↦ omega (arith, a.0) | inr b ↦ omega (arith, b.0) ]

pub stood : (flags : List ℕ) (calls : List Call) → AllAnswer flags calls → Stood (slot_after (ops_of calls) 0).taken (last_of 0 (acts (newest calls))) (length (labels_after calls))
unfolding ops_of labels_after slot_after
stood flags [] a = refl
stood flags (Adds at amount (Counted r v) ∷ calls) a = stood_kept (op r (Merges amount)) (ops_of calls) _ _ (omega (arith, a.0.0.0, a.0.1)) (stood flags calls a.1)
stood flags (Adds at amount (Held r v w) ∷ calls) a = absurd a.0
stood flags (Rings at content (Done v) ∷ calls) a = stood_kept (op at (Becomes content)) (ops_of calls) _ _ (ring_up at content a.0.0) (stood flags calls a.1)
stood flags (Rings at content (Busy v w) ∷ calls) a = absurd a.0
stood flags (Rings at content (Late t v) ∷ calls) a = stood flags calls a.1
stood flags (Reads at (seen.Whole v found) ∷ calls) a = stood flags calls a.1
stood flags (Reads at (seen.Free w) ∷ calls) a = stood flags calls a.1
stood flags (Reads at (seen.Busy v w) ∷ calls) a = stood flags calls a.1
stood flags (Loads at v found ∷ calls) a = stood flags calls a.1
stood flags (Draws kind ticket ∷ calls) a = stood flags calls a.1
stood flags (Meets versions ∷ calls) a = stood flags calls a.1
stood flags (Takes at v found ∷ calls) a = stood_kept (op at Holds) (ops_of calls) _ _ a.0.0.0 (stood flags calls a.1)
stood flags (Puts at content v ∷ calls) a = stood_kept (op at (Becomes content)) (ops_of calls) _ _ a.0.0.0 (stood flags calls a.1)
stood flags (Frees at v ∷ calls) a = stood_kept (op at Releases) (ops_of calls) _ _ a.0.0.0 (stood flags calls a.1)
stood flags (Sets at to v ∷ calls) a = stood flags calls a.1
stood flags (Enters label labels ∷ calls) a = ap (λ (z : List Label). length z + 1) a.0.1
stood flags (Leaves ∷ calls) a =
    let before : last_of 0 (acts (newest calls)) ≡ length (labels_after calls) + 1 =
    subst (λ z. Stood z (last_of 0 (acts (newest calls))) (length (labels_after calls))) a.0 (stood flags calls a.1) in
    before ∙ sym (length-append (labels_after calls) (label_in calls ∷ []))

-- where an action begins, as many have ended as have begun
acts_are : (flags : List ℕ) (label : Label) (labels : List Label) (calls : List Call) → AllAnswer flags (Enters label labels ∷ calls) → last_of 0 (acts (newest calls)) ≡ length labels
acts_are flags label labels calls a =
    subst (λ z. Stood z (last_of 0 (acts (newest calls))) (length (labels_after calls))) a.0.0 (stood flags calls a.1) ∙ sym (ap (λ (z : List Label). length z) a.0.1)

-- a row that a plain store has is free by what was told of it where it isn't allocated
opens_alike : (row : ℕ) → opens_free row ≡ not (not (opens_free_there row))
opens_alike row = grind (arith, nat_tests)

put_free : (b x : Bool) (s t : Slot) → t.allocated ≡ true → x ≡ not s.allocated → cond b false x ≡ not (cond b t s).allocated
put_free true x s t e h = ap not (sym e)
put_free false x s t e h = h

held_free : (b x : Bool) (s : Slot) → x ≡ not s.allocated → x ≡ not (cond b (slot_by Holds s) s).allocated
held_free true x s h = h
held_free false x s h = h

released_free : (b x : Bool) (s : Slot) → x ≡ not s.allocated → cond b true x ≡ not (cond b (slot_by Releases s) s).allocated
released_free true x s h = refl
released_free false x s h = h

left_free : (b x : Bool) (s : Slot) → b ≡ false → x ≡ not s.allocated → x ≡ not (cond b (slot_by Renews s) s).allocated
left_free true x s e h = absurd (false≢true (sym e))
left_free false x s e h = h

free_are : (calls : List Call) (row : ℕ) → 0 < row → free_in (newest calls) row ≡ not (slot_after (ops_of calls) row).allocated
unfolding ops_of slot_after
free_are [] row up = opens_alike row
free_are (Adds at amount (Counted r v) ∷ calls) row up = put_free (r == row) _ _ (slot_by (Merges amount) (slot_after (ops_of calls) row)) refl (free_are calls row up)
free_are (Adds at amount (Held r v w) ∷ calls) row up = free_are calls row up
free_are (Rings at content (Done v) ∷ calls) row up = put_free (at == row) _ _ (slot_by (Becomes content) (slot_after (ops_of calls) row)) refl (free_are calls row up)
free_are (Rings at content (Busy v w) ∷ calls) row up = free_are calls row up
free_are (Rings at content (Late t v) ∷ calls) row up = free_are calls row up
free_are (Reads at (seen.Whole v found) ∷ calls) row up = free_are calls row up
free_are (Reads at (seen.Free w) ∷ calls) row up = free_are calls row up
free_are (Reads at (seen.Busy v w) ∷ calls) row up = free_are calls row up
free_are (Loads at v found ∷ calls) row up = free_are calls row up
free_are (Draws kind ticket ∷ calls) row up = free_are calls row up
free_are (Meets versions ∷ calls) row up = free_are calls row up
free_are (Takes at v found ∷ calls) row up = held_free (at == row) _ (slot_after (ops_of calls) row) (free_are calls row up)
free_are (Puts at content v ∷ calls) row up = put_free (at == row) _ _ (slot_by (Becomes content) (slot_after (ops_of calls) row)) refl (free_are calls row up)
free_are (Frees at v ∷ calls) row up = released_free (at == row) _ (slot_after (ops_of calls) row) (free_are calls row up)
free_are (Sets at to v ∷ calls) row up = free_are calls row up
free_are (Enters label labels ∷ calls) row up = held_free (0 == row) _ (slot_after (ops_of calls) row) (free_are calls row up)
free_are (Leaves ∷ calls) row up =
    left_free (0 == row) _ (slot_after (ops_of calls) row) (ne_eqb 0 row (λ z. absurd (omega (arith, up, z)))) (free_are calls row up)

next_told : (flags : List ℕ) (call : Call) (calls : List Call) → AllAnswer flags (call ∷ calls) → IsNext calls call → AreNextNotes (newest calls) (told call)
next_told flags (Adds at amount (Counted r v)) calls a n =
    (n.1 ∙ ap (λ z. z + 1) (ap (count (changes_of calls)) (sym n.0) ∙ sym (rows_are flags calls r a.1)), tt)
next_told flags (Adds at amount (Held r v w)) calls a n = absurd n
next_told flags (Rings at content (Done v)) calls a n = (n ∙ ap (λ z. z + 1) (sym (rows_are flags calls at a.1)), tt)
next_told flags (Rings at content (Busy v w)) calls a n = absurd n
next_told flags (Rings at content (Late t v)) calls a n = (tt, tt)
next_told flags (Reads at (seen.Whole v found)) calls a n =
    ((n ∙ sym (rows_are flags calls at a.1), free_are calls at a.0.0.0 ∙ ap not a.0.1), tt)
next_told flags (Reads at (seen.Free w)) calls a n = (free_are calls at a.0.0.0 ∙ ap not a.0.1, tt)
next_told flags (Reads at (seen.Busy v w)) calls a n = absurd n
next_told flags (Loads at v found) calls a n = (n ∙ sym (words_are flags calls at a.1), tt)
next_told flags (Draws kind ticket) calls a n = tt
next_told flags (Meets versions) calls a n = absurd n
next_told flags (Takes at v found) calls a n = tt
next_told flags (Puts at content v) calls a n = (n ∙ ap (λ z. z + 1) (sym (rows_are flags calls at a.1)), tt)
next_told flags (Frees at v) calls a n = (n ∙ sym (rows_are flags calls at a.1), tt)
next_told flags (Sets at to v) calls a n = (n ∙ ap (λ z. z + 1) (sym (words_are flags calls at a.1)), tt)
next_told flags (Enters label labels) calls a n = (ap (λ z. z + 1) (sym (acts_are flags label labels calls a)), tt)
next_told flags Leaves calls a n = tt

-- what a plain store's calls tell goes by what was told before it
pub told_next : (flags : List ℕ) (calls : List Call) → AllAnswer flags calls → AreNextNotes [] (all_told calls)
unfolding all_told
told_next flags [] a = tt
told_next flags (call ∷ calls) a =
    next_then [] (all_told calls) (told call) (told_next flags calls a.1)
    (subst (λ z. AreNextNotes z (told call)) (sym (newest_is calls)) (next_told flags call calls a (plain_next flags (call ∷ calls) a).0))
