-- A call leaves a plain store where the calls with it lead.
use Rattle.std.proofs.Common.{ℕ, ◌≡◌, inl, inr, ◌<◌, ◌≤◌, ◌+◌, ◌*◌, ◌==◌, cond, false, true, Bool, List, [], ◌∷◌, ◌++◌, Some, None, IsSome, slice_set, slice_index_or, slice_index, length, refl, ap, sym, ◌∙◌, subst, arith, eq-eqb, ne_eqb}
use Rattle.std.proofs.lemmas.Bool.{cases_eq}
use Rattle.std.proofs.lemmas.List.{get_or_read, get_or-set_same, get_or-set_other}
use Rattle.pfs_rows.specs.declared.table.Seen.TheVariants.{Whole, Free}
use Rattle.pfs_stat.specs.declared.Stat.{Stat}
use Rattle.pfs_levels.specs.declared.answers.Added.TheVariants.{Counted}
use Rattle.pfs_levels.specs.declared.answers.RingPut.TheVariants.{Done, Late}
use Rattle.pfs_levels.specs.declared.answers.Word.{Word}
use Rattle.pfs_levels.specs.declared.plain.Slot.{Slot}
use Rattle.pfs_levels.specs.Calls.{Call, Adds, Rings, Reads, Loads, Draws, Takes, Puts, Frees, Sets, IsRow, IsCell, IsRing}
use Rattle.pfs_levels.specs.JointCalls.{sets_by, sets_of, draws_by, draws_of, drawn}
use Rattle.pfs_levels.specs.PlainStore.{Effect, Merges, Becomes, Holds, Releases, Op, op, ops_by, ops_of, slot, slot_by, slot_after, slot_at, in_hand, word, word_at, word_after, Answers, IsAt, IsFresh}

-- a read after a write
pub set_read : (slots : List Slot) (x : Slot) (at row : ℕ) → at < length slots → slot_at (slice_set slots at x) row ≡ cond (at == row) x (slot_at slots row)
set_read slots x at row k = elim (cases_eq at row) [
  | inl e ↦ (let P : ℕ → Type 0 = λ r. slot_at (slice_set slots at x) r ≡ x in subst P e (get_or-set_same slots at x (slot 0 false false []) k)) ∙ sym (ap (λ b. cond b x (slot_at slots row)) (eq-eqb at row e))
  | inr e ↦ get_or-set_other slots at row x (slot 0 false false []) (λ z. e (sym z)) ∙ sym (ap (λ b. cond b x (slot_at slots row)) (ne_eqb at row e))
]

word_read : (words : List Word) (x : Word) (at row : ℕ) → at < length words → word_at (slice_set words at x) row ≡ cond (at == row) x (word_at words row)
word_read words x at row k = elim (cases_eq at row) [
  | inl e ↦ (let P : ℕ → Type 0 = λ r. word_at (slice_set words at x) r ≡ x in subst P e (get_or-set_same words at x (word 0 0) k)) ∙ sym (ap (λ b. cond b x (word_at words row)) (eq-eqb at row e))
  | inr e ↦ get_or-set_other words at row x (word 0 0) (λ z. e (sym z)) ∙ sym (ap (λ b. cond b x (word_at words row)) (ne_eqb at row e))
]

number_read : (xs : List ℕ) (x at row : ℕ) → at < length xs → slice_index_or (slice_set xs at x) row 0 ≡ cond (at == row) x (slice_index_or xs row 0)
number_read xs x at row k = elim (cases_eq at row) [
  | inl e ↦ (let P : ℕ → Type 0 = λ r. slice_index_or (slice_set xs at x) r 0 ≡ x in subst P e (get_or-set_same xs at x 0 k)) ∙ sym (ap (λ b. cond b x (slice_index_or xs row 0)) (eq-eqb at row e))
  | inr e ↦ get_or-set_other xs at row x 0 (λ z. e (sym z)) ∙ sym (ap (λ b. cond b x (slice_index_or xs row 0)) (ne_eqb at row e))
]

-- the fold with one more
moved_to : (slots after : List Slot) (os : List Op) (row : ℕ) (effect : Effect) → row < 14242 → length slots ≡ 14242 → after ≡ slice_set slots row (slot_by effect (slot_at slots row))
    → ((r : ℕ) → r < 14242 → slot_at slots r ≡ slot_after os r) → (r : ℕ) → r < 14242 → slot_at after r ≡ slot_after (op row effect ∷ os) r
unfolding slot_after
moved_to slots after os row effect known wide is all r low = ap (λ s. slot_at s r) is ∙ set_read slots (slot_by effect (slot_at slots row)) row r (omega arith) ∙ elim (cases_eq row r) [
  | inl e ↦ rw (eq-eqb row r e) (ap (slot_by effect) (ap (slot_at slots) e ∙ all r low))
  | inr e ↦ rw (ne_eqb row r e) (all r low)
]

-- a call that changes, takes or releases a row
pub at_row : (slots after : List Slot) (words : List Word) (tickets flags : List ℕ) (calls : List Call) (call : Call) (row : ℕ) (effect : Effect)
    → ops_by call ≡ op row effect ∷ [] → sets_by call ≡ [] → draws_by call ≡ [] → row < 14242 → length slots ≡ 14242 → after ≡ slice_set slots row (slot_by effect (slot_at slots row))
    → Answers flags calls call → IsAt slots words tickets flags calls → IsAt after words tickets flags (call ∷ calls)
unfolding ops_of sets_of draws_of
at_row slots after words tickets flags calls call row effect o s d known wide is answer at = record {
  slots_are = λ r low. moved_to slots after (ops_of calls) row effect known wide is at.slots_are r low ∙ ap (λ z. slot_after (z ++ ops_of calls) r) (sym o);
  words_are = λ w low. at.words_are w low ∙ ap (λ z. word_after flags (z ++ sets_of calls) w) (sym s);
  tickets_are = λ k low. at.tickets_are k low ∙ ap (λ z. drawn (z ++ draws_of calls) k) (sym d);
  answers = (answer, at.answers);
}

-- a call that only looks
pub at_look : (slots : List Slot) (words : List Word) (tickets flags : List ℕ) (calls : List Call) (call : Call)
    → ops_by call ≡ [] → sets_by call ≡ [] → draws_by call ≡ [] → Answers flags calls call → IsAt slots words tickets flags calls → IsAt slots words tickets flags (call ∷ calls)
unfolding ops_of sets_of draws_of
at_look slots words tickets flags calls call o s d answer at = record {
  slots_are = λ r low. at.slots_are r low ∙ ap (λ z. slot_after (z ++ ops_of calls) r) (sym o);
  words_are = λ w low. at.words_are w low ∙ ap (λ z. word_after flags (z ++ sets_of calls) w) (sym s);
  tickets_are = λ k low. at.tickets_are k low ∙ ap (λ z. drawn (z ++ draws_of calls) k) (sym d);
  answers = (answer, at.answers);
}

pub away : (b : Bool) (v : ℕ) → cond b (Some v) None ≡ None → b ≡ false
away false v e = refl
away true v e = cc

pub held : (b : Bool) (v : ℕ) → IsSome (cond b (Some v) None) → b ≡ true
held true v e = refl
held false v e = cc

kept_at : (b : Bool) (v k : ℕ) → cond b (Some v) None ≡ Some k → (b ≡ true) × (v ≡ k)
kept_at true v k e = (refl, cc)
kept_at false v k e = cc

-- what was read of a row is the fold's
pub here : {A : Type 0} (f : Slot → A) (slots : List Slot) (words : List Word) (tickets flags : List ℕ) (calls : List Call) (row : ℕ) (x : A) → row < 14242 → x ≡ f (slot_at slots row) → IsAt slots words tickets flags calls → x ≡ f (slot_after (ops_of calls) row)
here f slots words tickets flags calls row x known read at = read ∙ ap f (at.slots_are row known)

-- a row in nobody's hand, and one in hand
pub idle : (slots : List Slot) (words : List Word) (tickets flags : List ℕ) (calls : List Call) (row : ℕ) → row < 14242 → in_hand (slot_at slots row) ≡ None → IsAt slots words tickets flags calls → (slot_after (ops_of calls) row).taken ≡ false
idle slots words tickets flags calls row known free at = sym (ap (λ (s : Slot). s.taken) (at.slots_are row known)) ∙ away _ _ free

pub taken : (slots : List Slot) (words : List Word) (tickets flags : List ℕ) (calls : List Call) (row : ℕ) → row < 14242 → IsSome (in_hand (slot_at slots row)) → IsAt slots words tickets flags calls → (slot_after (ops_of calls) row).taken ≡ true
taken slots words tickets flags calls row known mine at = sym (ap (λ (s : Slot). s.taken) (at.slots_are row known)) ∙ held _ _ mine

pub at_add : (slots after : List Slot) (words : List Word) (tickets flags : List ℕ) (calls : List Call) (row : ℕ) (amount : Stat) (version : ℕ) → IsCell row → length slots ≡ 14242
    → in_hand (slot_at slots row) ≡ None → version ≡ (slot_at slots row).version → after ≡ slice_set slots row (slot_by (Merges amount) (slot_at slots row))
    → IsAt slots words tickets flags calls → IsAt after words tickets flags (Adds row amount (Counted row (version + 1)) ∷ calls)
at_add slots after words tickets flags calls row amount version cell wide free read is at =
    let low : row < 14242 = omega arith in
    at_row slots after words tickets flags calls (Adds row amount (Counted row (version + 1))) row (Merges amount) refl refl refl low wide is
    (cell, refl, idle slots words tickets flags calls row low free at, ap (λ v. v + 1) (here (λ s. s.version) slots words tickets flags calls row version low read at)) at

pub at_ring : (slots after : List Slot) (words : List Word) (tickets flags : List ℕ) (calls : List Call) (row version : ℕ) (content : List ℕ) → IsRing row content → row < 14242 → length slots ≡ 14242
    → in_hand (slot_at slots row) ≡ None → version ≡ (slot_at slots row).version → IsFresh row (slot_at slots row) content → after ≡ slice_set slots row (slot_by (Becomes content) (slot_at slots row))
    → IsAt slots words tickets flags calls → IsAt after words tickets flags (Rings row content (Done (version + 1)) ∷ calls)
at_ring slots after words tickets flags calls row version content ring low wide free read newer is at =
    at_row slots after words tickets flags calls (Rings row content (Done (version + 1))) row (Becomes content) refl refl refl low wide is
    (ring, idle slots words tickets flags calls row low free at, ap (λ v. v + 1) (here (λ s. s.version) slots words tickets flags calls row version low read at), subst (λ (s : Slot). IsFresh row s content) (at.slots_are row low) newer) at

pub at_late : (slots : List Slot) (words : List Word) (tickets flags : List ℕ) (calls : List Call) (row ticket version : ℕ) (content : List ℕ) → IsRing row content → row < 14242 → (slot_at slots row).allocated ≡ true → 10242 ≤ row
    → slice_index (slot_at slots row).content 15 ≡ ticket + 1 → slice_index content 15 ≤ ticket → version ≡ (slot_at slots row).version → IsAt slots words tickets flags calls
    → IsAt slots words tickets flags (Rings row content (Late ticket version) ∷ calls)
at_late slots words tickets flags calls row ticket version content ring low whole far holds less read at =
    at_look slots words tickets flags calls (Rings row content (Late ticket version)) refl refl refl
    (ring, sym (here (λ s. s.allocated) slots words tickets flags calls row true low (sym whole) at), far, sym (here (λ s. slice_index s.content 15) slots words tickets flags calls row (ticket + 1) low (sym holds) at), less, here (λ s. s.version) slots words tickets flags calls row version low read at) at

pub at_whole : (slots : List Slot) (words : List Word) (tickets flags : List ℕ) (calls : List Call) (row version : ℕ) (content : List ℕ) → IsRow row → (slot_at slots row).allocated ≡ true → version ≡ (slot_at slots row).version
    → content ≡ (slot_at slots row).content → IsAt slots words tickets flags calls → IsAt slots words tickets flags (Reads row (Whole version content) ∷ calls)
at_whole slots words tickets flags calls row version content known whole read was at =
    at_look slots words tickets flags calls (Reads row (Whole version content)) refl refl refl (
      known,
      sym (here (λ s. s.allocated) slots words tickets flags calls row true known.1 (sym whole) at),
      here (λ s. s.version) slots words tickets flags calls row version known.1 read at,
      here (λ s. s.content) slots words tickets flags calls row content known.1 was at,
    ) at

pub at_vacant : (slots : List Slot) (words : List Word) (tickets flags : List ℕ) (calls : List Call) (row version : ℕ) → IsRow row → (slot_at slots row).allocated ≡ false → version ≡ (slot_at slots row).version
    → IsAt slots words tickets flags calls → IsAt slots words tickets flags (Reads row (Free (4 * version)) ∷ calls)
at_vacant slots words tickets flags calls row version known free read at =
    at_look slots words tickets flags calls (Reads row (Free (4 * version))) refl refl refl
    (known, sym (here (λ s. s.allocated) slots words tickets flags calls row false known.1 (sym free) at), ap (λ v. 4 * v) (here (λ s. s.version) slots words tickets flags calls row version known.1 read at)) at

pub at_take : (slots after : List Slot) (words : List Word) (tickets flags : List ℕ) (calls : List Call) (row version : ℕ) (content : List ℕ) → IsRow row → length slots ≡ 14242 → in_hand (slot_at slots row) ≡ None
    → version ≡ (slot_at slots row).version → content ≡ (slot_at slots row).content → after ≡ slice_set slots row (slot_by Holds (slot_at slots row))
    → IsAt slots words tickets flags calls → IsAt after words tickets flags (Takes row version content ∷ calls)
at_take slots after words tickets flags calls row version content known wide free read was is at =
    at_row slots after words tickets flags calls (Takes row version content) row Holds refl refl refl known.1 wide is (
      known,
      idle slots words tickets flags calls row known.1 free at,
      here (λ s. s.version) slots words tickets flags calls row version known.1 read at,
      here (λ s. s.content) slots words tickets flags calls row content known.1 was at,
    ) at

pub at_put : (slots after : List Slot) (words : List Word) (tickets flags : List ℕ) (calls : List Call) (row version : ℕ) (content : List ℕ) → IsRow row → length slots ≡ 14242 → IsSome (in_hand (slot_at slots row))
    → version ≡ (slot_at slots row).version → after ≡ slice_set slots row (slot_by (Becomes content) (slot_at slots row))
    → IsAt slots words tickets flags calls → IsAt after words tickets flags (Puts row content (version + 1) ∷ calls)
at_put slots after words tickets flags calls row version content known wide mine read is at =
    at_row slots after words tickets flags calls (Puts row content (version + 1)) row (Becomes content) refl refl refl known.1 wide is
    (known, taken slots words tickets flags calls row known.1 mine at, ap (λ v. v + 1) (here (λ s. s.version) slots words tickets flags calls row version known.1 read at)) at

pub at_free : (slots after : List Slot) (words : List Word) (tickets flags : List ℕ) (calls : List Call) (row v : ℕ) → IsRow row → length slots ≡ 14242 → in_hand (slot_at slots row) ≡ Some v
    → after ≡ slice_set slots row (slot_by Releases (slot_at slots row)) → IsAt slots words tickets flags calls → IsAt after words tickets flags (Frees row v ∷ calls)
at_free slots after words tickets flags calls row v known wide mine is at =
    let both = kept_at _ _ _ mine in
    at_row slots after words tickets flags calls (Frees row v) row Releases refl refl refl known.1 wide is
    (known, sym (here (λ s. s.taken) slots words tickets flags calls row true known.1 (sym both.0) at), here (λ s. s.version) slots words tickets flags calls row v known.1 (sym both.1) at) at

pub at_load : (slots : List Slot) (words : List Word) (tickets flags : List ℕ) (calls : List Call) (w : ℕ) (x : Word) → w < 160 → length words ≡ 160 → x ≡ slice_index_or words w x → IsAt slots words tickets flags calls
    → IsAt slots words tickets flags (Loads w x.version x.flags ∷ calls)
at_load slots words tickets flags calls w x known wide read at =
    at_look slots words tickets flags calls (Loads w x.version x.flags) refl refl refl (known, get_or_read words w x (omega arith) read (word 0 0) ∙ at.words_are w known) at

pub at_set : (slots : List Slot) (words : List Word) (tickets flags : List ℕ) (calls : List Call) (w to : ℕ) (x : Word) → w < 160 → length words ≡ 160 → x ≡ slice_index_or words w x → IsAt slots words tickets flags calls
    → IsAt slots (slice_set words w (word (x.version + 1) to)) tickets flags (Sets w to (x.version + 1) ∷ calls)
unfolding ops_of sets_of draws_of word_after
at_set slots words tickets flags calls w to x known wide read at =
    let now : x ≡ word_after flags (sets_of calls) w = get_or_read words w x (omega arith) read (word 0 0) ∙ at.words_are w known in
    record {
      slots_are = at.slots_are;
      words_are = λ r low. word_read words (word (x.version + 1) to) w r (omega arith) ∙ ap (λ z. cond (w == r) (word (x.version + 1) to) z) (at.words_are r low);
      tickets_are = at.tickets_are;
      answers = ((known, ap (λ (y : Word). y.version + 1) now), at.answers);
    }

pub at_ticket : (slots : List Slot) (words : List Word) (tickets flags : List ℕ) (calls : List Call) (kind x : ℕ) → kind < 4 → length tickets ≡ 4 → x ≡ slice_index_or tickets kind 0 → IsAt slots words tickets flags calls
    → IsAt slots words (slice_set tickets kind (x + 1)) flags (Draws kind x ∷ calls)
unfolding ops_of sets_of draws_of drawn
at_ticket slots words tickets flags calls kind x known wide read at =
    let now : x ≡ drawn (draws_of calls) kind = read ∙ at.tickets_are kind known in
    record {
      slots_are = at.slots_are;
      words_are = at.words_are;
      tickets_are = λ k low. number_read tickets (x + 1) kind k (omega arith) ∙ elim (cases_eq kind k) [
        | inl e ↦ rw (eq-eqb kind k e) (ap (λ z. z + 1) (now ∙ ap (drawn (draws_of calls)) e))
        | inr e ↦ rw (ne_eqb kind k e) (at.tickets_are k low)
      ];
      answers = ((known, now), at.answers);
    }

pub ring_low : (row : ℕ) (content : List ℕ) → IsRing row content → row < 14242
ring_low row content (inl near) = omega (arith, near.1)
ring_low row content (inr far) = far.1

pub ring_high : (row : ℕ) (content : List ℕ) → IsRing row content → 0 < row
ring_high row content (inl near) = omega (arith, near.0)
ring_high row content (inr far) = omega (arith, far.0)
