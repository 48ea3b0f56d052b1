-- No call of a plain store is below what earlier actors left.
use Rattle.std.proofs.Common.{ℕ, inl, inr, ◌≡◌, ◌<◌, ◌≤◌, ◌+◌, ◌==◌, true, false, Bool, cond, not, ◌&&◌, List, [], ◌∷◌, ◌++◌, refl, ap, sym, ◌∙◌, subst, arith, append_assoc, zero-add, eq-eqb, ne_eqb}
use Rattle.std.proofs.lemmas.Bool.{cases_eq, eqb-true}
use Rattle.pfs_lemmas.proofs.Bools.{and_false, counted_once_more}
use Rattle.pfs_rows.specs.declared.table.Seen.TheVariants.{Whole, Free}
use Rattle.pfs_rows.specs.declared.table.Seen.TheVariants as sees
use Rattle.pfs_levels.specs.declared.answers.Added.TheVariants.{Counted, Held}
use Rattle.pfs_levels.specs.declared.answers.RingPut.TheVariants.{Done, Busy, Late}
use Rattle.pfs_levels.specs.declared.answers.Word.{Word}
use Rattle.pfs_levels.specs.declared.plain.Slot.{Slot}
use Rattle.pfs_levels.specs.Calls.{Call, Adds, Rings, Reads, Loads, Draws, Takes, Puts, Frees, Sets, Enters, Leaves, Meets}
use Rattle.pfs_levels.specs.JointCalls.{total, one_if, At, at_put, at_free, changes_by, changes_of, count, IsCounted, sets_by, sets_of, word_version, opens_free, frees_at, all_calls}
use Rattle.pfs_levels.specs.PlainStore.{Effect, Merges, Becomes, Renews, Holds, Releases, Op, is_put, ops_of, slot_by, slot_after, AllAnswer, puts_in}
use Rattle.pfs_levels.specs.PhaseFloors.{IsSince, AreSince, AllSince}
use Rattle.pfs_levels.proofs.PlainChanges.{slot_version, counts, plain_words, plain_chain}
use Rattle.pfs_levels.proofs.ActorFloors.{answers_rest}
use Rattle.pfs_levels.proofs.PlainContents.{versions, word_versions, count_more, words_more, frees_more}
use Rattle.pfs_levels.proofs.PlainCalls.{ring_high}

changes_split : (xs ys : List Call) → changes_of (xs ++ ys) ≡ changes_of xs ++ changes_of ys
unfolding changes_of
changes_split [] ys = refl
changes_split (x ∷ xs) ys = ap (λ z. changes_by x ++ z) (changes_split xs ys) ∙ sym (append_assoc (changes_by x) (changes_of xs) (changes_of ys))

sets_split : (xs ys : List Call) → sets_of (xs ++ ys) ≡ sets_of xs ++ sets_of ys
unfolding sets_of
sets_split [] ys = refl
sets_split (x ∷ xs) ys = ap (λ z. sets_by x ++ z) (sets_split xs ys) ∙ sym (append_assoc (sets_by x) (sets_of xs) (sets_of ys))

count_since : (xs ys : List Call) (row : ℕ) → count (changes_of ys) row ≤ count (changes_of (xs ++ ys)) row
count_since xs ys row = subst (λ z. count (changes_of ys) row ≤ count z row) (sym (changes_split xs ys)) (count_more (changes_of xs) (changes_of ys) row)

words_since : (xs ys : List Call) (at : ℕ) → word_version (sets_of ys) at ≤ word_version (sets_of (xs ++ ys)) at
words_since xs ys at = subst (λ z. word_version (sets_of ys) at ≤ word_version z at) (sym (sets_split xs ys)) (words_more (sets_of xs) (sets_of ys) at)

frees_since : (xs ys : List Call) (row k : ℕ) → frees_at (changes_of ys) row k ≤ frees_at (changes_of (xs ++ ys)) row k
frees_since xs ys row k = subst (λ z. frees_at (changes_of ys) row k ≤ frees_at z row k) (sym (changes_split xs ys)) (frees_more (changes_of xs) (changes_of ys) row k)

-- in a chain nothing was released above a row's version
mark_low : (p : Bool) (v n m k : ℕ) → v ≡ cond p (n + 1) n → m ≡ cond p (n + 1) n → m < k → v ≡ k → ⊥
mark_low p v n m k e f low h = omega (arith, e, f, low, h)

count_here : (x : At) (cs : List At) (row : ℕ) → x.row ≡ row → count (x ∷ cs) row ≡ cond x.puts (count cs row + 1) (count cs row)
unfolding count
count_here x cs row e = ap (λ b. cond (b && x.puts) (count cs row + 1) (count cs row)) (eq-eqb x.row row e)

abbrev releases : List At → ℕ → ℕ → ℕ
releases cs row k = total (λ x. one_if ((x.row == row) && not x.puts && (x.version == k))) cs

elsewhere : (x : At) (cs : List At) (row k : ℕ) → (x.row ≡ row → ⊥) → releases cs row k ≡ 0 → releases (x ∷ cs) row k ≡ 0
unfolding total
elsewhere x cs row k e h = ap (λ b. one_if (b && not x.puts && (x.version == k)) + releases cs row k) (ne_eqb x.row row e) ∙ zero-add (releases cs row k) ∙ h

otherwise : (x : At) (cs : List At) (row k : ℕ) → (x.version ≡ k → ⊥) → releases cs row k ≡ 0 → releases (x ∷ cs) row k ≡ 0
unfolding total
otherwise x cs row k e h = ap (λ b. one_if ((x.row == row) && not x.puts && b) + releases cs row k) (ne_eqb x.version k e) ∙ ap (λ b. one_if b + releases cs row k) (and_false ((x.row == row) && not x.puts)) ∙ zero-add (releases cs row k) ∙ h

put_not : (x : At) (cs : List At) (row k : ℕ) → x.puts ≡ true → releases cs row k ≡ 0 → releases (x ∷ cs) row k ≡ 0
unfolding total
put_not x cs row k e h = ap (λ b. one_if ((x.row == row) && not b && (x.version == k)) + releases cs row k) e ∙ ap (λ b. one_if (b && (x.version == k)) + releases cs row k) (and_false (x.row == row)) ∙ zero-add (releases cs row k) ∙ h

none_above : (cs : List At) (row k : ℕ) → IsCounted cs → count cs row < k → releases cs row k ≡ 0
unfolding total count
none_above [] row k c low = refl
none_above (x ∷ cs) row k c low = elim (cases_eq x.row row) [
  | inl e ↦ otherwise x cs row k (mark_low x.puts x.version (count cs row) _ k (c.0 ∙ ap (λ r. cond x.puts (count cs r + 1) (count cs r)) e) (count_here x cs row e) low) (none_above cs row k c.1 (omega (arith, low, counted_once_more (x.row == row) x.puts (count cs row))))
  | inr e ↦ elsewhere x cs row k e (none_above cs row k c.1 (omega (arith, low, counted_once_more (x.row == row) x.puts (count cs row))))
]

-- a row that is allocated wasn't released at its version
put_whole : (row r n v : ℕ) (cs : List At) (s t : Slot) → IsCounted cs → count cs row ≡ n → (s.allocated ≡ true → releases cs row n ≡ 0) → (cond (r == row) t s).allocated ≡ true → releases (at_put r v ∷ cs) row (cond ((r == row) && true) (n + 1) n) ≡ 0
put_whole row r n v cs s t c here old whole = elim (cases_eq r row) [
  | inl e ↦ (let F : ℕ → Type 0 = λ k. releases (at_put r v ∷ cs) row k ≡ 0 in subst F (sym (ap (λ b. cond (b && true) (n + 1) n) (eq-eqb r row e))) (put_not (at_put r v) cs row (n + 1) refl (none_above cs row (n + 1) c (omega (arith, here)))))
  | inr e ↦ (let F : ℕ → Type 0 = λ k. releases (at_put r v ∷ cs) row k ≡ 0 in
      let G : Bool → Type 0 = λ b. (cond b t s).allocated ≡ true in
      subst F (sym (ap (λ b. cond (b && true) (n + 1) n) (ne_eqb r row e))) (elsewhere (at_put r v) cs row n e (old (subst G (ne_eqb r row e) whole))))
]

hold_whole : (b : Bool) (n row : ℕ) (cs : List At) (s : Slot) → (s.allocated ≡ true → releases cs row n ≡ 0) → (cond b (slot_by Holds s) s).allocated ≡ true → releases cs row (cond (b && false) (n + 1) n) ≡ 0
hold_whole true n row cs s old whole = old whole
hold_whole false n row cs s old whole = old whole

free_whole : (row r n v : ℕ) (cs : List At) (s : Slot) → (s.allocated ≡ true → releases cs row n ≡ 0) → (cond (r == row) (slot_by Releases s) s).allocated ≡ true → releases (at_free r v ∷ cs) row (cond ((r == row) && false) (n + 1) n) ≡ 0
free_whole row r n v cs s old whole = elim (cases_eq r row) [
  | inl e ↦ (let G : Bool → Type 0 = λ b. (cond b (slot_by Releases s) s).allocated ≡ true in let no : false ≡ true = subst G (eq-eqb r row e) whole in cc)
  | inr e ↦ (let F : ℕ → Type 0 = λ k. releases (at_free r v ∷ cs) row k ≡ 0 in
      let G : Bool → Type 0 = λ b. (cond b (slot_by Releases s) s).allocated ≡ true in
      subst F (sym (ap (λ b. cond (b && false) (n + 1) n) (ne_eqb r row e))) (elsewhere (at_free r v) cs row n e (old (subst G (ne_eqb r row e) whole))))
]

leave_whole : (row n : ℕ) (cs : List At) (s : Slot) → 0 < row → (s.allocated ≡ true → releases cs row n ≡ 0) → (cond (0 == row) (slot_by Renews s) s).allocated ≡ true → releases cs row (cond ((0 == row) && true) (n + 1) n) ≡ 0
leave_whole row n cs s up old whole =
    let e : (0 == row) ≡ false = ne_eqb 0 row (λ z. absurd (omega (arith, up, z))) in
    let F : ℕ → Type 0 = λ k. releases cs row k ≡ 0 in
    let G : Bool → Type 0 = λ b. (cond b (slot_by Renews s) s).allocated ≡ true in
    subst F (sym (ap (λ b. cond (b && true) (n + 1) n) e)) (old (subst G e whole))

whole_unfreed : (flags : List ℕ) (calls : List Call) (row : ℕ) → AllAnswer flags calls → 0 < row → (slot_after (ops_of calls) row).allocated ≡ true → releases (changes_of calls) row (puts_in (ops_of calls) row) ≡ 0
unfolding ops_of changes_of slot_after puts_in total
whole_unfreed flags [] row a up whole = refl
whole_unfreed flags (Adds at amount (Counted r v) ∷ calls) row a up whole = put_whole row r _ v (changes_of calls) _ _ (plain_chain flags calls a.1) (counts calls row up) (whole_unfreed flags calls row a.1 up) whole
whole_unfreed flags (Adds at amount (Held r v w) ∷ calls) row a up whole = absurd a.0
whole_unfreed flags (Rings at content (Done v) ∷ calls) row a up whole = put_whole row at _ v (changes_of calls) _ _ (plain_chain flags calls a.1) (counts calls row up) (whole_unfreed flags calls row a.1 up) whole
whole_unfreed flags (Rings at content (Busy v w) ∷ calls) row a up whole = absurd a.0
whole_unfreed flags (Rings at content (Late t v) ∷ calls) row a up whole = whole_unfreed flags calls row a.1 up whole
whole_unfreed flags (Reads at seen ∷ calls) row a up whole = whole_unfreed flags calls row a.1 up whole
whole_unfreed flags (Loads at v found ∷ calls) row a up whole = whole_unfreed flags calls row a.1 up whole
whole_unfreed flags (Draws kind ticket ∷ calls) row a up whole = whole_unfreed flags calls row a.1 up whole
whole_unfreed flags (Meets versions ∷ calls) row a up whole = whole_unfreed flags calls row a.1 up whole
whole_unfreed flags (Takes at v found ∷ calls) row a up whole = hold_whole (at == row) _ row (changes_of calls) _ (whole_unfreed flags calls row a.1 up) whole
whole_unfreed flags (Puts at content v ∷ calls) row a up whole = put_whole row at _ v (changes_of calls) _ _ (plain_chain flags calls a.1) (counts calls row up) (whole_unfreed flags calls row a.1 up) whole
whole_unfreed flags (Frees at v ∷ calls) row a up whole = free_whole row at _ v (changes_of calls) _ (whole_unfreed flags calls row a.1 up) whole
whole_unfreed flags (Sets at to v ∷ calls) row a up whole = whole_unfreed flags calls row a.1 up whole
whole_unfreed flags (Enters label labels ∷ calls) row a up whole = hold_whole (0 == row) _ row (changes_of calls) _ (whole_unfreed flags calls row a.1 up) whole
whole_unfreed flags (Leaves ∷ calls) row a up whole = leave_whole row _ (changes_of calls) _ up (whole_unfreed flags calls row a.1 up) whole

-- a row that opens free stays so until it is published
step_free : (b : Bool) (e : Effect) (s : Slot) (n : ℕ) → cond (b && is_put e) (n + 1) n ≡ 0 → (n ≡ 0 → s.allocated ≡ false) → (cond b (slot_by e s) s).allocated ≡ false
step_free false e s n z h = h z
step_free true (Merges amount) s n z h = absurd (omega (arith, z))
step_free true (Becomes content) s n z h = absurd (omega (arith, z))
step_free true Renews s n z h = absurd (omega (arith, z))
step_free true Holds s n z h = h z
step_free true Releases s n z h = refl

still_free : (os : List Op) (row : ℕ) → opens_free row ≡ true → puts_in os row ≡ 0 → (slot_after os row).allocated ≡ false
unfolding puts_in slot_after
still_free [] row e z = ap not e
still_free (o ∷ os) row e z = step_free (o.row == row) o.effect (slot_after os row) (puts_in os row) z (still_free os row e)

no_opening : (b c : Bool) → (b ≡ true → c ≡ true → ⊥) → one_if (b && c) ≡ 0
no_opening true true h = absurd (h refl refl)
no_opening true false h = refl
no_opening false c h = refl

whole_not_freed : (flags : List ℕ) (calls : List Call) (row : ℕ) → AllAnswer flags calls → 0 < row → (slot_after (ops_of calls) row).allocated ≡ true → frees_at (changes_of calls) row (puts_in (ops_of calls) row) ≡ 0
whole_not_freed flags calls row a up whole =
    let n = puts_in (ops_of calls) row in
    let opening : one_if ((n == 0) && opens_free row) ≡ 0 = no_opening (n == 0) (opens_free row) (λ b c. (let no : false ≡ true = sym (still_free (ops_of calls) row c (eqb-true n 0 b)) ∙ whole in cc)) in
    omega (arith, whole_unfreed flags calls row a up whole, opening)

-- what earlier actors did is part of all
pub record Under (base all : List Call) : Type 0 where
  pub rows : (row : ℕ) → count (changes_of base) row ≤ count (changes_of all) row
  pub words : (at : ℕ) → word_version (sets_of base) at ≤ word_version (sets_of all) at
  pub freed : (row k : ℕ) → frees_at (changes_of base) row k ≤ frees_at (changes_of all) row k

under_more : (base rest calls : List Call) → Under base rest → Under base (calls ++ rest)
under_more base rest calls u = record {
  rows = λ row. omega (arith, u.rows row, count_since calls rest row);
  words = λ at. omega (arith, u.words at, words_since calls rest at);
  freed = λ row k. omega (arith, u.freed row k, frees_since calls rest row k);
}

one_since : (flags : List ℕ) (call : Call) (all base : List Call) → AllAnswer flags (call ∷ all) → Under base all → IsSince (changes_of base) (sets_of base) call
one_since flags (Adds at amount (Counted r v)) all base a u = (let P : ℕ → Type 0 = λ z. count (changes_of base) z < v in subst P (sym a.0.1) (omega (arith, a.0.3, slot_version all at (omega (arith, a.0.0.0)), u.rows at)))
one_since flags (Adds at amount (Held r v w)) all base a u = absurd a.0
one_since flags (Rings at put (Done v)) all base a u = omega (arith, a.0.2, slot_version all at (ring_high at put a.0.0), u.rows at)
one_since flags (Rings at put (Busy v w)) all base a u = absurd a.0
one_since flags (Rings at put (Late t v)) all base a u = omega (arith, a.0.5, slot_version all at (ring_high at put a.0.0), u.rows at)
one_since flags (Reads at (Whole v found)) all base a u =
    let F : ℕ → Type 0 = λ k. frees_at (changes_of all) at k ≡ 0 in
    let none : frees_at (changes_of all) at v ≡ 0 = subst F (sym (a.0.2 ∙ versions (ops_of all) at)) (whole_not_freed flags all at a.1 a.0.0.0 a.0.1) in
    (omega (arith, a.0.2, slot_version all at a.0.0.0, u.rows at), λ h e. omega (arith, none, u.freed at v, h))
one_since flags (Reads at (Free w)) all base a u = omega (arith, a.0.2, slot_version all at a.0.0.0, u.rows at)
one_since flags (Reads at (sees.Busy v w)) all base a u = absurd a.0
one_since flags (Loads at v found) all base a u = omega (arith, ap (λ (y : Word). y.version) a.0.1, word_versions flags (sets_of all) at (plain_words flags all a.1), u.words at)
one_since flags (Draws kind ticket) all base a u = tt
one_since flags (Meets versions) all base a u = absurd a.0
one_since flags (Takes at v found) all base a u = omega (arith, a.0.2, slot_version all at a.0.0.0, u.rows at)
one_since flags (Puts at put v) all base a u = omega (arith, a.0.2, slot_version all at a.0.0.0, u.rows at)
one_since flags (Frees at v) all base a u = omega (arith, a.0.2, slot_version all at a.0.0.0, u.rows at)
one_since flags (Sets at to v) all base a u = omega (arith, a.0.1, word_versions flags (sets_of all) at (plain_words flags all a.1), u.words at)
one_since flags (Enters label labels) all base a u = tt
one_since flags Leaves all base a u = tt

since_of : (flags : List ℕ) (calls rest base : List Call) → AllAnswer flags (calls ++ rest) → Under base rest → AreSince (changes_of base) (sets_of base) calls
since_of flags [] rest base a u = tt
since_of flags (call ∷ calls) rest base a u = (one_since flags call (calls ++ rest) base a (under_more base rest calls u), since_of flags calls rest base a.1 u)

under_all : (now before : List (List Call)) → Under (all_calls before) (all_calls (now ++ before))
unfolding all_calls
under_all [] before = record { rows = λ row. omega arith; words = λ at. omega arith; freed = λ row k. omega arith }
under_all (calls ∷ now) before = under_more (all_calls before) (all_calls (now ++ before)) calls (under_all now before)

-- the actors of a phase, after those of the phases before it
pub plain_since : (flags : List ℕ) (now before : List (List Call)) → AllAnswer flags (all_calls (now ++ before)) → AllSince before now
unfolding all_calls
plain_since flags [] before a = tt
plain_since flags (calls ∷ now) before a =
    (since_of flags calls (all_calls (now ++ before)) (all_calls before) a (under_all now before), plain_since flags now before (answers_rest flags calls (all_calls (now ++ before)) a))
