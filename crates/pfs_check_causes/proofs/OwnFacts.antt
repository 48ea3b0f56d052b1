-- What each session made itself, and what others made.
use Rattle.std.proofs.Common.{◌≡◌, refl, ℕ, ◌+◌, ◌<◌, ◌≤◌, ◌==◌, max, Bool, true, false, not, ◌&&◌, cond, nat_lt, nat_le, List, [], ◌∷◌, ◌++◌, sym, ◌∙◌, ap, subst, arith}
use Rattle.std.proofs.lemmas.Bool.{leb-false, leb-true, lt-ltb, ltb-false, ltb-true}
use Rattle.std.specs.BTreeSet.{BTreeSet, contains}
use Rattle.pfs_event.specs.declared.entry.Entry.{Entry}
use Rattle.pfs_model.proofs.ChainGrowth.{times_append}
use Rattle.pfs_model.specs.declared.changes.Change.{Change}
use Rattle.pfs_model.specs.Causes.{IsOthers, by_others}
use Rattle.pfs_model.specs.Chains.{AreChained, change_at, each_of, is_of, is_that, row_change, times}
use Rattle.pfs_model.specs.EntryPlaces.{Placed, by_session, chosen, up_to_phase}
use Rattle.pfs_check_floors.proofs.GreatestFacts.{among_times, some_times, that_self}
use Rattle.pfs_check_floors.specs.KnownFloors.{Tells, had_by}
use Rattle.pfs_check_causes.specs.declared.own.OwnChange.{OwnChange}
use Rattle.pfs_check_causes.specs.OwnVersions.{AreOwn, is_same_own, own_at, own_cmp, was_made}

-- how often a test holds of what chosen entries give
abbrev pub count : (Change → Bool) → (Entry → List Change) → (Placed → Bool) → List Placed → ℕ
count test given choice ps = times test (each_of given (chosen choice ps))

pub count_more : (test : Change → Bool) (given : Entry → List Change) (choice : Placed → Bool) (p : Placed) (ps : List Placed)
    → count test given choice (p ∷ ps) ≡ cond (choice p) (times test (given p.entry)) 0 + count test given choice ps
count_more test given choice p ps = at (choice p) where
  at : (b : Bool) → times test (each_of given (cond b (p ∷ []) [] ++ chosen choice ps))
      ≡ cond b (times test (given p.entry)) 0 + count test given choice ps
  at true = times_append test (given p.entry) (each_of given (chosen choice ps))
  at false = omega arith

pub count_push : (test : Change → Bool) (given : Entry → List Change) (choice : Placed → Bool) (ps : List Placed) (p : Placed)
    → count test given choice (ps ++ p ∷ []) ≡ count test given choice ps + cond (choice p) (times test (given p.entry)) 0
count_push test given choice [] p = count_more test given choice p [] ∙ plus (cond (choice p) (times test (given p.entry)) 0) where
  plus : (n : ℕ) → n + 0 ≡ 0 + n
  plus n = omega arith
count_push test given choice (q ∷ qs) p =
    count_more test given choice q (qs ++ p ∷ [])
    ∙ ap (λ z. cond (choice q) (times test (given q.entry)) 0 + z) (count_push test given choice qs p)
    ∙ group (cond (choice q) (times test (given q.entry)) 0) (count test given choice qs) (cond (choice p) (times test (given p.entry)) 0)
    ∙ ap (λ z. z + cond (choice p) (times test (given p.entry)) 0) (sym (count_more test given choice q qs)) where
      group : (a b c : ℕ) → a + (b + c) ≡ (a + b) + c
      group a b c = omega arith

-- the changes of a session, and those of the others
pub shared : (test : Change → Bool) (given : Entry → List Change) (session : ℕ) (ps : List Placed)
    → times test (each_of given ps) ≡ times test (each_of given (by_session session ps)) + times test (each_of given (by_others session ps))
shared test given session [] = refl
shared test given session (p ∷ ps) =
    times_append test (given p.entry) (each_of given ps)
    ∙ ap (λ z. times test (given p.entry) + z) (shared test given session ps)
    ∙ at (p.session == session) (times test (given p.entry)) (times test (each_of given (by_session session ps))) (times test (each_of given (by_others session ps)))
    ∙ ap (λ z. z + (cond (not (p.session == session)) (times test (given p.entry)) 0 + times test (each_of given (by_others session ps))))
    (sym (count_more test given (λ q. q.session == session) p ps))
    ∙ ap (λ z. times test (each_of given (by_session session (p ∷ ps))) + z) (sym (count_more test given (λ q. not (q.session == session)) p ps)) where
      at : (b : Bool) (n own others : ℕ) → n + (own + others) ≡ (cond b n 0 + own) + (cond (not b) n 0 + others)
      at true n own others = omega arith
      at false n own others = omega arith

-- up to a phase's end there are no more
pub count_within : (test : Change → Bool) (given : Entry → List Change) (choice : Placed → Bool) (phase : ℕ) (ps : List Placed)
    → count test given choice (up_to_phase phase ps) ≤ count test given choice ps
count_within test given choice phase [] = omega arith
count_within test given choice phase (p ∷ ps) = at (nat_le p.phase phase) (count_within test given choice phase ps) where
  at : (b : Bool) → count test given choice (up_to_phase phase ps) ≤ count test given choice ps
      → count test given choice (cond b (p ∷ []) [] ++ up_to_phase phase ps) ≤ count test given choice (p ∷ ps)
  at true h = omega (arith, h, count_more test given choice p (up_to_phase phase ps), count_more test given choice p ps)
  at false h = omega (arith, h, count_more test given choice p ps)

last_phase : List Placed → ℕ
last_phase [] = 0
last_phase (p ∷ ps) = max p.phase (last_phase ps)

up_to_last : (phase : ℕ) (ps : List Placed) → last_phase ps ≤ phase → up_to_phase phase ps ≡ ps
unfolding last_phase
up_to_last phase [] h = refl
up_to_last phase (p ∷ ps) h = at (nat_le p.phase phase) refl (up_to_last phase ps (omega (arith, h))) where
  at : (b : Bool) → nat_le p.phase phase ≡ b → up_to_phase phase ps ≡ ps → cond b (p ∷ []) [] ++ up_to_phase phase ps ≡ p ∷ ps
  at true e s = ap (λ z. p ∷ z) s
  at false e s = absurd (omega (arith, leb-false p.phase phase e, h))

bit_most : (b : Bool) → cond {A = ℕ} b 1 0 ≤ 1
bit_most true = omega arith
bit_most false = omega arith

-- of a chain each change stands at most once
pub once : (given : Entry → List Change) (all : List Placed) (c : Change) → AreChained given all → times (is_that c) (each_of given all) ≤ 1
once given all c chained =
    let whole : up_to_phase (last_phase all) all ≡ all = up_to_last (last_phase all) all (omega arith) in
    let is : times (is_that c) (each_of given (up_to_phase (last_phase all) all))
    ≡ cond (nat_lt 0 c.version && nat_le c.version (times (is_of c.row) (each_of given (up_to_phase (last_phase all) all)))) 1 0 = chained (last_phase all) c in
    subst (λ z. times (is_that c) (each_of given z) ≤ 1) whole
    (subst (λ z. z ≤ 1) (sym is)
    (bit_most (nat_lt 0 c.version && nat_le c.version (times (is_of c.row) (each_of given (up_to_phase (last_phase all) all))))))

-- a change that the row has by the phase's end stands up to there
pub stands : (given : Entry → List Change) (all : List Placed) (phase : ℕ) (c : Change) → AreChained given all → 0 < c.version
    → c.version ≤ had_by given all phase c.row → times (is_that c) (each_of given (up_to_phase phase all)) ≡ 1
stands given all phase c chained p h =
    chained phase c ∙ at (nat_lt 0 c.version) (nat_le c.version (had_by given all phase c.row)) refl refl where
      at : (x y : Bool) → nat_lt 0 c.version ≡ x → nat_le c.version (had_by given all phase c.row) ≡ y → cond {A = ℕ} (x && y) 1 0 ≡ 1
      at true true e f = refl
      at true false e f = absurd (omega (arith, h, leb-false c.version (had_by given all phase c.row) f))
      at false y e f = absurd (omega (arith, p, ltb-false 0 c.version e))

-- and one that stands up to there the row has by then
had_least : (given : Entry → List Change) (all : List Placed) (phase : ℕ) (c : Change) → AreChained given all
    → 0 < times (is_that c) (each_of given (up_to_phase phase all)) → c.version ≤ had_by given all phase c.row
had_least given all phase c chained some =
    at (nat_lt 0 c.version) (nat_le c.version (had_by given all phase c.row)) refl (subst (λ z. 0 < z) (chained phase c) some) where
      at : (x y : Bool) → nat_le c.version (had_by given all phase c.row) ≡ y → 0 < cond {A = ℕ} (x && y) 1 0 → c.version ≤ had_by given all phase c.row
      at true true f s = leb-true c.version (had_by given all phase c.row) f
      at true false f s = absurd (omega (arith, s))
      at false y f s = absurd (omega (arith, s))

-- how often the session made it
abbrev own_count : List Placed → Placed → Change → ℕ
own_count all place c = times (is_that c) (each_of row_change (by_session place.session all))

-- what the session made itself no other made
pub not_own : (all : List Placed) (place : Placed) (row version : ℕ) → AreChained row_change all
    → 0 < own_count all place (change_at row version) → IsOthers all place row version → ⊥
not_own all place row version chained own others =
    let c : Change = change_at row version in
    let some : 0 < times (is_that c) (each_of row_change (by_others place.session (up_to_phase place.phase all))) =
    some_times (is_that c) c (each_of row_change (by_others place.session (up_to_phase place.phase all))) others (that_self c) in
    omega (
      arith,
      own,
      some,
      once row_change all c chained,
      shared (is_that c) row_change place.session all,
      count_within (is_that c) row_change (λ q. not (q.session == place.session)) place.phase all,
    )

-- what it did not make another made
pub by_another : (all : List Placed) (place : Placed) (row version : ℕ) → AreChained row_change all → 0 < version
    → version ≤ had_by row_change all place.phase row → own_count all place (change_at row version) ≡ 0 → IsOthers all place row version
by_another all place row version chained p h own =
    let c : Change = change_at row version in
    among_times c (each_of row_change (by_others place.session (up_to_phase place.phase all)))
    (omega (
      arith,
      own,
      stands row_change all place.phase c chained p h,
      shared (is_that c) row_change place.session (up_to_phase place.phase all),
      count_within (is_that c) row_change (λ q. q.session == place.session) place.phase all,
    ))

-- another's change the row has by the phase's end
pub others_had : (all : List Placed) (place : Placed) (row version : ℕ) → AreChained row_change all → IsOthers all place row version
    → version ≤ had_by row_change all place.phase row
others_had all place row version chained others =
    let c : Change = change_at row version in
    let some : 0 < times (is_that c) (each_of row_change (by_others place.session (up_to_phase place.phase all))) =
    some_times (is_that c) c (each_of row_change (by_others place.session (up_to_phase place.phase all))) others (that_self c) in
    had_least row_change all place.phase c chained
    (omega (arith, some, shared (is_that c) row_change place.session (up_to_phase place.phase all)))

pub made_own : (all : List Placed) (place : Placed) (row version : ℕ) (b : Bool) → b ≡ was_made all (own_at place.session row version)
    → b ≡ true → 0 < own_count all place (change_at row version)
made_own all place row version b e t = ltb-true 0 (own_count all place (change_at row version)) (sym e ∙ t)

pub made_none : (all : List Placed) (place : Placed) (row version : ℕ) (b : Bool) → b ≡ was_made all (own_at place.session row version)
    → b ≡ false → own_count all place (change_at row version) ≡ 0
made_none all place row version b e t =
    omega (arith, ltb-false 0 (own_count all place (change_at row version)) (sym e ∙ t))

-- whether another made it, told by what the session made itself
pub others_tell : (all : List Placed) (place : Placed) (row version had : ℕ) (own b : Bool) → AreChained row_change all → 0 < version
    → had ≡ had_by row_change all place.phase row → own ≡ was_made all (own_at place.session row version)
    → b ≡ (nat_le version had && not own) → Tells (IsOthers all place row version) b
others_tell all place row version had own b chained p h e is =
    subst (Tells (IsOthers all place row version)) (sym is) (at (nat_le version had) own refl e) where
      at : (x y : Bool) → nat_le version had ≡ x → y ≡ was_made all (own_at place.session row version) → Tells (IsOthers all place row version) (x && not y)
      at true true f m = λ others. not_own all place row version chained (made_own all place row version true m refl) others
      at true false f m = by_another all place row version chained p (omega (arith, h, leb-true version had f)) (made_none all place row version false m refl)
      at false y f m = λ others. omega (arith, h, leb-false version had f, others_had all place row version chained others)

-- one entry more
pub own_more : (old new : BTreeSet OwnChange) (places : List Placed) (place : Placed) (session : ℕ) (change : Change) → place.session ≡ session
    → row_change place.entry ≡ change ∷ []
    → ((one : OwnChange) → contains own_cmp new one
    ≡ cond (is_same_own (own_at session change.row change.version) one) true (contains own_cmp old one))
    → AreOwn places old → AreOwn (places ++ place ∷ []) new
own_more old new places place session change s g step before one =
    let c : Change = change_at one.row one.version in
    step one
    ∙ ap (cond (is_same_own (own_at session change.row change.version) one) true) (before one)
    ∙ at (session == one.session) (is_that c change) (times (is_that c) (each_of row_change (by_session one.session places)))
    ∙ ap (λ z. nat_lt 0 (times (is_that c) (each_of row_change (by_session one.session places)) + cond (z == one.session) (times (is_that c) (change ∷ [])) 0)) (sym s)
    ∙ ap (λ z. nat_lt 0 (times (is_that c) (each_of row_change (by_session one.session places)) + cond (place.session == one.session) (times (is_that c) z) 0)) (sym g)
    ∙ ap (nat_lt 0) (sym (count_push (is_that c) row_change (λ q. q.session == one.session) places place)) where
      some : (n : ℕ) → true ≡ nat_lt 0 (n + (1 + 0))
      some n = sym (lt-ltb 0 (n + (1 + 0)) (omega arith))

      same : (n k : ℕ) → k ≡ 0 → nat_lt 0 n ≡ nat_lt 0 (n + k)
      same n k e = ap (nat_lt 0) (omega (arith, e))

      at : (x y : Bool) (n : ℕ) → cond (x && y) true (nat_lt 0 n) ≡ nat_lt 0 (n + cond x (cond y 1 0 + 0) 0)
      at true true n = some n
      at true false n = same n (0 + 0) (omega arith)
      at false y n = same n 0 refl

pub own_same : (made : BTreeSet OwnChange) (places : List Placed) (place : Placed) → row_change place.entry ≡ []
    → AreOwn places made → AreOwn (places ++ place ∷ []) made
own_same made places place g before one =
    let c : Change = change_at one.row one.version in
    before one
    ∙ at (place.session == one.session) (times (is_that c) (each_of row_change (by_session one.session places)))
    ∙ ap (λ z. nat_lt 0 (times (is_that c) (each_of row_change (by_session one.session places)) + cond (place.session == one.session) (times (is_that c) z) 0)) (sym g)
    ∙ ap (nat_lt 0) (sym (count_push (is_that c) row_change (λ q. q.session == one.session) places place)) where
      same : (n k : ℕ) → k ≡ 0 → nat_lt 0 n ≡ nat_lt 0 (n + k)
      same n k e = ap (nat_lt 0) (omega (arith, e))

      at : (x : Bool) (n : ℕ) → nat_lt 0 n ≡ nat_lt 0 (n + cond x 0 0)
      at true n = same n 0 refl
      at false n = same n 0 refl
