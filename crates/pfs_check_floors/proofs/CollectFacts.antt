-- What is collected of entries, one more.
use Rattle.std.proofs.Common.{◌≡◌, refl, ℕ, ◌+◌, ◌<◌, ◌≤◌, min, Bool, true, false, ◌||◌, cond, nat_lt, List, [], ◌∷◌, ◌++◌, map, sym, ◌∙◌, ap, arith, append_assoc, Option, Some, None}
use Rattle.std.specs.BTreeMap.{BTreeMap, get}
use Rattle.std.proofs.lemmas.Bool.{lt-ltb, ltb-false, ltb-true}
use Rattle.std.proofs.lemmas.Bool.Decides.{nat_tests}
use Rattle.std.proofs.lemmas.List.{append-nil}
use Rattle.pfs_event.specs.declared.entry.Entry.{Entry}
use Rattle.pfs_check_tops.specs.declared.tops.Given.{Given}
use Rattle.pfs_model.proofs.ChainGrowth.{times_append}
use Rattle.pfs_model.specs.declared.changes.Change.{Change}
use Rattle.pfs_model.specs.Chains.{each_of, is_that, release_of, times}
use Rattle.pfs_model.specs.EntryPlaces.{Placed, before_phase}
use Rattle.pfs_check_floors.specs.KeyedGivens.{action_of, by_action, by_phase, given_at, in_action, in_any, keyed, keyed_at, phase_of}
use Rattle.pfs_check_floors.specs.ReleasedRows.{AreFreed, change_cmp, earlier_of, freed_by, was_freed}
use Rattle.pfs_check_floors.proofs.GreatestFacts.{that_is}

keyed_push : (test : Placed → Bool) (key : Placed → ℕ) (given : Entry → List Change) (places : List Placed) (place : Placed)
    → keyed test key given (places ++ place ∷ []) ≡ keyed test key given places ++ keyed_at test key given place
keyed_push test key given [] place = append-nil (keyed_at test key given place)
keyed_push test key given (p ∷ ps) place =
    ap (λ z. keyed_at test key given p ++ z) (keyed_push test key given ps place)
    ∙ sym (append_assoc (keyed_at test key given p) (keyed test key given ps) (keyed_at test key given place))

pub phase_more : (given : Entry → List Change) (places : List Placed) (place : Placed) (phase : ℕ) (cs : List Change) (old new : List Given)
    → place.phase ≡ phase → given place.entry ≡ cs → new ≡ old ++ map (given_at phase) cs → old ≡ by_phase given places
    → new ≡ by_phase given (places ++ place ∷ [])
phase_more given places place phase cs old new p g e b =
    e ∙ ap (λ z. z ++ map (given_at phase) cs) b ∙ ap (λ z. by_phase given places ++ map (given_at z) cs) (sym p)
    ∙ ap (λ z. by_phase given places ++ map (given_at place.phase) z) (sym g) ∙ sym (keyed_push in_any phase_of given places place)

pub action_more : (given : Entry → List Change) (places : List Placed) (place : Placed) (action : ℕ) (cs : List Change) (old new : List Given)
    → place.context.action ≡ action → given place.entry ≡ cs → new ≡ old ++ cond (nat_lt 0 action) (map (given_at action) cs) []
    → old ≡ by_action given places → new ≡ by_action given (places ++ place ∷ [])
action_more given places place action cs old new p g e b =
    e ∙ ap (λ z. z ++ cond (nat_lt 0 action) (map (given_at action) cs) []) b
    ∙ ap (λ z. by_action given places ++ cond (nat_lt 0 z) (map (given_at z) cs) []) (sym p)
    ∙ ap (λ z. by_action given places ++ cond (nat_lt 0 place.context.action) (map (given_at place.context.action) z) []) (sym g)
    ∙ sym (keyed_push in_action action_of given places place)

-- how often a release stands before a phase
abbrev freed_times : Change → ℕ → List Placed → ℕ
freed_times change phase places = times (is_that change) (each_of release_of (before_phase phase places))

abbrev own_times : Change → ℕ → Placed → ℕ
own_times change phase place = cond (nat_lt place.phase phase) (times (is_that change) (release_of place.entry)) 0

before_more : (change : Change) (phase : ℕ) (p : Placed) (ps : List Placed)
    → freed_times change phase (p ∷ ps) ≡ own_times change phase p + freed_times change phase ps
before_more change phase p ps = at (nat_lt p.phase phase) where
  at : (b : Bool) → times (is_that change) (each_of release_of (cond b (p ∷ []) [] ++ before_phase phase ps))
      ≡ cond b (times (is_that change) (release_of p.entry)) 0 + freed_times change phase ps
  at true = times_append (is_that change) (release_of p.entry) (each_of release_of (before_phase phase ps))
  at false = omega arith

push_more : (change : Change) (phase : ℕ) (places : List Placed) (place : Placed)
    → freed_times change phase (places ++ place ∷ []) ≡ freed_times change phase places + own_times change phase place
push_more change phase [] place = before_more change phase place [] ∙ plus (own_times change phase place) where
  plus : (n : ℕ) → n + 0 ≡ 0 + n
  plus n = omega arith
push_more change phase (p ∷ ps) place =
    before_more change phase p (ps ++ place ∷ [])
    ∙ on (own_times change phase p) (freed_times change phase ps) (own_times change phase place) (freed_times change phase (ps ++ place ∷ []))
    (freed_times change phase (p ∷ ps)) (push_more change phase ps place) (before_more change phase p ps) where
      on : (a b c d e : ℕ) → d ≡ b + c → e ≡ a + b → a + d ≡ e + c
      on a b c d e p q = omega (arith, p, q)

none_freed : (change : Change) (phase : ℕ) (place : Placed) → times (is_that change) (release_of place.entry) ≡ 0 → own_times change phase place ≡ 0
none_freed change phase place e = at (nat_lt place.phase phase) where
  at : (b : Bool) → cond b (times (is_that change) (release_of place.entry)) 0 ≡ 0
  at true = e
  at false = refl

-- an entry that releases nothing, or another row
stays_freed : (places : List Placed) (place : Placed) (change : Change) (phase : ℕ) → times (is_that change) (release_of place.entry) ≡ 0
    → was_freed places change phase ≡ was_freed (places ++ place ∷ []) change phase
stays_freed places place change phase e = ap (nat_lt 0) (sym (same (freed_times change phase places) (own_times change phase place)
    (freed_times change phase (places ++ place ∷ [])) (push_more change phase places place) (none_freed change phase place e))) where
      same : (m w n : ℕ) → n ≡ m + w → w ≡ 0 → n ≡ m
      same m w n p q = omega (arith, p, q)

pub freed_same : (freed : BTreeMap Change ℕ) (places : List Placed) (place : Placed) → release_of place.entry ≡ [] → AreFreed places freed
    → AreFreed (places ++ place ∷ []) freed
freed_same freed places place e before change phase =
    before change phase ∙ stays_freed places place change phase (ap (times (is_that change)) e)

earlier_by : (o : Option ℕ) (first n : ℕ) → freed_by (Some (earlier_of o first)) n ≡ (freed_by o n || nat_lt first n)
earlier_by None first n = refl
earlier_by (Some f) first n = at (nat_lt f n) (nat_lt first n) refl refl where
  not_lt : (a b : ℕ) → b ≤ a → nat_lt a b ≡ false
  not_lt a b h = grind (arith, nat_tests)

  at : (a b : Bool) → nat_lt f n ≡ a → nat_lt first n ≡ b → nat_lt (min f first) n ≡ (a || b)
  at true b e g = let low : f < n = ltb-true f n e in lt-ltb (min f first) n (omega (arith, low))
  at false true e g = let low : first < n = ltb-true first n g in lt-ltb (min f first) n (omega (arith, low))
  at false false e g =
      let one : n ≤ f = ltb-false f n e in
      let other : n ≤ first = ltb-false first n g in
      not_lt (min f first) n (omega (arith, one, other))

or_count : (k : ℕ) (b : Bool) → nat_lt 0 (k + cond {A = ℕ} b 1 0) ≡ (nat_lt 0 k || b)
or_count k b = at (nat_lt 0 k) b refl where
  none : (m : ℕ) → m ≤ 0 → nat_lt 0 m ≡ false
  none m h = grind (arith, nat_tests)

  at : (a b : Bool) → nat_lt 0 k ≡ a → nat_lt 0 (k + cond {A = ℕ} b 1 0) ≡ (a || b)
  at true true e = lt-ltb 0 (k + 1) (omega arith)
  at true false e = let some : 0 < k = ltb-true 0 k e in lt-ltb 0 (k + 0) (omega (arith, some))
  at false true e = lt-ltb 0 (k + 1) (omega arith)
  at false false e = let low : k ≤ 0 = ltb-false 0 k e in none (k + 0) (omega (arith, low))

-- and one that releases this
pub freed_more : (old new : BTreeMap Change ℕ) (places : List Placed) (place : Placed) (first : ℕ) (release : Change) → place.phase ≡ first
    → release_of place.entry ≡ release ∷ []
    → ((change : Change) → get change_cmp new change ≡ cond (is_that change release) (Some (earlier_of (get change_cmp old release) first)) (get change_cmp old change))
    → AreFreed places old → AreFreed (places ++ place ∷ []) new
freed_more old new places place first release p r step before change phase =
    ap (λ z. freed_by z phase) (step change) ∙ on (is_that change release) refl where
      one : times (is_that change) (release_of place.entry) ≡ cond {A = ℕ} (is_that change release) 1 0 + 0
      one = ap (times (is_that change)) r

      here : is_that change release ≡ true → freed_times change phase (places ++ place ∷ []) ≡ freed_times change phase places + cond {A = ℕ} (nat_lt first phase) 1 0
      here e =
          push_more change phase places place
          ∙ ap (λ z. freed_times change phase places + cond (nat_lt place.phase phase) z 0) (one ∙ ap (λ z. cond {A = ℕ} z 1 0 + 0) e)
          ∙ ap (λ z. freed_times change phase places + cond {A = ℕ} (nat_lt z phase) 1 0) p

      on : (b : Bool) → is_that change release ≡ b
          → freed_by (cond b (Some (earlier_of (get change_cmp old release) first)) (get change_cmp old change)) phase ≡ was_freed (places ++ place ∷ []) change phase
      on false e = before change phase ∙ stays_freed places place change phase (one ∙ ap (λ z. cond {A = ℕ} z 1 0 + 0) e)
      on true e =
          ap (λ z. freed_by (Some (earlier_of (get change_cmp old z) first)) phase) (that_is change release e)
          ∙ earlier_by (get change_cmp old change) first phase
          ∙ ap (λ z. z || nat_lt first phase) (before change phase)
          ∙ sym (or_count (freed_times change phase places) (nat_lt first phase))
          ∙ sym (ap (nat_lt 0) (here e))
