-- What is added for a row is what it was offered: nothing is lost or doubled while a session holds it.
use Rattle.std.proofs.Common.{◌≡◌, refl, ℕ, ◌+◌, ◌==◌, ◌&&◌, Bool, true, false, cond, List, [], ◌∷◌, ◌++◌, map, Option, Some, None, count_by, sym, ap, subst, ◌∙◌, inl, inr, arith}
use Rattle.std.proofs.lemmas.List.Sums.{sum_by-cons}
use Rattle.std.proofs.lemmas.Bool.{eqb-true}
use Rattle.pfs_lemmas.proofs.Numbers.{zero_plus}
use Rattle.pfs_conservation.specs.PrintedChanges.{Tagged, times_in, times_added}
use Rattle.pfs_event.specs.declared.entry.Entry.{Entry}
use Rattle.pfs_event.specs.declared.entry.Entry.TheVariants as says
use Rattle.pfs_model.specs.Chains.{times}
use Rattle.pfs_model.specs.Contexts.{Context, Waiting, held_for, held_else, own_event, own_wait, brought, subject_of, noted}
use Rattle.pfs_model.specs.EntryPlaces.{Placed}
use Rattle.pfs_model.specs.declared.lines.Opened.{Opened}
use Rattle.pfs_model.proofs.ChainGrowth.{times_append}
use Rattle.pfs_law_conservation.specs.RunEvents.{event_number}
use Rattle.pfs_law_conservation.specs.KindLines.{brought_by, lines_at, all_lines, lines_on}
use Rattle.pfs_law_conservation.proofs.EntryWalk.{Comes, Follow, then_told, told_to}
use Rattle.pfs_law_conservation.proofs.EventNumbers.{number_is, opened_at}
use Rattle.pfs_law_conservation.proofs.EventOffers.{feeds_at, is_index, offers, offered}
use Rattle.pfs_law_conservation.proofs.RowLines.{bit_no, apart_of}

-- an event of this position is held for a row
abbrev pub waits_at : ℕ → ℕ → Waiting → Bool
waits_at index row one = (one.row == row) && (one.event.index == index)

abbrev pub times_waiting : ℕ → ℕ → List Waiting → ℕ
times_waiting index row waiting = times (waits_at index row) waiting

count_cons : (n x : ℕ) (xs : List ℕ) → count_by (λ y. y == n) (x ∷ xs) ≡ cond (x == n) 1 0 + count_by (λ y. y == n) xs
count_cons n x xs = sum_by-cons (λ y. cond (y == n) 1 0) x xs

pub added_then : (n row : ℕ) (xs ys : List Tagged) → times_added n (xs ++ ys) row ≡ times_added n xs row + times_added n ys row
added_then n row [] ys = omega arith
added_then n row (x ∷ xs) ys = (let e : times_added n (xs ++ ys) row ≡ times_added n xs row + times_added n ys row = added_then n row xs ys in omega (arith, e))

module _ (session index : ℕ) where
  -- events by their numbers
  pub numbers_own : (events : List Opened) → count_by (λ y. y == event_number session index) (map (λ (event : Opened). event_number session event.index) events) ≡ opened_at index events
  numbers_own [] = refl
  numbers_own (event ∷ events) =
      let c : count_by (λ y. y == event_number session index) (event_number session event.index ∷ map (λ (e : Opened). event_number session e.index) events)
      ≡ cond (event_number session event.index == event_number session index) 1 0 + count_by (λ y. y == event_number session index) (map (λ (e : Opened). event_number session e.index) events)
      = count_cons (event_number session index) (event_number session event.index) (map (λ (e : Opened). event_number session e.index) events) in
      let s : cond {A = ℕ} (event_number session event.index == event_number session index) 1 0 ≡ cond {A = ℕ} (event.index == index) 1 0
      = ap (λ b. cond {A = ℕ} b 1 0) (number_is session event.index session index ∙ ap (λ b. b && (event.index == index)) (self session)) in
      let ih : count_by (λ y. y == event_number session index) (map (λ (e : Opened). event_number session e.index) events) ≡ opened_at index events = numbers_own events in
      omega (arith, c, s, ih) where
        self : (n : ℕ) → (n == n) ≡ true
        self n = grind arith

  pub numbers_other : (other : ℕ) → (other == session) ≡ false → (events : List Opened) → count_by (λ y. y == event_number session index) (map (λ (event : Opened). event_number other event.index) events) ≡ 0
  numbers_other other n [] = refl
  numbers_other other n (event ∷ events) =
      let c : count_by (λ y. y == event_number session index) (event_number other event.index ∷ map (λ (e : Opened). event_number other e.index) events)
      ≡ cond (event_number other event.index == event_number session index) 1 0 + count_by (λ y. y == event_number session index) (map (λ (e : Opened). event_number other e.index) events)
      = count_cons (event_number session index) (event_number other event.index) (map (λ (e : Opened). event_number other e.index) events) in
      let s : cond {A = ℕ} (event_number other event.index == event_number session index) 1 0 ≡ 0
      = bit_no (event_number other event.index == event_number session index) (number_is other event.index session index ∙ ap (λ b. b && (event.index == index)) n) in
      let ih : count_by (λ y. y == event_number session index) (map (λ (e : Opened). event_number other e.index) events) ≡ 0 = numbers_other other n events in
      omega (arith, c, s, ih)

  -- what is held for a row, and for others
  held_count : (row : ℕ) (waiting : List Waiting) → opened_at index (held_for row waiting) ≡ times_waiting index row waiting
  held_count row [] = refl
  held_count row (one ∷ others) = at (one.row == row) (held_count row others) where
    at : (b : Bool) → opened_at index (held_for row others) ≡ times_waiting index row others
        → opened_at index (cond b (one.event ∷ []) [] ++ held_for row others) ≡ cond {A = ℕ} (b && (one.event.index == index)) 1 0 + times_waiting index row others
    at true e = ap (λ n. cond {A = ℕ} (one.event.index == index) 1 0 + n) e
    at false e = (omega (arith, e))

  else_other : (at row : ℕ) → (at == row) ≡ false → (waiting : List Waiting) → times_waiting index row (held_else at waiting) ≡ times_waiting index row waiting
  else_other at row n [] = refl
  else_other at row n (one ∷ others) = on (one.row == at) refl (else_other at row n others) where
    apart : (a b c : ℕ) → (a == b) ≡ true → (b == c) ≡ false → (a == c) ≡ false
    apart a b c p q = grind (arith, p, q)

    on : (b : Bool) → (one.row == at) ≡ b → times_waiting index row (held_else at others) ≡ times_waiting index row others
        → times_waiting index row (cond b [] (one ∷ []) ++ held_else at others) ≡ cond {A = ℕ} ((one.row == row) && (one.event.index == index)) 1 0 + times_waiting index row others
    on true q e = (let z : cond {A = ℕ} ((one.row == row) && (one.event.index == index)) 1 0 ≡ 0 = ap (λ b. cond {A = ℕ} (b && (one.event.index == index)) 1 0) (apart one.row at row q n) in omega (arith, z, e))
    on false q e = ap (λ n. cond {A = ℕ} ((one.row == row) && (one.event.index == index)) 1 0 + n) e

  else_own : (row : ℕ) (waiting : List Waiting) → times_waiting index row (held_else row waiting) ≡ 0
  else_own row [] = refl
  else_own row (one ∷ others) = on (one.row == row) refl (else_own row others) where
    on : (b : Bool) → (one.row == row) ≡ b → times_waiting index row (held_else row others) ≡ 0 → times_waiting index row (cond b [] (one ∷ []) ++ held_else row others) ≡ 0
    on true q e = e
    on false q e = (let z : cond {A = ℕ} ((one.row == row) && (one.event.index == index)) 1 0 ≡ 0 = ap (λ b. cond {A = ℕ} (b && (one.event.index == index)) 1 0) q in omega (arith, z, e))

  own_index : (o : Option Opened) → opened_at index (own_event o) ≡ cond {A = ℕ} (is_index index o) 1 0
  own_index None = refl
  own_index (Some event) = plus_zero (cond (event.index == index) 1 0) where
    plus_zero : (n : ℕ) → n + 0 ≡ n
    plus_zero n = omega arith

  -- one entry of the session
  added_own : (row : ℕ) (p : Placed) → (p.session == session) ≡ true → (e : Entry) → p.entry ≡ e
      → times_added (event_number session index) (lines_at p e) row + times_waiting index row (noted (subject_of p.line) p.context e).waiting
      ≡ cond {A = ℕ} (offers session index row p) 1 0 + times_waiting index row p.context.waiting
  added_own row p own e q = by e q where
    silent : (e : Entry) → p.entry ≡ e → feeds_at row e ≡ false → cond {A = ℕ} (offers session index row p) 1 0 ≡ 0
    silent e q f = bit_no (offers session index row p) (ap (λ z. z && (feeds_at row p.entry && is_index index p.context.ended)) own ∙ ap (λ z. z && is_index index p.context.ended) (ap (feeds_at row) q ∙ f))

    kept : (e : Entry) → p.entry ≡ e → feeds_at row e ≡ false → 0 + times_waiting index row p.context.waiting ≡ cond {A = ℕ} (offers session index row p) 1 0 + times_waiting index row p.context.waiting
    kept e q f = ap (λ n. n + times_waiting index row p.context.waiting) (sym (silent e q f))

    moved : (r : ℕ) (e : Entry) → p.entry ≡ e → feeds_at row e ≡ false → (b : Bool) → (cond {A = ℕ} b 0 0 + 0) + times_waiting index row p.context.waiting ≡ cond {A = ℕ} (offers session index row p) 1 0 + times_waiting index row p.context.waiting
    moved r e q f true = kept e q f
    moved r e q f false = kept e q f

    offering : (e : Entry) (b : Bool) → p.entry ≡ e → feeds_at row e ≡ b → cond {A = ℕ} (offers session index row p) 1 0 ≡ cond {A = ℕ} (b && is_index index p.context.ended) 1 0
    offering e b q f = ap (λ z. cond {A = ℕ} (z && (feeds_at row p.entry && is_index index p.context.ended)) 1 0) own ∙ ap (λ z. cond {A = ℕ} (z && is_index index p.context.ended) 1 0) (ap (feeds_at row) q ∙ f)

    Goal : Entry → Type 0
    Goal e = times_added (event_number session index) (lines_at p e) row + times_waiting index row (noted (subject_of p.line) p.context e).waiting ≡ cond {A = ℕ} (offers session index row p) 1 0 + times_waiting index row p.context.waiting

    numbers : (r : ℕ) → count_by (λ y. y == event_number session index) (brought_by p r) ≡ cond {A = ℕ} (is_index index p.context.ended) 1 0 + times_waiting index r p.context.waiting
    numbers r =
        let s : count_by (λ y. y == event_number session index) (brought_by p r) ≡ count_by (λ y. y == event_number session index) (map (λ (e : Opened). event_number session e.index) (brought p.context r))
        = ap (λ s. count_by (λ y. y == event_number session index) (map (λ (e : Opened). event_number s e.index) (brought p.context r))) (eqb-true p.session session own) in
        let n : count_by (λ y. y == event_number session index) (map (λ (e : Opened). event_number session e.index) (brought p.context r)) ≡ opened_at index (brought p.context r) = numbers_own (brought p.context r) in
        let j : opened_at index (brought p.context r) ≡ opened_at index (own_event p.context.ended) + opened_at index (held_for r p.context.waiting) = times_append (λ (event : Opened). event.index == index) (own_event p.context.ended) (held_for r p.context.waiting) in
        let o : opened_at index (own_event p.context.ended) ≡ cond {A = ℕ} (is_index index p.context.ended) 1 0 = own_index p.context.ended in
        let h : opened_at index (held_for r p.context.waiting) ≡ times_waiting index r p.context.waiting = held_count r p.context.waiting in
        omega (arith, s, n, j, o, h)

    adds : (r v : ℕ) (b : Bool) → (r == row) ≡ b → p.entry ≡ says.Add r v
        → (cond b (count_by (λ y. y == event_number session index) (brought_by p r)) 0 + 0) + times_waiting index row (held_else r p.context.waiting) ≡ cond {A = ℕ} (offers session index row p) 1 0 + times_waiting index row p.context.waiting
    adds r v true q is =
        let n : count_by (λ y. y == event_number session index) (brought_by p r) ≡ cond {A = ℕ} (is_index index p.context.ended) 1 0 + times_waiting index r p.context.waiting = numbers r in
        let z : times_waiting index row (held_else r p.context.waiting) ≡ 0 = subst (λ k. times_waiting index row (held_else k p.context.waiting) ≡ 0) (sym (eqb-true r row q)) (else_own row p.context.waiting) in
        let w : times_waiting index r p.context.waiting ≡ times_waiting index row p.context.waiting = ap (λ k. times_waiting index k p.context.waiting) (eqb-true r row q) in
        let o : cond {A = ℕ} (offers session index row p) 1 0 ≡ cond {A = ℕ} (is_index index p.context.ended) 1 0 = offering (says.Add r v) true is q in
        omega (arith, n, z, w, o)
    adds r v false q is =
        let z : times_waiting index row (held_else r p.context.waiting) ≡ times_waiting index row p.context.waiting = else_other r row q p.context.waiting in
        let o : cond {A = ℕ} (offers session index row p) 1 0 ≡ 0 = offering (says.Add r v) false is q in
        omega (arith, z, o)

    holds : (r first second : ℕ) (o : Option Opened) → p.context.ended ≡ o → p.entry ≡ says.Held r first second
        → 0 + times_waiting index row (own_wait r o ++ p.context.waiting) ≡ cond {A = ℕ} (offers session index row p) 1 0 + times_waiting index row p.context.waiting
    holds r first second None e is =
        let o : cond {A = ℕ} (offers session index row p) 1 0 ≡ cond {A = ℕ} ((r == row) && is_index index p.context.ended) 1 0 = offering (says.Held r first second) (r == row) is refl in
        let n : cond {A = ℕ} ((r == row) && is_index index p.context.ended) 1 0 ≡ 0 = bit_no ((r == row) && is_index index p.context.ended) (ap (λ (z : Option Opened). (r == row) && is_index index z) e ∙ none (r == row)) in
        omega (arith, o, n) where
          none : (b : Bool) → b && false ≡ false
          none true = refl
          none false = refl
    holds r first second (Some event) e is =
        let o : cond {A = ℕ} (offers session index row p) 1 0 ≡ cond {A = ℕ} ((r == row) && is_index index p.context.ended) 1 0 = offering (says.Held r first second) (r == row) is refl in
        let n : cond {A = ℕ} ((r == row) && is_index index p.context.ended) 1 0 ≡ cond {A = ℕ} ((r == row) && (event.index == index)) 1 0 = ap (λ (z : Option Opened). cond {A = ℕ} ((r == row) && is_index index z) 1 0) e in
        omega (arith, o, n)

    by : (e : Entry) → p.entry ≡ e → Goal e
    by (says.Add r v) q = adds r v (r == row) refl q
    by (says.Held r first second) q = holds r first second p.context.ended refl q
    by (says.Take r v) q = moved r (says.Take r v) q refl (r == row)
    by (says.Give r v from) q = moved r (says.Give r v from) q refl (r == row)
    by (says.Connect action thread account user host) q = kept (says.Connect action thread account user host) q refl
    by (says.Start event verdict consumers thread class table) q = kept (says.Start event verdict consumers thread class table) q refl
    by (says.End event last consumers thread) q = kept (says.End event last consumers thread) q refl
    by says.Settle q = kept says.Settle q refl
    by (says.Act action) q = kept (says.Act action) q refl
    by e q = kept e q refl

  -- and of another
  added_other : (row : ℕ) (p : Placed) → (p.session == session) ≡ false → (e : Entry) → times_added (event_number session index) (lines_at p e) row ≡ 0
  added_other row p other (says.Add r v) = at (r == row) where
    at : (b : Bool) → cond b (count_by (λ y. y == event_number session index) (brought_by p r)) 0 + 0 ≡ 0
    at true = (let z : count_by (λ y. y == event_number session index) (brought_by p r) ≡ 0 = numbers_other p.session other (brought p.context r) in omega (arith, z))
    at false = refl
  added_other row p other (says.Take r v) = at (r == row) where
    at : (b : Bool) → cond {A = ℕ} b 0 0 + 0 ≡ 0
    at true = refl
    at false = refl
  added_other row p other (says.Give r v from) = at (r == row) where
    at : (b : Bool) → cond {A = ℕ} b 0 0 + 0 ≡ 0
    at true = refl
    at false = refl
  added_other row p other _ = refl

  -- all entries
  pub added_offered : (row : ℕ) (c : Context) (ps : List Placed) → Follow session c ps
      → times_added (event_number session index) (all_lines ps) row + times_waiting index row (told_to session c ps).waiting ≡ offered session index row ps + times_waiting index row c.waiting
  added_offered row c [] f = refl
  added_offered row c (p ∷ ps) f = at (p.session == session) refl f.0 (added_offered row (then_told session c p) ps f.1) where
    ended : Context → ℕ
    ended d = times_waiting index row (told_to session d ps).waiting

    joined : times_added (event_number session index) (lines_at p p.entry ++ all_lines ps) row ≡ times_added (event_number session index) (lines_at p p.entry) row + times_added (event_number session index) (all_lines ps) row
    joined = added_then (event_number session index) row (lines_at p p.entry) (all_lines ps)

    same_waiting : (d : Context) → Comes c d → d.waiting ≡ c.waiting
    same_waiting d (inl e) = ap (λ (z : Context). z.waiting) e
    same_waiting d (inr e) = ap (λ (z : Context). z.waiting) e

    at : (b : Bool) → (p.session == session) ≡ b → ((p.session == session) ≡ true → Comes c p.context)
        → times_added (event_number session index) (all_lines ps) row + ended (cond b (noted (subject_of p.line) p.context p.entry) c) ≡ offered session index row ps + times_waiting index row (cond b (noted (subject_of p.line) p.context p.entry) c).waiting
        → times_added (event_number session index) (lines_at p p.entry ++ all_lines ps) row + ended (cond b (noted (subject_of p.line) p.context p.entry) c) ≡ (cond {A = ℕ} (offers session index row p) 1 0 + offered session index row ps) + times_waiting index row c.waiting
    at true q comes ih =
        let one : times_added (event_number session index) (lines_at p p.entry) row + times_waiting index row (noted (subject_of p.line) p.context p.entry).waiting ≡ cond {A = ℕ} (offers session index row p) 1 0 + times_waiting index row p.context.waiting = added_own row p q p.entry refl in
        let w : times_waiting index row p.context.waiting ≡ times_waiting index row c.waiting = ap (times_waiting index row) (same_waiting p.context (comes q)) in
        let j : times_added (event_number session index) (lines_at p p.entry ++ all_lines ps) row ≡ times_added (event_number session index) (lines_at p p.entry) row + times_added (event_number session index) (all_lines ps) row = joined in
        omega (arith, ih, one, w, j)
    at false q comes ih =
        let none : times_added (event_number session index) (lines_at p p.entry) row ≡ 0 = added_other row p q p.entry in
        let o : cond {A = ℕ} (offers session index row p) 1 0 ≡ 0 = bit_no (offers session index row p) (ap (λ z. z && (feeds_at row p.entry && is_index index p.context.ended)) q) in
        let j : times_added (event_number session index) (lines_at p p.entry ++ all_lines ps) row ≡ times_added (event_number session index) (lines_at p p.entry) row + times_added (event_number session index) (all_lines ps) row = joined in
        omega (arith, ih, none, o, j)

-- of rows that pass a test
pub added_on : (test : ℕ → Bool) (n row : ℕ) (lines : List Tagged) → test row ≡ true → times_added n (lines_on test lines) row ≡ times_added n lines row
added_on test n row [] t = refl
added_on test n row (line ∷ lines) t = at (test line.row) refl (added_on test n row lines t) where
  at : (b : Bool) → test line.row ≡ b → times_added n (lines_on test lines) row ≡ times_added n lines row → times_added n (cond b (line ∷ []) [] ++ lines_on test lines) row ≡ cond (line.row == row) (times_in n line.kind) 0 + times_added n lines row
  at true q e = ap (λ k. cond (line.row == row) (times_in n line.kind) 0 + k) e
  at false q e = e ∙ sym (ap (λ b. cond b (times_in n line.kind) 0 + times_added n lines row) (apart_of test line.row row q t) ∙ zero_plus (times_added n lines row))

pub added_off : (test : ℕ → Bool) (n row : ℕ) (lines : List Tagged) → test row ≡ false → times_added n (lines_on test lines) row ≡ 0
added_off test n row [] t = refl
added_off test n row (line ∷ lines) t = at (test line.row) refl (added_off test n row lines t) where
  other : (a b : ℕ) → test a ≡ true → test b ≡ false → (a == b) ≡ false
  other a b p q = on (a == b) refl where
    on : (c : Bool) → (a == b) ≡ c → c ≡ false
    on true r = let e : test a ≡ test b = ap test (eqb-true a b r) in absurd (let k : true ≡ false = sym p ∙ (e ∙ q) in cc)
    on false r = refl

  at : (b : Bool) → test line.row ≡ b → times_added n (lines_on test lines) row ≡ 0 → times_added n (cond b (line ∷ []) [] ++ lines_on test lines) row ≡ 0
  at true q e = ap (λ b. cond b (times_in n line.kind) 0 + times_added n (lines_on test lines) row) (other line.row row q t) ∙ (zero_plus (times_added n (lines_on test lines) row) ∙ e)
  at false q e = e
