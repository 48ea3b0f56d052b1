-- Each put to the long history stands right behind the draw of its ticket. So on a plain store no put comes too late,
-- and the tickets that are put are 0, 1 and so on.
use Rattle.std.proofs.Common.{ℕ, inl, inr, ◌≡◌, ◌≤◌, ◌+◌, ◌-◌, ◌==◌, Bool, true, false, cond, List, [], ◌∷◌, ◌++◌, replicate, Option, Some, None, eq-eqb, ne_eqb, refl, ap, sym, ◌∙◌, subst, arith}
use Rattle.std.specs.Prelude.{if◌then◌else◌, slice_index}
use Rattle.std.proofs.lemmas.List.{append-nil, append_assoc}
use Rattle.std.proofs.lemmas.Bool.{eqb-true}
use Rattle.pfs_levels.specs.declared.answers.Added.TheVariants.{Counted, Held}
use Rattle.pfs_levels.specs.declared.answers.RingPut.TheVariants.{Done, Busy, Late}
use Rattle.pfs_levels.specs.declared.plain.Slot.{Slot}
use Rattle.pfs_levels.specs.Calls.{Call, Adds, Rings, Reads, Loads, Draws, Takes, Puts, Frees, Sets, Enters, Leaves, Meets, IsRing}
use Rattle.pfs_levels.specs.RowWords.{is_cell, zero_words}
use Rattle.pfs_levels.specs.JointCalls.{draws_of, drawn}
use Rattle.pfs_levels.specs.PlainStore.{AllAnswer, Merges, Becomes, Renews, Holds, Releases, ops_of, slot_after, slot_by}
use Rattle.pfs_model.specs.Causes.{long_row, kind_of_row}
use Rattle.pfs_model.specs.PlainAgreement.{drawn_of}
use Rattle.pfs_model.specs.Rings.{Ticketed}

-- a put that waits for the draw of its ticket: its row, and the word of its ticket
pub record Pending : Type 0 where
  pub row : ℕ
  pub word : ℕ

abbrev pub pending : ℕ → ℕ → Option Pending
pending row word = cond (word == 0) None (Some (record { row = row; word = word }))

-- newest first, behind a put that waits or doesn't. What else is written has no ticket
abbrev pub ArePaired : Option Pending → List Call → Type 0
ArePaired None [] = Unit {0}
ArePaired (Some p) [] = ⊥
ArePaired None (Rings row content answer ∷ calls) = ArePaired (pending row (slice_index content 15)) calls
ArePaired None (Draws kind ticket ∷ calls) = ⊥
ArePaired None (Puts row content version ∷ calls) = (slice_index content 15 ≡ 0) × ArePaired None calls
ArePaired None (Adds row amount answer ∷ calls) = ArePaired None calls
ArePaired None (Reads row seen ∷ calls) = ArePaired None calls
ArePaired None (Loads at version found ∷ calls) = ArePaired None calls
ArePaired None (Takes row version found ∷ calls) = ArePaired None calls
ArePaired None (Frees row version ∷ calls) = ArePaired None calls
ArePaired None (Sets at to version ∷ calls) = ArePaired None calls
ArePaired None (Enters label labels ∷ calls) = ArePaired None calls
ArePaired None (Leaves ∷ calls) = ArePaired None calls
ArePaired None (Meets versions ∷ calls) = ArePaired None calls
ArePaired (Some p) (Draws kind ticket ∷ calls) =
    (p.row ≡ long_row kind ticket) × (p.word ≡ ticket + 1) × ArePaired None calls
ArePaired (Some p) (call ∷ calls) = ⊥

pub paired_then : (p : Option Pending) (xs ys : List Call) → ArePaired p xs → ArePaired None ys → ArePaired p (xs ++ ys)
paired_then None [] ys a b = b
paired_then (Some p) [] ys a b = absurd a
paired_then None (Rings row content answer ∷ xs) ys a b = paired_then (pending row (slice_index content 15)) xs ys a b
paired_then None (Draws kind ticket ∷ xs) ys a b = absurd a
paired_then None (Puts row content version ∷ xs) ys a b = (a.0, paired_then None xs ys a.1 b)
paired_then None (Adds row amount answer ∷ xs) ys a b = paired_then None xs ys a b
paired_then None (Reads row seen ∷ xs) ys a b = paired_then None xs ys a b
paired_then None (Loads at version found ∷ xs) ys a b = paired_then None xs ys a b
paired_then None (Takes row version found ∷ xs) ys a b = paired_then None xs ys a b
paired_then None (Frees row version ∷ xs) ys a b = paired_then None xs ys a b
paired_then None (Sets at to version ∷ xs) ys a b = paired_then None xs ys a b
paired_then None (Enters label labels ∷ xs) ys a b = paired_then None xs ys a b
paired_then None (Leaves ∷ xs) ys a b = paired_then None xs ys a b
paired_then None (Meets versions ∷ xs) ys a b = paired_then None xs ys a b
paired_then (Some p) (Draws kind ticket ∷ xs) ys a b = (a.0, a.1, paired_then None xs ys a.2 b)
paired_then (Some p) (Adds row amount answer ∷ xs) ys a b = absurd a
paired_then (Some p) (Rings row content answer ∷ xs) ys a b = absurd a
paired_then (Some p) (Reads row seen ∷ xs) ys a b = absurd a
paired_then (Some p) (Loads at version found ∷ xs) ys a b = absurd a
paired_then (Some p) (Takes row version found ∷ xs) ys a b = absurd a
paired_then (Some p) (Puts row content version ∷ xs) ys a b = absurd a
paired_then (Some p) (Frees row version ∷ xs) ys a b = absurd a
paired_then (Some p) (Sets at to version ∷ xs) ys a b = absurd a
paired_then (Some p) (Enters label labels ∷ xs) ys a b = absurd a
paired_then (Some p) (Leaves ∷ xs) ys a b = absurd a
paired_then (Some p) (Meets versions ∷ xs) ys a b = absurd a

kind_of_long : (kind ticket : ℕ) → kind_of_row (long_row kind ticket) ≡ kind
kind_of_long kind ticket = omega arith

-- a ticket that is drawn makes one more of its kind
abbrev count_if : Bool → ℕ → ℕ
count_if b n = if b then n + 1 else n

grows : (b : Bool) (n : ℕ) → n ≤ count_if b n
grows true n = omega arith
grows false n = omega arith

drawn_own : (kind ticket other : ℕ) (calls : List Call) → kind ≡ other → drawn (draws_of (Draws kind ticket ∷ calls)) other ≡ drawn (draws_of calls) other + 1
unfolding draws_of drawn
drawn_own kind ticket other calls e = ap (λ b. count_if b (drawn (draws_of calls) other)) (eq-eqb kind other e)

-- the word of the ticket in a row
abbrev word_in : List Call → ℕ → ℕ
word_in calls row = slice_index (slot_after (ops_of calls) row).content 15

opening_word : (b : Bool) → slice_index (if b then zero_words else replicate 16 0) 15 ≡ 0
opening_word true = refl
opening_word false = refl

still_word : (b : Bool) (s : Slot) → slice_index (if b then slot_by Holds s else s).content 15 ≡ slice_index s.content 15
still_word true s = refl
still_word false s = refl

freed_word : (b : Bool) (s : Slot) → slice_index (if b then slot_by Releases s else s).content 15 ≡ slice_index s.content 15
freed_word true s = refl
freed_word false s = refl

renewed_word : (b : Bool) (s : Slot) → slice_index (if b then slot_by Renews s else s).content 15 ≡ slice_index s.content 15
renewed_word true s = refl
renewed_word false s = refl

written_word : (b : Bool) (content : List ℕ) (s : Slot) (most : ℕ) → (b ≡ true → slice_index content 15 ≤ most) → slice_index s.content 15 ≤ most
    → slice_index (if b then slot_by (Becomes content) s else s).content 15 ≤ most
written_word true content s most a b = a refl
written_word false content s most a b = b

-- what a put that waits writes is at most what is drawn then
own_word : (flags : List ℕ) (at word row : ℕ) (calls : List Call) → AllAnswer flags calls → ArePaired (pending at word) calls → at ≡ row → word ≤ drawn (draws_of calls) (kind_of_row row)
own_word flags at word row calls a p e = by_word (word == 0) refl p where
  by_word : (b : Bool) → (word == 0) ≡ b → ArePaired (cond b None (Some (record { row = at; word = word }))) calls → word ≤ drawn (draws_of calls) (kind_of_row row)
  by_word true z q = omega (arith, eqb-true word 0 z)
  by_word false z q = by_calls calls a q where
    by_calls : (calls : List Call) → AllAnswer flags calls → ArePaired (Some (record { row = at; word = word })) calls → word ≤ drawn (draws_of calls) (kind_of_row row)
    by_calls [] a q = absurd q
    by_calls (Draws kind ticket ∷ older) a q =
        let own : kind ≡ kind_of_row row = sym (ap kind_of_row (sym e ∙ q.0) ∙ kind_of_long kind ticket) in
        omega (arith, q.1, a.0.1, drawn_own kind ticket (kind_of_row row) older own, ap (drawn (draws_of older)) own)
    by_calls (Adds row amount answer ∷ older) a q = absurd q
    by_calls (Rings row content answer ∷ older) a q = absurd q
    by_calls (Reads row seen ∷ older) a q = absurd q
    by_calls (Loads at version found ∷ older) a q = absurd q
    by_calls (Takes row version found ∷ older) a q = absurd q
    by_calls (Puts row content version ∷ older) a q = absurd q
    by_calls (Frees row version ∷ older) a q = absurd q
    by_calls (Sets at to version ∷ older) a q = absurd q
    by_calls (Enters label labels ∷ older) a q = absurd q
    by_calls (Leaves ∷ older) a q = absurd q
    by_calls (Meets versions ∷ older) a q = absurd q

pub stored : (flags : List ℕ) (p : Option Pending) (calls : List Call) → AllAnswer flags calls → ArePaired p calls → (row : ℕ) → 10242 ≤ row → word_in calls row ≤ drawn (draws_of calls) (kind_of_row row)
unfolding ops_of slot_after draws_of drawn
stored flags None [] a q row up = omega (arith, opening_word (is_cell row))
stored flags (Some p) [] a q row up = absurd q
stored flags None (Adds at amount (Counted r v) ∷ calls) a q row up =
    let s = slot_after (ops_of calls) row in
    let other : (r == row) ≡ false = ne_eqb r row (λ e. absurd (omega (arith, a.0.0.1, a.0.1, e, up))) in
    subst (λ b. slice_index (if b then slot_by (Merges amount) s else s).content 15 ≤ drawn (draws_of calls) (kind_of_row row)) (sym other) (stored flags None calls a.1 q row up)
stored flags None (Adds at amount (Held r v w) ∷ calls) a q row up = absurd a.0
stored flags None (Rings at content (Done v) ∷ calls) a q row up =
    written_word (at == row) content (slot_after (ops_of calls) row) (drawn (draws_of calls) (kind_of_row row))
    (λ e. own_word flags at (slice_index content 15) row calls a.1 q (eqb-true at row e)) (stored flags (pending at (slice_index content 15)) calls a.1 q row up)
stored flags None (Rings at content (Busy v w) ∷ calls) a q row up = absurd a.0
stored flags None (Rings at content (Late t v) ∷ calls) a q row up = stored flags (pending at (slice_index content 15)) calls a.1 q row up
stored flags None (Reads at seen ∷ calls) a q row up = stored flags None calls a.1 q row up
stored flags None (Loads at v found ∷ calls) a q row up = stored flags None calls a.1 q row up
stored flags None (Draws kind ticket ∷ calls) a q row up = absurd q
stored flags None (Takes at v found ∷ calls) a q row up = omega (arith, still_word (at == row) (slot_after (ops_of calls) row), stored flags None calls a.1 q row up)
stored flags None (Puts at content v ∷ calls) a q row up =
    written_word (at == row) content (slot_after (ops_of calls) row) (drawn (draws_of calls) (kind_of_row row)) (λ e. omega (arith, q.0)) (stored flags None calls a.1 q.1 row up)
stored flags None (Frees at v ∷ calls) a q row up = omega (arith, freed_word (at == row) (slot_after (ops_of calls) row), stored flags None calls a.1 q row up)
stored flags None (Sets at to v ∷ calls) a q row up = stored flags None calls a.1 q row up
stored flags None (Enters label labels ∷ calls) a q row up = omega (arith, still_word (0 == row) (slot_after (ops_of calls) row), stored flags None calls a.1 q row up)
stored flags None (Leaves ∷ calls) a q row up = omega (arith, renewed_word (0 == row) (slot_after (ops_of calls) row), stored flags None calls a.1 q row up)
stored flags None (Meets versions ∷ calls) a q row up = absurd a.0
stored flags (Some p) (Draws kind ticket ∷ calls) a q row up = omega (arith, grows (kind == kind_of_row row) (drawn (draws_of calls) (kind_of_row row)), stored flags None calls a.1 q.2 row up)
stored flags (Some p) (Adds at amount answer ∷ calls) a q row up = absurd q
stored flags (Some p) (Rings at content answer ∷ calls) a q row up = absurd q
stored flags (Some p) (Reads at seen ∷ calls) a q row up = absurd q
stored flags (Some p) (Loads at version found ∷ calls) a q row up = absurd q
stored flags (Some p) (Takes at version found ∷ calls) a q row up = absurd q
stored flags (Some p) (Puts at content version ∷ calls) a q row up = absurd q
stored flags (Some p) (Frees at version ∷ calls) a q row up = absurd q
stored flags (Some p) (Sets at to version ∷ calls) a q row up = absurd q
stored flags (Some p) (Enters label labels ∷ calls) a q row up = absurd q
stored flags (Some p) (Leaves ∷ calls) a q row up = absurd q
stored flags (Some p) (Meets versions ∷ calls) a q row up = absurd q

later : (older : List Call) (kind ticket at : ℕ) → word_in (Draws kind ticket ∷ older) at ≡ word_in older at
unfolding ops_of
later older kind ticket at = refl

-- so no place holds a greater ticket than that of a put
pub never_late : (flags : List ℕ) (at greater version : ℕ) (content : List ℕ) (calls : List Call) → AllAnswer flags (Rings at content (Late greater version) ∷ calls)
    → ArePaired None (Rings at content (Late greater version) ∷ calls) → ⊥
never_late flags at greater version content calls a q = by_ring a.0.0 where
  up : 10242 ≤ at
  up = a.0.2

  by_ring : IsRing at content → ⊥
  by_ring (inl r) = absurd (omega (arith, r.1, up))
  by_ring (inr r) = by_calls (subst (λ b. ArePaired (cond b None (Some (record { row = at; word = slice_index content 15 }))) calls) (ne_eqb (slice_index content 15) 0 (λ e. absurd (omega (arith, r.2, e)))) q) calls a.1 refl where
    by_calls : ArePaired (Some (record { row = at; word = slice_index content 15 })) calls → (own : List Call) → AllAnswer flags own → calls ≡ own → ⊥
    by_calls p own given same = by_own own given (subst (ArePaired (Some (record { row = at; word = slice_index content 15 }))) same p) (subst (λ z. word_in z at ≡ greater + 1) same a.0.3) where
      by_own : (own : List Call) → AllAnswer flags own → ArePaired (Some (record { row = at; word = slice_index content 15 })) own → word_in own at ≡ greater + 1 → ⊥
      by_own [] g p w = absurd p
      by_own (Draws kind ticket ∷ older) g p w =
          let kind_is : kind_of_row at ≡ kind = ap kind_of_row p.0 ∙ kind_of_long kind ticket in
          let before : word_in older at ≤ drawn (draws_of older) (kind_of_row at) = stored flags None older g.1 p.2 at up in
          absurd (omega (arith, p.1, g.0.1, before, ap (drawn (draws_of older)) kind_is, later older kind ticket at, w, a.0.4))
      by_own (Adds row amount answer ∷ older) g p w = absurd p
      by_own (Rings row content answer ∷ older) g p w = absurd p
      by_own (Reads row seen ∷ older) g p w = absurd p
      by_own (Loads at version found ∷ older) g p w = absurd p
      by_own (Takes row version found ∷ older) g p w = absurd p
      by_own (Puts row content version ∷ older) g p w = absurd p
      by_own (Frees row version ∷ older) g p w = absurd p
      by_own (Sets at to version ∷ older) g p w = absurd p
      by_own (Enters label labels ∷ older) g p w = absurd p
      by_own (Leaves ∷ older) g p w = absurd p
      by_own (Meets versions ∷ older) g p w = absurd p

-- the tickets that calls put, in order
abbrev pub ticketed_if : ℕ → ℕ → ℕ → List Ticketed
ticketed_if row version word = cond (word == 0) [] (record { row = row; version = version; ticket = word - 1 } ∷ [])

abbrev pub ticketed_by : Call → List Ticketed
ticketed_by (Rings row content (Done version)) = ticketed_if row version (slice_index content 15)
ticketed_by _ = []

abbrev pub all_ticketed : List Call → List Ticketed
all_ticketed [] = []
all_ticketed (call ∷ calls) = all_ticketed calls ++ ticketed_by call

pub ticketed_then : (xs ys : List Call) → all_ticketed (xs ++ ys) ≡ all_ticketed ys ++ all_ticketed xs
ticketed_then [] ys = sym (append-nil (all_ticketed ys))
ticketed_then (x ∷ xs) ys = ap (λ z. z ++ ticketed_by x) (ticketed_then xs ys) ∙ append_assoc (all_ticketed ys) (all_ticketed xs) (ticketed_by x)

-- each is the next of its kind, behind those of these kinds, which stand newest first
abbrev pub AreNextTickets : List ℕ → List Ticketed → Type 0
AreNextTickets before [] = Unit {0}
AreNextTickets before (x ∷ xs) = (x.ticket ≡ drawn_of (kind_of_row x.row) before) × AreNextTickets (kind_of_row x.row ∷ before) xs

abbrev kinds_behind : List ℕ → List Ticketed → List ℕ
kinds_behind before [] = before
kinds_behind before (x ∷ xs) = kinds_behind (kind_of_row x.row ∷ before) xs

next_then : (before : List ℕ) (xs ys : List Ticketed) → AreNextTickets before xs → AreNextTickets (kinds_behind before xs) ys → AreNextTickets before (xs ++ ys)
next_then before [] ys a b = b
next_then before (x ∷ xs) ys a b = (a.0, next_then (kind_of_row x.row ∷ before) xs ys a.1 b)

kinds_then : (before : List ℕ) (xs ys : List Ticketed) → kinds_behind before (xs ++ ys) ≡ kinds_behind (kinds_behind before xs) ys
kinds_then before [] ys = refl
kinds_then before (x ∷ xs) ys = kinds_then (kind_of_row x.row ∷ before) xs ys

-- a put that waits for the draw of its ticket is one of its kind
abbrev waits : ℕ → Option Pending → ℕ
waits kind None = 0
waits kind (Some p) = cond (kind_of_row p.row == kind) 1 0

abbrev drawn_by : ℕ → List Call → ℕ
drawn_by kind calls = drawn_of kind (kinds_behind [] (all_ticketed calls))

one_more : (kind row version word : ℕ) (calls : List Call) (n : ℕ) → drawn_by kind calls + waits kind (pending row word) ≡ n
    → drawn_of kind (kinds_behind [] (all_ticketed calls ++ ticketed_if row version word)) ≡ n
one_more kind row version word calls n e =
    ap (drawn_of kind) (kinds_then [] (all_ticketed calls) (ticketed_if row version word)) ∙ by_word (word == 0) e where
      by_word : (b : Bool) → drawn_by kind calls + waits kind (cond b None (Some (record { row = row; word = word }))) ≡ n
          → drawn_of kind (kinds_behind (kinds_behind [] (all_ticketed calls)) (cond b [] (record { row = row; version = version; ticket = word - 1 } ∷ []))) ≡ n
      by_word true q = omega (arith, q)
      by_word false q = omega (arith, q)

same_drawn : (kind : ℕ) (calls : List Call) (n : ℕ) → drawn_by kind calls ≡ n → drawn_of kind (kinds_behind [] (all_ticketed calls ++ [])) ≡ n
same_drawn kind calls n e = ap (λ z. drawn_of kind (kinds_behind [] z)) (append-nil (all_ticketed calls)) ∙ e

-- as many were put as were drawn, but for the one that waits
counts : (flags : List ℕ) (kind : ℕ) (p : Option Pending) (calls : List Call) → AllAnswer flags calls → ArePaired p calls → drawn_by kind calls + waits kind p ≡ drawn (draws_of calls) kind
unfolding draws_of drawn
counts flags kind None [] a q = refl
counts flags kind (Some p) [] a q = absurd q
counts flags kind None (Rings row content (Done v) ∷ calls) a q =
    let rest = counts flags kind (pending row (slice_index content 15)) calls a.1 q in
    omega (arith, one_more kind row v (slice_index content 15) calls (drawn (draws_of calls) kind) rest)
counts flags kind None (Rings row content (Busy first second) ∷ calls) a q = absurd a.0
counts flags kind None (Rings row content (Late greater version) ∷ calls) a q = absurd (never_late flags row greater version content calls a q)
counts flags kind None (Draws k ticket ∷ calls) a q = absurd q
counts flags kind None (Puts row content version ∷ calls) a q =
    omega (arith, same_drawn kind calls (drawn (draws_of calls) kind) (omega (arith, counts flags kind None calls a.1 q.1)))
counts flags kind None (Meets versions ∷ calls) a q = absurd a.0
counts flags kind None (Adds row amount answer ∷ calls) a q =
    omega (arith, same_drawn kind calls (drawn (draws_of calls) kind) (omega (arith, counts flags kind None calls a.1 q)))
counts flags kind None (Reads row seen ∷ calls) a q =
    omega (arith, same_drawn kind calls (drawn (draws_of calls) kind) (omega (arith, counts flags kind None calls a.1 q)))
counts flags kind None (Loads at version found ∷ calls) a q =
    omega (arith, same_drawn kind calls (drawn (draws_of calls) kind) (omega (arith, counts flags kind None calls a.1 q)))
counts flags kind None (Takes row version found ∷ calls) a q =
    omega (arith, same_drawn kind calls (drawn (draws_of calls) kind) (omega (arith, counts flags kind None calls a.1 q)))
counts flags kind None (Frees row version ∷ calls) a q =
    omega (arith, same_drawn kind calls (drawn (draws_of calls) kind) (omega (arith, counts flags kind None calls a.1 q)))
counts flags kind None (Sets at to version ∷ calls) a q =
    omega (arith, same_drawn kind calls (drawn (draws_of calls) kind) (omega (arith, counts flags kind None calls a.1 q)))
counts flags kind None (Enters label labels ∷ calls) a q =
    omega (arith, same_drawn kind calls (drawn (draws_of calls) kind) (omega (arith, counts flags kind None calls a.1 q)))
counts flags kind None (Leaves ∷ calls) a q =
    omega (arith, same_drawn kind calls (drawn (draws_of calls) kind) (omega (arith, counts flags kind None calls a.1 q)))
counts flags kind (Some p) (Draws k ticket ∷ calls) a q =
    let own : kind_of_row p.row ≡ k = ap kind_of_row q.0 ∙ kind_of_long k ticket in
    let rest : drawn_by kind calls + 0 ≡ drawn (draws_of calls) kind = counts flags kind None calls a.1 q.2 in
    let there : drawn_of kind (kinds_behind [] (all_ticketed calls ++ [])) ≡ drawn (draws_of calls) kind = same_drawn kind calls (drawn (draws_of calls) kind) (omega (arith, rest)) in
    ap (λ z. drawn_of kind (kinds_behind [] (all_ticketed calls ++ [])) + cond (z == kind) 1 0) own ∙ by_kind (k == kind) there where
      by_kind : (b : Bool) → drawn_of kind (kinds_behind [] (all_ticketed calls ++ [])) ≡ drawn (draws_of calls) kind
          → drawn_of kind (kinds_behind [] (all_ticketed calls ++ [])) + cond b 1 0 ≡ count_if b (drawn (draws_of calls) kind)
      by_kind true e = omega (arith, e)
      by_kind false e = omega (arith, e)
counts flags kind (Some p) (Adds row amount answer ∷ calls) a q = absurd q
counts flags kind (Some p) (Rings row content answer ∷ calls) a q = absurd q
counts flags kind (Some p) (Reads row seen ∷ calls) a q = absurd q
counts flags kind (Some p) (Loads at version found ∷ calls) a q = absurd q
counts flags kind (Some p) (Takes row version found ∷ calls) a q = absurd q
counts flags kind (Some p) (Puts row content version ∷ calls) a q = absurd q
counts flags kind (Some p) (Frees row version ∷ calls) a q = absurd q
counts flags kind (Some p) (Sets at to version ∷ calls) a q = absurd q
counts flags kind (Some p) (Enters label labels ∷ calls) a q = absurd q
counts flags kind (Some p) (Leaves ∷ calls) a q = absurd q
counts flags kind (Some p) (Meets versions ∷ calls) a q = absurd q

-- so each ticket that is put is the next of its kind
own_ticket : (flags : List ℕ) (row version word : ℕ) (calls : List Call) → AllAnswer flags calls → ArePaired (pending row word) calls
    → AreNextTickets (kinds_behind [] (all_ticketed calls)) (ticketed_if row version word)
own_ticket flags row version word calls a q = by_word (word == 0) refl q where
  by_word : (b : Bool) → (word == 0) ≡ b → ArePaired (cond b None (Some (record { row = row; word = word }))) calls
      → AreNextTickets (kinds_behind [] (all_ticketed calls)) (cond b [] (record { row = row; version = version; ticket = word - 1 } ∷ []))
  by_word true e p = tt
  by_word false e p = (by_calls calls a p, tt) where
    by_calls : (calls : List Call) → AllAnswer flags calls → ArePaired (Some (record { row = row; word = word })) calls → word - 1 ≡ drawn_by (kind_of_row row) calls
    by_calls [] a p = absurd p
    by_calls (Draws kind ticket ∷ older) a p =
        let own : kind_of_row row ≡ kind = ap kind_of_row p.0 ∙ kind_of_long kind ticket in
        let there : drawn_by kind older + 0 ≡ drawn (draws_of older) kind = counts flags kind None older a.1 p.2 in
        let same : drawn_by (kind_of_row row) (Draws kind ticket ∷ older) ≡ drawn (draws_of older) kind =
        ap (λ z. drawn_by z (Draws kind ticket ∷ older)) own ∙ same_drawn kind older (drawn (draws_of older) kind) (omega (arith, there)) in
        omega (arith, p.1, a.0.1, same)
    by_calls (Adds row amount answer ∷ older) a p = absurd p
    by_calls (Rings row content answer ∷ older) a p = absurd p
    by_calls (Reads row seen ∷ older) a p = absurd p
    by_calls (Loads at version found ∷ older) a p = absurd p
    by_calls (Takes row version found ∷ older) a p = absurd p
    by_calls (Puts row content version ∷ older) a p = absurd p
    by_calls (Frees row version ∷ older) a p = absurd p
    by_calls (Sets at to version ∷ older) a p = absurd p
    by_calls (Enters label labels ∷ older) a p = absurd p
    by_calls (Leaves ∷ older) a p = absurd p
    by_calls (Meets versions ∷ older) a p = absurd p

pub tickets_next : (flags : List ℕ) (p : Option Pending) (calls : List Call) → AllAnswer flags calls → ArePaired p calls → AreNextTickets [] (all_ticketed calls)
tickets_next flags None [] a q = tt
tickets_next flags (Some p) [] a q = absurd q
tickets_next flags None (Rings row content (Done v) ∷ calls) a q =
    next_then [] (all_ticketed calls) (ticketed_if row v (slice_index content 15)) (tickets_next flags (pending row (slice_index content 15)) calls a.1 q)
    (own_ticket flags row v (slice_index content 15) calls a.1 q)
tickets_next flags None (Rings row content (Busy first second) ∷ calls) a q = absurd a.0
tickets_next flags None (Rings row content (Late greater version) ∷ calls) a q = absurd (never_late flags row greater version content calls a q)
tickets_next flags None (Draws kind ticket ∷ calls) a q = absurd q
tickets_next flags None (Puts row content version ∷ calls) a q = next_then [] (all_ticketed calls) [] (tickets_next flags None calls a.1 q.1) tt
tickets_next flags None (Adds row amount answer ∷ calls) a q = next_then [] (all_ticketed calls) [] (tickets_next flags None calls a.1 q) tt
tickets_next flags None (Reads row seen ∷ calls) a q = next_then [] (all_ticketed calls) [] (tickets_next flags None calls a.1 q) tt
tickets_next flags None (Loads at version found ∷ calls) a q = next_then [] (all_ticketed calls) [] (tickets_next flags None calls a.1 q) tt
tickets_next flags None (Takes row version found ∷ calls) a q = next_then [] (all_ticketed calls) [] (tickets_next flags None calls a.1 q) tt
tickets_next flags None (Frees row version ∷ calls) a q = next_then [] (all_ticketed calls) [] (tickets_next flags None calls a.1 q) tt
tickets_next flags None (Sets at to version ∷ calls) a q = next_then [] (all_ticketed calls) [] (tickets_next flags None calls a.1 q) tt
tickets_next flags None (Enters label labels ∷ calls) a q = next_then [] (all_ticketed calls) [] (tickets_next flags None calls a.1 q) tt
tickets_next flags None (Leaves ∷ calls) a q = next_then [] (all_ticketed calls) [] (tickets_next flags None calls a.1 q) tt
tickets_next flags None (Meets versions ∷ calls) a q = next_then [] (all_ticketed calls) [] (tickets_next flags None calls a.1 q) tt
tickets_next flags (Some p) (Draws kind ticket ∷ calls) a q = next_then [] (all_ticketed calls) [] (tickets_next flags None calls a.1 q.2) tt
tickets_next flags (Some p) (Adds row amount answer ∷ calls) a q = absurd q
tickets_next flags (Some p) (Rings row content answer ∷ calls) a q = absurd q
tickets_next flags (Some p) (Reads row seen ∷ calls) a q = absurd q
tickets_next flags (Some p) (Loads at version found ∷ calls) a q = absurd q
tickets_next flags (Some p) (Takes row version found ∷ calls) a q = absurd q
tickets_next flags (Some p) (Puts row content version ∷ calls) a q = absurd q
tickets_next flags (Some p) (Frees row version ∷ calls) a q = absurd q
tickets_next flags (Some p) (Sets at to version ∷ calls) a q = absurd q
tickets_next flags (Some p) (Enters label labels ∷ calls) a q = absurd q
tickets_next flags (Some p) (Leaves ∷ calls) a q = absurd q
tickets_next flags (Some p) (Meets versions ∷ calls) a q = absurd q
