-- The puts of kinds and phases, counted along the entries.
use Rattle.std.proofs.Common.{◌≡◌, refl, ℕ, ◌+◌, ◌<◌, ◌≤◌, ◌==◌, inl, inr, Bool, true, false, ◌&&◌, not, cond, nat_le, nat_lt, List, [], ◌∷◌, ◌++◌, length, length-append, Option, Some, None, sym, ◌∙◌, ap, subst, arith}
use Rattle.std.specs.Prelude.{filter, ◌⊎◌, OnOk, Result, Ok, Err}
use Rattle.std.specs.BTreeMap.{get}
use Rattle.std.proofs.lemmas.Bool.{eqb-true, ltb-false, ltb-true, leb-false, leb-true}
use Rattle.std.proofs.lemmas.Bool.Decides.{nat_tests}
use Rattle.pfs_event.specs.declared.entry.Entry.{Entry}
use Rattle.pfs_event.specs.declared.entry.Entry.TheVariants as says
use Rattle.pfs_model.specs.declared.lines.Line.{Line}
use Rattle.pfs_model.specs.Causes.{kind_of_row}
use Rattle.pfs_model.specs.EntryPlaces.{Placed, before_phase, chosen, in_phase, up_to_phase}
use Rattle.pfs_model.specs.Rings.{LongPut, is_reading_line, long_put, long_puts}
use Rattle.pfs_check_causes.specs.TicketPuts.{NeverFallFrom}
use Rattle.pfs_check_walk.specs.Walks.{onto}
use Rattle.pfs_check_tickets.specs.declared.counting.KindCounts.{KindCounts}
use Rattle.pfs_check_tickets.specs.declared.counting.LongCounts.{LongCounts}
use Rattle.pfs_check_tickets.specs.declared.counting.PhaseKind.{PhaseKind}
use Rattle.pfs_check_tickets.specs.declared.puts.Put.{Put}
use Rattle.pfs_check_tickets.specs.PrintedPuts.{long_of, long_of_put, put_of}
use Rattle.pfs_check_tickets.specs.PutCounts.{AreByPhases, AreCounted, AreKindCounts, AreUpTo, HasPuts, all_of_kind, is_same_kind, kind_at, kind_cmp, next_counts, puts_before, puts_in}

pub long_is : (line : Line) (entry : Entry) → long_put line entry ≡ long_of (put_of line entry)
long_is line (says.Long row version ticket) = refl
long_is line (says.Late row ticket greater) = refl
long_is line (says.Busy row first second) = at (not (is_reading_line line) && nat_le 10242 row) where
  at : (b : Bool) → cond b (record { row = row; ticket = None } ∷ []) [] ≡ long_of (cond b (Some (record { row = row; ticket = None })) None)
  at true = refl
  at false = refl
long_is line _ = refl

abbrev puts_at : ℕ → Placed → List LongPut
puts_at kind p = filter (λ (put : LongPut). kind_of_row put.row == kind) (long_put p.line p.entry)

-- how many puts of a kind an entry is
abbrev put_len : ℕ → Option Put → ℕ
put_len kind None = 0
put_len kind (Some put) = cond (kind_of_row put.row == kind) 1 0

here_len : (kind : ℕ) (p : Placed) → length (puts_at kind p) ≡ put_len kind (put_of p.line p.entry)
here_len kind p = ap (λ z. length (filter (λ (put : LongPut). kind_of_row put.row == kind) z)) (long_is p.line p.entry) ∙ at (put_of p.line p.entry) where
  at : (o : Option Put) → length (filter (λ (put : LongPut). kind_of_row put.row == kind) (long_of o)) ≡ put_len kind o
  at None = refl
  at (Some put) = on (kind_of_row put.row == kind) where
    on : (b : Bool) → length (cond {A = List LongPut} b (long_of_put put ∷ []) []) ≡ cond b 1 0
    on true = refl
    on false = refl

-- how many puts of a kind the chosen entries are
abbrev len_of : ℕ → (Placed → Bool) → List Placed → ℕ
len_of kind test ps = length (long_puts kind (chosen test ps))

abbrev len_at : ℕ → (Placed → Bool) → Placed → ℕ
len_at kind test p = cond (test p) (put_len kind (put_of p.line p.entry)) 0

len_one : (kind : ℕ) (test : Placed → Bool) (p : Placed) (ps : List Placed) → len_of kind test (p ∷ ps) ≡ len_at kind test p + len_of kind test ps
len_one kind test p ps = at (test p) where
  at : (b : Bool) → length (long_puts kind (cond b (p ∷ []) [] ++ chosen test ps)) ≡ cond b (put_len kind (put_of p.line p.entry)) 0 + len_of kind test ps
  at true = length-append (puts_at kind p) (long_puts kind (chosen test ps)) ∙ ap (λ z. z + len_of kind test ps) (here_len kind p)
  at false = omega arith

all_one : (kind : ℕ) (p : Placed) (ps : List Placed) → length (long_puts kind (p ∷ ps)) ≡ put_len kind (put_of p.line p.entry) + length (long_puts kind ps)
all_one kind p ps = length-append (puts_at kind p) (long_puts kind ps) ∙ ap (λ z. z + length (long_puts kind ps)) (here_len kind p)

abbrev is_before : ℕ → Placed → Bool
is_before phase p = nat_lt p.phase phase

abbrev is_in : ℕ → Placed → Bool
is_in phase p = p.phase == phase

abbrev is_up_to : ℕ → Placed → Bool
is_up_to phase p = nat_le p.phase phase

-- up to a phase's end there are those before it and those in it
pub up_to_is : (kind phase : ℕ) (ps : List Placed)
    → length (long_puts kind (up_to_phase phase ps)) ≡ length (long_puts kind (before_phase phase ps)) + length (long_puts kind (in_phase phase ps))
up_to_is kind phase [] = refl
up_to_is kind phase (p ∷ ps) =
    let here : len_at kind (is_up_to phase) p ≡ len_at kind (is_before phase) p + len_at kind (is_in phase) p =
    at (nat_le p.phase phase) (nat_lt p.phase phase) (p.phase == phase) refl refl refl in
    omega (arith, up_to_is kind phase ps, here, len_one kind (is_up_to phase) p ps, len_one kind (is_before phase) p ps, len_one kind (is_in phase) p ps) where
      at : (x y z : Bool) → nat_le p.phase phase ≡ x → nat_lt p.phase phase ≡ y → (p.phase == phase) ≡ z
          → cond x (put_len kind (put_of p.line p.entry)) 0
          ≡ cond y (put_len kind (put_of p.line p.entry)) 0 + cond z (put_len kind (put_of p.line p.entry)) 0
      at true true true e f g = absurd (omega (arith, ltb-true p.phase phase f, eqb-true p.phase phase g))
      at true true false e f g = omega arith
      at true false true e f g = omega arith
      at true false false e f g = absurd (grind (arith, nat_tests))
      at false true z e f g = absurd (omega (arith, leb-false p.phase phase e, ltb-true p.phase phase f))
      at false false true e f g = absurd (omega (arith, leb-false p.phase phase e, eqb-true p.phase phase g))
      at false false false e f g = omega arith

-- and where all stand up to there, these are all
total_is : (kind phase : ℕ) (ps : List Placed) → AreUpTo phase ps
    → length (long_puts kind ps) ≡ puts_before (kind_at phase kind) ps + puts_in (kind_at phase kind) ps
total_is kind phase [] h = refl
total_is kind phase (p ∷ ps) h =
    let here : put_len kind (put_of p.line p.entry) ≡ len_at kind (is_before phase) p + len_at kind (is_in phase) p =
    at (nat_lt p.phase phase) (p.phase == phase) refl refl in
    omega (arith, total_is kind phase ps h.1, here, all_one kind p ps, len_one kind (is_before phase) p ps, len_one kind (is_in phase) p ps) where
      at : (y z : Bool) → nat_lt p.phase phase ≡ y → (p.phase == phase) ≡ z
          → put_len kind (put_of p.line p.entry)
          ≡ cond y (put_len kind (put_of p.line p.entry)) 0 + cond z (put_len kind (put_of p.line p.entry)) 0
      at true true f g = absurd (omega (arith, ltb-true p.phase phase f, eqb-true p.phase phase g))
      at true false f g = omega arith
      at false true f g = omega arith
      at false false f g = absurd (grind (arith, nat_tests))

-- none stands in a later phase
none_later : (kind phase later : ℕ) (ps : List Placed) → AreUpTo phase ps → phase < later → puts_in (kind_at later kind) ps ≡ 0
none_later kind phase later [] h l = refl
none_later kind phase later (p ∷ ps) h l =
    let here : len_at kind (is_in later) p ≡ 0 = at (p.phase == later) refl in
    omega (arith, none_later kind phase later ps h.1 l, here, len_one kind (is_in later) p ps) where
      at : (z : Bool) → (p.phase == later) ≡ z → cond z (put_len kind (put_of p.line p.entry)) 0 ≡ 0
      at true g = absurd (omega (arith, eqb-true p.phase later g, h.0, l))
      at false g = refl

-- the counts where the numbers are the same
counts_as : (places others : List Placed) (key : PhaseKind) (o : Option KindCounts) → puts_in key places ≡ puts_in key others
    → puts_before key places ≡ puts_before key others → AreKindCounts places key o → AreKindCounts others key o
counts_as places others key None e f h = sym e ∙ h
counts_as places others key (Some counts) e f h = record { some = h.some; puts = h.puts ∙ e; before = h.before ∙ f }

cond_zero : (b : Bool) → cond {A = ℕ} b 0 0 ≡ 0
cond_zero true = refl
cond_zero false = refl

pub counted_same : (counts : LongCounts) (earlier : List Placed) (place : Placed) → put_of place.line place.entry ≡ None
    → AreCounted earlier counts → AreCounted (place ∷ earlier) counts
counted_same counts earlier place e h = record {
  kinds = λ kind. h.kinds kind ∙ more kind;
  phases = λ key. counts_as earlier (place ∷ earlier) key (get kind_cmp counts.phases key) (other key (is_in key.phase)) (other key (is_before key.phase)) (h.phases key);
} where
  more : (kind : ℕ) → length (long_puts kind earlier) ≡ length (long_puts kind (place ∷ earlier))
  more kind = omega (arith, all_one kind place earlier, ap (put_len kind) e)

  other : (key : PhaseKind) (test : Placed → Bool) → len_of key.kind test earlier ≡ len_of key.kind test (place ∷ earlier)
  other key test =
      let none : len_at key.kind test place ≡ 0 = ap (λ z. cond (test place) (put_len key.kind z) 0) e ∙ cond_zero (test place) in
      omega (arith, none, len_one key.kind test place earlier)

kinds_same : (one other : PhaseKind) → is_same_kind one other ≡ true → one ≡ other
kinds_same one other = at (one.phase == other.phase) (one.kind == other.kind) refl refl where
  at : (a b : Bool) → (one.phase == other.phase) ≡ a → (one.kind == other.kind) ≡ b → (a && b) ≡ true → one ≡ other
  at true true e f h =
      ap (λ z. kind_at z one.kind) (eqb-true one.phase other.phase e) ∙ ap (λ z. kind_at other.phase z) (eqb-true one.kind other.kind f)
  at true false e f h = absurd (cc)
  at false b e f h = absurd (cc)

eq_self : (n : ℕ) → (n == n) ≡ true
eq_self n = grind arith

not_below : (n : ℕ) → nat_lt n n ≡ false
not_below n = grind (arith, nat_tests)

pub counted_more : (old new : LongCounts) (earlier : List Placed) (place : Placed) (put : Put) → put_of place.line place.entry ≡ Some put
    → AreUpTo place.phase earlier
    → ((other : ℕ) → all_of_kind new.kinds other ≡ cond (kind_of_row put.row == other) (all_of_kind old.kinds (kind_of_row put.row) + 1) (all_of_kind old.kinds other))
    → ((other : PhaseKind) → get kind_cmp new.phases other
    ≡ cond (is_same_kind (kind_at place.phase (kind_of_row put.row)) other)
    (Some (next_counts (get kind_cmp old.phases (kind_at place.phase (kind_of_row put.row))) (all_of_kind old.kinds (kind_of_row put.row))))
    (get kind_cmp old.phases other))
    → AreCounted earlier old → AreCounted (place ∷ earlier) new
counted_more old new earlier place put e up kinds phases h = record {
  kinds = λ other. kinds other ∙ one other (kind_of_row put.row == other) refl;
  phases = λ other. subst (AreKindCounts (place ∷ earlier) other) (sym (phases other))
      (on other (is_same_kind (kind_at place.phase (kind_of_row put.row)) other) refl);
} where
  len : (other : ℕ) → put_len other (put_of place.line place.entry) ≡ cond (kind_of_row put.row == other) 1 0
  len other = ap (put_len other) e

  one : (other : ℕ) (b : Bool) → (kind_of_row put.row == other) ≡ b
      → cond b (all_of_kind old.kinds (kind_of_row put.row) + 1) (all_of_kind old.kinds other) ≡ length (long_puts other (place ∷ earlier))
  one other true f =
      let is : kind_of_row put.row ≡ other = eqb-true (kind_of_row put.row) other f in
      let before : all_of_kind old.kinds (kind_of_row put.row) ≡ length (long_puts other earlier) =
      h.kinds (kind_of_row put.row) ∙ ap (λ z. length (long_puts z earlier)) is in
      let here : put_len other (put_of place.line place.entry) ≡ 1 = len other ∙ ap (λ z. cond z 1 0) f in
      omega (arith, before, here, all_one other place earlier)
  one other false f =
      let here : put_len other (put_of place.line place.entry) ≡ 0 = len other ∙ ap (λ z. cond z 1 0) f in
      omega (arith, h.kinds other, here, all_one other place earlier)

  own : PhaseKind
  own = kind_at place.phase (kind_of_row put.row)

  mine : put_len (kind_of_row put.row) (put_of place.line place.entry) ≡ 1
  mine = len (kind_of_row put.row) ∙ ap (λ z. cond z 1 0) (eq_self (kind_of_row put.row))

  own_in : puts_in (kind_at place.phase (kind_of_row put.row)) (place ∷ earlier) ≡ 1 + puts_in (kind_at place.phase (kind_of_row put.row)) earlier
  own_in = len_one (kind_of_row put.row) (is_in place.phase) place earlier
      ∙ ap (λ z. z + puts_in (kind_at place.phase (kind_of_row put.row)) earlier)
      (ap (λ z. cond z (put_len (kind_of_row put.row) (put_of place.line place.entry)) 0) (eq_self place.phase) ∙ mine)

  own_before : puts_before (kind_at place.phase (kind_of_row put.row)) (place ∷ earlier) ≡ puts_before (kind_at place.phase (kind_of_row put.row)) earlier
  own_before =
      let none : len_at (kind_of_row put.row) (is_before place.phase) place ≡ 0 =
      ap (λ z. cond z (put_len (kind_of_row put.row) (put_of place.line place.entry)) 0) (not_below place.phase) in
      omega (arith, none, len_one (kind_of_row put.row) (is_before place.phase) place earlier)

  next : (o : Option KindCounts) → AreKindCounts earlier (kind_at place.phase (kind_of_row put.row)) o
      → AreKindCounts (place ∷ earlier) (kind_at place.phase (kind_of_row put.row)) (Some (next_counts o (all_of_kind old.kinds (kind_of_row put.row))))
  next None k = record {
    some = omega arith;
    puts = omega (arith, k, own_in);
    before = omega (arith, k, own_before, h.kinds (kind_of_row put.row), total_is (kind_of_row put.row) place.phase earlier up);
  }
  next (Some counts) k = record {
    some = omega arith;
    puts = omega (arith, k.puts, own_in);
    before = k.before ∙ sym own_before;
  }

  same_in : (other : PhaseKind) → is_same_kind (kind_at place.phase (kind_of_row put.row)) other ≡ false → puts_in other earlier ≡ puts_in other (place ∷ earlier)
  same_in other f =
      let none : len_at other.kind (is_in other.phase) place ≡ 0 =
      ap (λ z. cond (place.phase == other.phase) z 0) (len other.kind) ∙ zero_at (place.phase == other.phase) (kind_of_row put.row == other.kind) f in
      omega (arith, none, len_one other.kind (is_in other.phase) place earlier) where
        zero_at : (a b : Bool) → (a && b) ≡ false → cond {A = ℕ} a (cond b 1 0) 0 ≡ 0
        zero_at true true e = absurd (cc)
        zero_at true false e = refl
        zero_at false b e = refl

  keep : (other : PhaseKind) (o : Option KindCounts) → is_same_kind (kind_at place.phase (kind_of_row put.row)) other ≡ false
      → AreKindCounts earlier other o → AreKindCounts (place ∷ earlier) other o
  keep other None f k = sym (same_in other f) ∙ k
  keep other (Some counts) f k = record {
    some = k.some;
    puts = k.puts ∙ same_in other f;
    before = k.before ∙ later (nat_lt place.phase other.phase) refl;
  } where
    later : (b : Bool) → nat_lt place.phase other.phase ≡ b → puts_before other earlier ≡ puts_before other (place ∷ earlier)
    later true g = absurd (omega (arith, k.some, k.puts, none_later other.kind place.phase other.phase earlier up (ltb-true place.phase other.phase g)))
    later false g =
        let none : len_at other.kind (is_before other.phase) place ≡ 0 = ap (λ z. cond z (put_len other.kind (put_of place.line place.entry)) 0) g in
        omega (arith, none, len_one other.kind (is_before other.phase) place earlier)

  on : (other : PhaseKind) (b : Bool) → is_same_kind (kind_at place.phase (kind_of_row put.row)) other ≡ b
      → AreKindCounts (place ∷ earlier) other
      (cond b (Some (next_counts (get kind_cmp old.phases (kind_at place.phase (kind_of_row put.row))) (all_of_kind old.kinds (kind_of_row put.row))))
      (get kind_cmp old.phases other))
  on other true f =
      subst (λ z. AreKindCounts (place ∷ earlier) z
      (Some (next_counts (get kind_cmp old.phases (kind_at place.phase (kind_of_row put.row))) (all_of_kind old.kinds (kind_of_row put.row)))))
      (kinds_same (kind_at place.phase (kind_of_row put.row)) other f)
      (next (get kind_cmp old.phases (kind_at place.phase (kind_of_row put.row))) (h.phases (kind_at place.phase (kind_of_row put.row))))
  on other false f = keep other (get kind_cmp old.phases other) f (h.phases other)

-- numbers that add up along entries, in whichever order they stand
pub onto_sum : (F : List Placed → ℕ) (f : Placed → ℕ) → F [] ≡ 0 → ((p : Placed) (ps : List Placed) → F (p ∷ ps) ≡ f p + F ps)
    → (earlier ps : List Placed) → F (onto earlier ps) ≡ F earlier + F ps
onto_sum F f z one earlier [] = omega (arith, z)
onto_sum F f z one earlier (p ∷ ps) = omega (arith, onto_sum F f z one (p ∷ earlier) ps, one p earlier, one p ps)

onto_len : (kind : ℕ) (test : Placed → Bool) (all : List Placed) → len_of kind test (onto [] all) ≡ len_of kind test all
onto_len kind test all = onto_sum (len_of kind test) (len_at kind test) refl (len_one kind test) [] all ∙ plus (len_of kind test all) where
  plus : (n : ℕ) → 0 + n ≡ n
  plus n = omega arith

pub counted_all : (counts : LongCounts) (all : List Placed) → AreCounted (onto [] all) counts → AreCounted all counts
counted_all counts all h = record {
  kinds = λ kind. h.kinds kind ∙ whole kind;
  phases = λ key. counts_as (onto [] all) all key (get kind_cmp counts.phases key) (onto_len key.kind (is_in key.phase) all)
      (onto_len key.kind (is_before key.phase) all) (h.phases key);
} where
  whole : (kind : ℕ) → length (long_puts kind (onto [] all)) ≡ length (long_puts kind all)
  whole kind =
      onto_sum (λ ps. length (long_puts kind ps)) (λ p. put_len kind (put_of p.line p.entry)) refl (all_one kind) [] all
      ∙ plus (length (long_puts kind all)) where
        plus : (n : ℕ) → 0 + n ≡ n
        plus n = omega arith

-- phases that never fall
raised : (low high : ℕ) (ps : List Placed) → low ≤ high → AreUpTo low ps → AreUpTo high ps
raised low high [] l h = tt
raised low high (p ∷ ps) l h = (omega (arith, h.0, l), raised low high ps l h.1)

by_phases : (phase : ℕ) (earlier ps : List Placed) → AreByPhases earlier → AreUpTo phase earlier → NeverFallFrom phase ps → AreByPhases (onto earlier ps)
by_phases phase earlier [] b u n = b
by_phases phase earlier (p ∷ ps) b u n =
    by_phases p.phase (p ∷ earlier) ps (raised phase p.phase earlier n.0 u, b) (omega arith, raised phase p.phase earlier n.0 u) n.1

pub all_by_phases : (all : List Placed) → NeverFallFrom 0 all → AreByPhases (onto [] all)
all_by_phases all n = by_phases 0 [] all tt tt n

-- what two clauses say of a call that succeeds
pub both_ok : {T E A B C : Type 0} (r : Result T E) → (A → B → C) → OnOk r A → OnOk r B → OnOk r C
both_ok (Ok x) f a b = f a b
both_ok (Err e) f a b = tt

pub counted_more_at : {T E : Type 0} (old new : LongCounts) (phase kind : ℕ) (put : Put) (r : Result T E) → kind ≡ kind_of_row put.row
    → OnOk r ((other : ℕ) → all_of_kind new.kinds other ≡ cond (kind == other) (all_of_kind old.kinds kind + 1) (all_of_kind old.kinds other))
    → OnOk r ((other : PhaseKind) → get kind_cmp new.phases other
    ≡ cond (is_same_kind (kind_at phase kind) other)
    (Some (next_counts (get kind_cmp old.phases (kind_at phase kind)) (all_of_kind old.kinds kind))) (get kind_cmp old.phases other))
    → OnOk r ((earlier : List Placed) (place : Placed) → place.phase ≡ phase → put_of place.line place.entry ≡ Some put → AreUpTo phase earlier
    → AreCounted earlier old → AreCounted (place ∷ earlier) new)
counted_more_at old new phase kind put r e kinds phases = both_ok r (λ k p earlier place at is up known.
    counted_more old new earlier place put is (subst (λ z. AreUpTo z earlier) (sym at) up)
    (subst (λ z. (other : ℕ) → all_of_kind new.kinds other ≡ cond (z == other) (all_of_kind old.kinds z + 1) (all_of_kind old.kinds other)) e k)
    (subst (λ z. (other : PhaseKind) → get kind_cmp new.phases other
    ≡ cond (is_same_kind (kind_at z (kind_of_row put.row)) other)
    (Some (next_counts (get kind_cmp old.phases (kind_at z (kind_of_row put.row))) (all_of_kind old.kinds (kind_of_row put.row)))) (get kind_cmp old.phases other)) (sym at)
    (subst (λ z. (other : PhaseKind) → get kind_cmp new.phases other
    ≡ cond (is_same_kind (kind_at phase z) other)
    (Some (next_counts (get kind_cmp old.phases (kind_at phase z)) (all_of_kind old.kinds z))) (get kind_cmp old.phases other)) e p)) known) kinds phases
