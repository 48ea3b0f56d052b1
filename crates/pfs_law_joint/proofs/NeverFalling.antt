-- Along a row, and along a word, the numbers of actions never fall.
use Rattle.std.proofs.Common.{ℕ, ◌≡◌, ◌+◌, ◌<◌, ◌≤◌, ◌==◌, Bool, true, false, cond, ◌&&◌, List, [], ◌∷◌, inl, inr, refl, ap, sym, ◌∙◌, subst, arith, eq-eqb, eqb-true, lt-ltb, le-leb}
use Rattle.std.specs.Prelude.{nat_lt, nat_le, if◌then◌else◌, not, ◌⊎◌}
use Rattle.std.proofs.lemmas.Bool.{cases_lt, false≢true}
use Rattle.pfs_lemmas.proofs.Bools.{and_first, and_second}
use Rattle.pfs_levels.specs.Calls.{Call, Adds, Rings, Reads, Loads, Draws, Takes, Puts, Frees, Sets, Enters, Leaves, Meets, action_in, after_in}
use Rattle.pfs_levels.specs.JointCalls.{total, one_if}
use Rattle.pfs_levels.specs.CallOrder.{Mark, mark, marked, AreMarked, AreOrdered, falls, is_past, reaching, AreFloored, AllCalls, word_marks_of, all_word_marks}
use Rattle.pfs_law_joint.specs.Deeds.{Deed, is_deed, WasDone, StandsBefore, RowsLaw, WordsLaw}
use Rattle.pfs_law_joint.proofs.Sums.{total_then, total_low, so_low}

puts_of : (r p : Bool) → cond r (not p) p ≡ true → p ≡ not r
puts_of true true e = absurd (false≢true e)
puts_of true false e = refl
puts_of false p e = e

pub record Same (d : Deed) (x : Mark) : Type 0 where
  pub row : x.row ≡ d.row
  pub version : x.version ≡ d.version
  pub action : x.action ≡ d.action
  pub puts : x.puts ≡ not d.releases

pub same : (d : Deed) (x : Mark) → is_deed d x ≡ true → Same d x
same d x e =
    let act : Bool = (x.action == d.action) && cond d.releases (not x.puts) x.puts in
    let rest : Bool = (x.version == d.version) && act in
    let b : rest ≡ true = and_second (x.row == d.row) rest e in
    let f : act ≡ true = and_second (x.version == d.version) act b in
    record {
      row = eqb-true x.row d.row (and_first (x.row == d.row) rest e);
      version = eqb-true x.version d.version (and_first (x.version == d.version) act b);
      action = eqb-true x.action d.action (and_first (x.action == d.action) (cond d.releases (not x.puts) x.puts) f);
      puts = puts_of d.releases x.puts (and_second (x.action == d.action) (cond d.releases (not x.puts) x.puts) f);
    }

-- it is the newest, or among the others
where_is : (d : Deed) (x : Mark) (xs : List Mark) → WasDone (x ∷ xs) d → Same d x ⊎ WasDone xs d
unfolding total
where_is d x xs up = at (is_deed d x) refl up where
  at : (b : Bool) → is_deed d x ≡ b → 0 < one_if b + total (λ m. one_if (is_deed d m)) xs → Same d x ⊎ WasDone xs d
  at true e up = inl (same d x e)
  at false e up = inr (omega (arith, up))

nothing_done : (d : Deed) → WasDone [] d → ⊥
unfolding total
nothing_done d up = omega (arith, up)

pub more : (x : Mark) (xs : List Mark) (row : ℕ) → marked xs row ≤ marked (x ∷ xs) row
unfolding marked
more x xs row = at ((x.row == row) && x.puts) where
  at : (b : Bool) → marked xs row ≤ (if b then marked xs row + 1 else marked xs row)
  at true = omega arith
  at false = omega arith

pub here : (x : Mark) (xs : List Mark) → marked (x ∷ xs) x.row ≡ (if x.puts then marked xs x.row + 1 else marked xs x.row)
unfolding marked
here x xs = ap (λ b. if b && x.puts then marked xs x.row + 1 else marked xs x.row) (eq-eqb x.row x.row refl)

low : (d : Deed) (log : List Mark) → AreMarked log → WasDone log d → d.version ≤ marked log d.row
low d [] m up = absurd (nothing_done d up)
low d (x ∷ xs) m up = elim (where_is d x xs up) [
  | inl s ↦ subst (λ r. d.version ≤ marked (x ∷ xs) r) s.row (omega (arith, s.version, m.0 ∙ sym (here x xs)))
  | inr u ↦ omega (arith, low d xs m.1 u, more x xs d.row)
]

at_least : (x : Mark) (n : ℕ) → x.version ≡ (if x.puts then n + 1 else n) → n ≤ x.version
at_least x n e = at x.puts e where
  at : (b : Bool) → x.version ≡ (if b then n + 1 else n) → n ≤ x.version
  at true e = omega (arith, e)
  at false e = omega (arith, e)

-- the later of two doesn't stand first
not_first : (f n : Deed) (x : Mark) (xs : List Mark) → AreMarked (x ∷ xs) → Same f x → WasDone xs n → StandsBefore f n → ⊥
not_first f n x xs m s up b =
    let e : x.row ≡ n.row = s.row ∙ b.0 in
    let l : n.version ≤ marked xs x.row = subst (λ r. n.version ≤ marked xs r) (sym e) (low n xs m.1 up) in
    elim b.1 [
      | inl lower ↦ omega (arith, lower, s.version, at_least x (marked xs x.row) m.0, l)
      | inr (even, first, next) ↦
          let p : x.version ≡ marked xs x.row + 1 = m.0 ∙ ap (λ b. if b then marked xs x.row + 1 else marked xs x.row) (s.puts ∙ ap not first) in
          omega (arith, p, s.version, even, l)
    ]

not_both : (f n : Deed) (x : Mark) → Same f x → Same n x → StandsBefore f n → ⊥
not_both f n x s t b = elim b.1 [
  | inl lower ↦ omega (arith, lower, s.version, t.version)
  | inr (even, first, next) ↦ absurd (false≢true (sym (ap not next) ∙ (sym t.puts ∙ (s.puts ∙ ap not first))))
]

-- the numbers of those behind don't exceed the newest's
behind : (f : Deed) (x : Mark) (xs : List Mark) → x.row ≡ f.row → 0 < x.action → total (λ p. one_if (falls x p)) xs ≡ 0 → WasDone xs f → f.action ≤ x.action
unfolding total
behind f x [] e up none some = absurd (nothing_done f some)
behind f x (p ∷ ps) e up none some = elim (where_is f p ps some) [
  | inl s ↦ at (nat_lt x.action p.action) refl s
  | inr u ↦ behind f x ps e up (omega (arith, none)) u
] where
  falls_so : Same f p → nat_lt x.action p.action ≡ true → falls x p ≡ true
  falls_so s q =
      ap (λ b. (b && nat_lt 0 x.action) && nat_lt x.action p.action) (eq-eqb p.row x.row (s.row ∙ sym e))
      ∙ (ap (λ b. b && nat_lt x.action p.action) (lt-ltb 0 x.action up) ∙ q)

  at : (b : Bool) → nat_lt x.action p.action ≡ b → Same f p → f.action ≤ x.action
  at true q s = absurd (omega (arith, none, ap one_if (falls_so s q)))
  at false q s = let h : p.action ≤ x.action = grind (arith, q) in omega (arith, h, s.action)

orders : (f n : Deed) (log : List Mark) → AreMarked log → AreOrdered log → 0 < n.action → WasDone log f → WasDone log n → StandsBefore f n → f.action ≤ n.action
orders f n [] m o up a b s = absurd (nothing_done f a)
orders f n (x ∷ xs) m o up a b s = elim (where_is n x xs b) [
  | inl t ↦ elim (where_is f x xs a) [
    | inl r ↦ absurd (not_both f n x r t s)
    | inr u ↦ omega (arith, behind f x xs (t.row ∙ sym s.0) (omega (arith, up, t.action)) o.0 u, t.action)
  ]
  | inr v ↦ elim (where_is f x xs a) [
    | inl r ↦ absurd (not_first f n x xs m r v s)
    | inr u ↦ orders f n xs m.1 o.1 up u v s
  ]
]

pub rows_never_fall : RowsLaw
rows_never_fall = λ log m o first next f n up before. orders first next log m o up f n before

-- a set is above those of the actions that its own knew as ended, and these are all before it
pub inside : (calls : List Call) → (action_in calls ≡ 0) ⊎ (action_in calls ≡ after_in calls + 1)
inside [] = inl refl
inside (Enters label labels ∷ calls) = inr refl
inside (Leaves ∷ calls) = inl refl
inside (Adds row amount answer ∷ calls) = inside calls
inside (Rings row content answer ∷ calls) = inside calls
inside (Reads row seen ∷ calls) = inside calls
inside (Loads at version flags ∷ calls) = inside calls
inside (Draws kind ticket ∷ calls) = inside calls
inside (Meets versions ∷ calls) = inside calls
inside (Takes row version found ∷ calls) = inside calls
inside (Puts row content version ∷ calls) = inside calls
inside (Frees row version ∷ calls) = inside calls
inside (Sets at flags version ∷ calls) = inside calls

record IsSetSo (words : List Mark) (m : Mark) : Type 0 where
  pub floor : reaching words m.row m.version m.after ≡ 0
  pub inside : (m.action ≡ 0) ⊎ (m.action ≡ m.after + 1)

abbrev Found : Deed → List Mark → Type 0
Found d words = (m : Mark) × (Same d m × IsSetSo words m)

in_calls : (d : Deed) (log words : List Mark) (calls : List Call) → AreFloored log words calls → WasDone (word_marks_of calls) d → Found d words
unfolding total word_marks_of
in_calls d log words [] f up = absurd (nothing_done d up)
in_calls d log words (Sets at flags version ∷ calls) f up = elim (where_is d (mark at version true (action_in calls) (after_in calls)) (word_marks_of calls) up) [
  | inl s ↦ (mark at version true (action_in calls) (after_in calls), (s, record { floor = f.0; inside = inside calls }))
  | inr u ↦ in_calls d log words calls f.1 u
]
in_calls d log words (Adds row amount answer ∷ calls) f up = in_calls d log words calls f.1 up
in_calls d log words (Rings row content answer ∷ calls) f up = in_calls d log words calls f.1 up
in_calls d log words (Reads row seen ∷ calls) f up = in_calls d log words calls f.1 up
in_calls d log words (Loads at version flags ∷ calls) f up = in_calls d log words calls f.1 up
in_calls d log words (Draws kind ticket ∷ calls) f up = in_calls d log words calls f.1 up
in_calls d log words (Meets versions ∷ calls) f up = in_calls d log words calls f.1 up
in_calls d log words (Takes row version found ∷ calls) f up = in_calls d log words calls f.1 up
in_calls d log words (Puts row content version ∷ calls) f up = in_calls d log words calls f.1 up
in_calls d log words (Frees row version ∷ calls) f up = in_calls d log words calls f.1 up
in_calls d log words (Enters label labels ∷ calls) f up = in_calls d log words calls f.1 up
in_calls d log words (Leaves ∷ calls) f up = in_calls d log words calls f.1 up

in_actors : (d : Deed) (log words : List Mark) (actors : List (List Call)) → AllCalls (AreFloored log words) actors → WasDone (all_word_marks actors) d → Found d words
unfolding all_word_marks
in_actors d log words [] f up = absurd (nothing_done d up)
in_actors d log words (calls ∷ actors) f up =
    let t = total_then (λ m. one_if (is_deed d m)) (word_marks_of calls) (all_word_marks actors) in
    elim (cases_lt 0 (total (λ m. one_if (is_deed d m)) (word_marks_of calls))) [
      | inl own ↦ in_calls d log words calls f.0 own
      | inr none ↦ in_actors d log words actors f.1 (omega (arith, up, t, none))
    ]

all_true : (a b c d : Bool) → a ≡ true → b ≡ true → c ≡ true → d ≡ true → (((a && b) && c) && d) ≡ true
all_true a b c d p q r s = ap (λ z. ((z && b) && c) && d) p ∙ (ap (λ z. (z && c) && d) q ∙ (ap (λ z. z && d) r ∙ s))

up_to : (first next : Deed) → StandsBefore first next → first.version ≤ next.version
up_to first next s = elim s.1 [
  | inl lower ↦ omega (arith, lower)
  | inr (even, puts, releases) ↦ omega (arith, even)
]

concluded : (first next : Deed) (words : List Mark) → Found first words → WasDone words next → 0 < next.action → StandsBefore first next → first.action ≤ next.action
concluded first next words found n up before = at (cases_lt next.action first.action) where
  reaches : next.action ≤ found.0.after → (p : Mark) → one_if (is_deed next p) ≤ one_if (is_past found.0.row found.0.after p && nat_le found.0.version p.version)
  reaches old p = so_low (is_deed next p) (is_past found.0.row found.0.after p && nat_le found.0.version p.version) (λ is.
      let t : Same next p = same next p is in
      let s : Same first found.0 = found.1.0 in
      let r : p.row ≡ found.0.row = t.row ∙ (sym before.0 ∙ sym s.row) in
      let low : first.version ≤ next.version = up_to first next before in
      all_true (p.row == found.0.row) (nat_lt 0 p.action) (nat_le p.action found.0.after) (nat_le found.0.version p.version)
      (eq-eqb p.row found.0.row r) (lt-ltb 0 p.action (omega (arith, up, t.action))) (le-leb p.action found.0.after (omega (arith, old, t.action)))
      (le-leb found.0.version p.version (omega (arith, low, t.version, s.version))))

  never : next.action ≤ found.0.after → ⊥
  never old =
      let some = total_low (λ p. one_if (is_deed next p)) (λ p. one_if (is_past found.0.row found.0.after p && nat_le found.0.version p.version)) (reaches old) words in
      omega (arith, some, n, found.1.1.floor)

  at : (next.action < first.action) ⊎ (first.action ≤ next.action) → first.action ≤ next.action
  at (inr low) = low
  at (inl high) = elim found.1.1.inside [
    | inl none ↦ absurd (omega (arith, none, found.1.0.action, high))
    | inr one ↦ absurd (never (omega (arith, one, found.1.0.action, high)))
  ]

pub words_never_fall : WordsLaw
words_never_fall = λ actors log words floored once first next f n up before.
    concluded first next words (in_actors first log words actors floored (omega (arith, f, once (λ m. one_if (is_deed first m))))) n up before
