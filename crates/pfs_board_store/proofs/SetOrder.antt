-- The sets of words of all actors, in the order in which the writer made them.
use Rattle.std.proofs.Common.{ℕ, ◌≡◌, ◌+◌, ◌==◌, ◌<◌, ◌&&◌, Bool, true, false, cond, List, [], ◌∷◌, ◌++◌, refl, ap, sym, ◌∙◌, arith, append_assoc, eq-eqb}
use Rattle.std.proofs.lemmas.Bool.{eqb-true, and_parts}
use Rattle.pfs_levels.specs.Calls.{Call, Adds, Rings, Reads, Loads, Draws, Takes, Puts, Frees, Sets, Enters, Leaves, Meets}
use Rattle.pfs_levels.specs.JointCalls.{total, one_if, Setting, sets_by, sets_of, word_version, AreWordsCounted, all_calls}
use Rattle.pfs_levels.specs.CallOrder.{Mark, word_marks_of, all_word_marks, marked, AreMarked, AllCalls, AreFloored}
use Rattle.pfs_board_store.proofs.ChangeOrder.{total_append}
use Rattle.pfs_board_store.proofs.ListSums.{total_one, total_nil}

-- what is weighed of a set, and of its mark
abbrev Weight : Type 0
Weight = ℕ → ℕ → Bool → ℕ

abbrev of_mark : Weight → Mark → ℕ
of_mark g m = g m.row m.version m.puts

abbrev of_set : Weight → Setting → ℕ
of_set g s = g s.word s.version true

marks_weigh : (g : Weight) (calls : List Call) → total (of_mark g) (word_marks_of calls) ≡ total (of_set g) (sets_of calls)
unfolding word_marks_of sets_of total
marks_weigh g [] = refl
marks_weigh g (Sets at to k ∷ calls) = ap (λ n. g at k true + n) (marks_weigh g calls)
marks_weigh g (Adds row amount answer ∷ calls) = marks_weigh g calls
marks_weigh g (Rings row put answer ∷ calls) = marks_weigh g calls
marks_weigh g (Reads row seen ∷ calls) = marks_weigh g calls
marks_weigh g (Loads at k found ∷ calls) = marks_weigh g calls
marks_weigh g (Draws kind ticket ∷ calls) = marks_weigh g calls
marks_weigh g (Meets versions ∷ calls) = marks_weigh g calls
marks_weigh g (Takes row k found ∷ calls) = marks_weigh g calls
marks_weigh g (Puts row put k ∷ calls) = marks_weigh g calls
marks_weigh g (Frees row k ∷ calls) = marks_weigh g calls
marks_weigh g (Enters label labels ∷ calls) = marks_weigh g calls
marks_weigh g (Leaves ∷ calls) = marks_weigh g calls

sets_append : (xs ys : List Call) → sets_of (xs ++ ys) ≡ sets_of xs ++ sets_of ys
unfolding sets_of
sets_append [] ys = refl
sets_append (x ∷ xs) ys = ap (λ z. sets_by x ++ z) (sets_append xs ys) ∙ sym (append_assoc (sets_by x) (sets_of xs) (sets_of ys))

all_weigh : (g : Weight) (actors : List (List Call)) → total (of_mark g) (all_word_marks actors) ≡ total (of_set g) (sets_of (all_calls actors))
unfolding all_word_marks all_calls word_marks_of
all_weigh g [] = marks_weigh g []
all_weigh g (calls ∷ actors) =
    total_append (of_mark g) (word_marks_of calls) (all_word_marks actors) ∙ ap (λ n. n + total (of_mark g) (all_word_marks actors)) (marks_weigh g calls) ∙ ap (λ n. total (of_set g) (sets_of calls) + n) (all_weigh g actors)
    ∙ sym (total_append (of_set g) (sets_of calls) (sets_of (all_calls actors))) ∙ sym (ap (total (of_set g)) (sets_append calls (all_calls actors)))

-- one that a test finds in a list, and the others
record Found (f : Mark → Bool) (xs : List Mark) : Type 0 where
  one : Mark
  is : f one ≡ true
  rest : List Mark
  sums : (h : Mark → ℕ) → total h xs ≡ h one + total h rest

find_here : (f : Mark → Bool) (x : Mark) (xs : List Mark) (b : Bool) → f x ≡ b → (b ≡ false → Found f xs) → Found f (x ∷ xs)
find_here f x xs true e more = record { one = x; is = e; rest = xs; sums = λ h. total_one h x xs }
find_here f x xs false e more = let m = more refl in record { one = m.one; is = m.is; rest = x ∷ m.rest; sums = λ h. omega (arith, total_one h x xs, m.sums h, total_one h x m.rest) }

find : (f : Mark → Bool) (xs : List Mark) → 0 < total (λ x. one_if (f x)) xs → Found f xs
find f [] some = absurd (omega (arith, some, total_nil (λ x. one_if (f x))))
find f (x ∷ xs) some = find_here f x xs (f x) refl (λ e. let none : one_if (f x) ≡ 0 = ap one_if e in find f xs (omega (arith, some, none, total_one (λ z. one_if (f z)) x xs)))

-- each mark is that of the set at its place
abbrev Pairs : List Setting → List Mark → Type 0
Pairs [] [] = Unit {0}
Pairs [] (m ∷ ms) = ⊥
Pairs (s ∷ ss) [] = ⊥
Pairs (s ∷ ss) (m ∷ ms) = (m.row ≡ s.word) × (m.version ≡ s.version) × (m.puts ≡ true) × Pairs ss ms

record Paired (sets : List Setting) (marks : List Mark) : Type 0 where
  order : List Mark
  pairs : Pairs sets order
  sums : (h : Mark → ℕ) → total h marks ≡ total h order

abbrev same_bits : Bool → Bool → Bool
same_bits true b = b
same_bits false b = false

bits_true : (b : Bool) → same_bits b true ≡ true → b ≡ true
bits_true true e = refl
bits_true false e = absurd (cc)

weighs_same : (q : Weight) (r w k n : ℕ) (b : Bool) → r ≡ w → k ≡ n → b ≡ true → q r k b ≡ q w n true
weighs_same q r w k n b row version puts = ap (λ z. q z k b) row ∙ ap (λ z. q w z b) version ∙ ap (λ z. q w n z) puts

paired : (sets : List Setting) (marks : List Mark) → ((g : Weight) → total (of_mark g) marks ≡ total (of_set g) sets) → Paired sets marks
paired [] [] e = record { order = []; pairs = tt; sums = λ h. refl }
paired [] (m ∷ ms) e = absurd (omega (arith, e (λ _ _ _. 1), total_one (of_mark (λ _ _ _. 1)) m ms, total_nil (of_set (λ _ _ _. 1))))
paired (s ∷ ss) marks e =
    let g : Weight = λ r k b. one_if ((r == s.word) && ((k == s.version) && same_bits b true)) in
    let f : Mark → Bool = λ m. (m.row == s.word) && ((m.version == s.version) && same_bits m.puts true) in
    let here : of_set g s ≡ 1 = rw (eq-eqb s.word s.word refl, eq-eqb s.version s.version refl) refl in
    let m = find f marks (omega (arith, e g, here, total_one (of_set g) s ss)) in
    let x = and_parts (m.one.row == s.word) ((m.one.version == s.version) && same_bits m.one.puts true) m.is in
    let y = and_parts (m.one.version == s.version) (same_bits m.one.puts true) x.1 in
    let row : m.one.row ≡ s.word = eqb-true m.one.row s.word x.0 in
    let version : m.one.version ≡ s.version = eqb-true m.one.version s.version y.0 in
    let puts : m.one.puts ≡ true = bits_true m.one.puts y.1 in
    let fewer : (q : Weight) → total (of_mark q) m.rest ≡ total (of_set q) ss = λ q.
    let same : of_mark q m.one ≡ of_set q s = weighs_same q m.one.row s.word m.one.version s.version m.one.puts row version puts in
    omega (arith, e q, m.sums (of_mark q), total_one (of_set q) s ss, same) in
    let rest = paired ss m.rest fewer in
    record {
      order = m.one ∷ rest.order;
      pairs = (row, version, puts, rest.pairs);
      sums = λ h. omega (arith, m.sums h, rest.sums h, total_one h m.one rest.order);
    }

paired_count : (sets : List Setting) (marks : List Mark) (at : ℕ) → Pairs sets marks → marked marks at ≡ word_version sets at
unfolding marked word_version
paired_count [] [] at p = refl
paired_count [] (m ∷ ms) at p = absurd p
paired_count (s ∷ ss) [] at p = absurd p
paired_count (s ∷ ss) (m ∷ ms) at p = ap (λ z. cond ((z == at) && m.puts) (marked ms at + 1) (marked ms at)) p.0 ∙ ap (λ z. cond ((s.word == at) && z) (marked ms at + 1) (marked ms at)) p.2 ∙ sure (s.word == at) ∙ ap (λ n. cond (s.word == at) (n + 1) n) (paired_count ss ms at p.3) where
  sure : (b : Bool) → cond (b && true) (marked ms at + 1) (marked ms at) ≡ cond b (marked ms at + 1) (marked ms at)
  sure true = refl
  sure false = refl

paired_chain : (sets : List Setting) (marks : List Mark) → Pairs sets marks → AreWordsCounted sets → AreMarked marks
paired_chain [] [] p c = tt
paired_chain [] (m ∷ ms) p c = absurd p
paired_chain (s ∷ ss) [] p c = absurd p
paired_chain (s ∷ ss) (m ∷ ms) p c =
    (p.1 ∙ c.0 ∙ ap (λ n. n + 1) (sym (paired_count ss ms s.word p.3) ∙ ap (marked ms) (sym p.0)) ∙ sym (ap (λ b. cond b (marked ms m.row + 1) (marked ms m.row)) p.2), paired_chain ss ms p.3 c.1)

-- floors are sums, so they don't ask for the order
floors_same : (xs ys : List Mark) → ((h : Mark → ℕ) → total h xs ≡ total h ys) → (calls : List Call) → AreFloored [] xs calls → AreFloored [] ys calls
floors_same xs ys e [] f = tt
floors_same xs ys e (Loads at k found ∷ calls) f = (sym (e _) ∙ f.0, floors_same xs ys e calls f.1)
floors_same xs ys e (Meets versions ∷ calls) f = ((λ at low. sym (e _) ∙ f.0 at low), floors_same xs ys e calls f.1)
floors_same xs ys e (Sets at to k ∷ calls) f = (sym (e _) ∙ f.0, floors_same xs ys e calls f.1)
floors_same xs ys e (Adds row amount answer ∷ calls) f = (f.0, floors_same xs ys e calls f.1)
floors_same xs ys e (Rings row put answer ∷ calls) f = (f.0, floors_same xs ys e calls f.1)
floors_same xs ys e (Reads row seen ∷ calls) f = (f.0, floors_same xs ys e calls f.1)
floors_same xs ys e (Draws kind ticket ∷ calls) f = (f.0, floors_same xs ys e calls f.1)
floors_same xs ys e (Takes row k found ∷ calls) f = (f.0, floors_same xs ys e calls f.1)
floors_same xs ys e (Puts row put k ∷ calls) f = (f.0, floors_same xs ys e calls f.1)
floors_same xs ys e (Frees row k ∷ calls) f = (f.0, floors_same xs ys e calls f.1)
floors_same xs ys e (Enters label labels ∷ calls) f = (tt, floors_same xs ys e calls f.1)
floors_same xs ys e (Leaves ∷ calls) f = (tt, floors_same xs ys e calls f.1)

all_floors_same : (xs ys : List Mark) → ((h : Mark → ℕ) → total h xs ≡ total h ys) → (actors : List (List Call)) → AllCalls (AreFloored [] xs) actors → AllCalls (AreFloored [] ys) actors
all_floors_same xs ys e [] f = tt
all_floors_same xs ys e (calls ∷ actors) f = (floors_same xs ys e calls f.0, all_floors_same xs ys e actors f.1)

-- the marks of all sets in the writer's order
pub record Marked (actors : List (List Call)) : Type 0 where
  pub order : List Mark
  pub chain : AreMarked order
  pub once : (h : Mark → ℕ) → total h (all_word_marks actors) ≡ total h order
  pub floored : AllCalls (AreFloored [] (all_word_marks actors)) actors → AllCalls (AreFloored [] order) actors

pub in_order : (actors : List (List Call)) (sets : List Setting) → AreWordsCounted sets → ((h : Setting → ℕ) → total h (sets_of (all_calls actors)) ≡ total h sets) → Marked actors
in_order actors sets c same =
    let p = paired sets (all_word_marks actors) (λ g. all_weigh g actors ∙ same (of_set g)) in
    record { order = p.order; chain = paired_chain sets p.order p.pairs c; once = p.sums; floored = all_floors_same (all_word_marks actors) p.order p.sums actors }
