-- The history of a board gives the order of all actors' changes.
use Rattle.std.proofs.Common.{ℕ, zero, suc, ◌≡◌, ◌+◌, ◌==◌, ◌<◌, ◌≤◌, nat_lt, ◌&&◌, Bool, true, false, cond, List, [], ◌∷◌, ◌++◌, refl, ap, sym, ◌∙◌, subst, inl, inr, arith, eq-eqb, ne_eqb, append_assoc, zero-add, add_assoc}
use Rattle.std.proofs.lemmas.Bool.{cases_eq, eqb-true, lt-ltb, ltb-true}
use Rattle.pfs_board.specs.declared.view.Change.{Change}
use Rattle.pfs_board.specs.History as board
use Rattle.pfs_board.specs.History.{Each, IsChain, Rises, version}
use Rattle.pfs_board.proofs.HistoryFacts.{length_labels}
use Rattle.pfs_levels.specs.declared.answers.Added.TheVariants.{Counted, Held}
use Rattle.pfs_levels.specs.declared.answers.RingPut.TheVariants.{Done, Busy, Late}
use Rattle.pfs_levels.specs.Calls.{Call, Adds, Rings, Reads, Loads, Draws, Takes, Puts, Frees, Sets, Enters, Leaves, Meets, Start}
use Rattle.pfs_levels.specs.JointCalls.{total, one_if, At, changes_by, changes_of, count, IsCounted, all_calls}
use Rattle.pfs_levels.specs.CallOrder.{Mark, mark, marks_of, all_marks, marked, AreMarked, falls, AreOrdered, AreRising, AreThere, AllCalls}
use Rattle.pfs_board_store.specs.Ties.{IsMade, IsTied}
use Rattle.pfs_board_store.proofs.ActionLabels.{are_named}
use Rattle.pfs_board_store.specs.RootActors.{Worked, calls_of_all, AreParts, AllDone, ats_by, ats_of, marks_in, ChangedLaw}

abbrev at : ℕ → ℕ → Bool → At
at row v puts = record { row = row; version = v; puts = puts }

abbrev Tied : Worked → List Change → Type 0
Tied a made = IsTied a.start.board a.calls made

pub total_append : {A : Type 0} (h : A → ℕ) (xs ys : List A) → total h (xs ++ ys) ≡ total h xs + total h ys
unfolding total
total_append h [] ys = sym (zero-add (total h ys))
total_append h (x ∷ xs) ys = ap (λ n. h x + n) (total_append h xs ys) ∙ sym (add_assoc (h x) (total h xs) (total h ys))

none : {A : Type 0} (h : A → ℕ) → (let zero : ℕ = 0 in zero ≡ total h [])
unfolding total
none h = refl

changes_append : (xs ys : List Call) → changes_of (xs ++ ys) ≡ changes_of xs ++ changes_of ys
unfolding changes_of
changes_append [] ys = refl
changes_append (x ∷ xs) ys = ap (λ z. changes_by x ++ z) (changes_append xs ys) ∙ sym (append_assoc (changes_by x) (changes_of xs) (changes_of ys))

made_at : (start : Start) (action after r v : ℕ) (puts : Bool) (p : Change) → 0 < r → IsMade start action after r v puts p → at r v puts ∷ [] ≡ ats_by p
made_at start action after r v puts p some s =
    ap (λ z. at z v puts ∷ []) (sym s.row_is) ∙ ap (λ z. at p.row z puts ∷ []) (sym s.version_is) ∙ ap (λ z. at p.row p.version z ∷ []) (sym s.puts_is)
    ∙ sym (ap (λ b. cond b (at p.row p.version p.puts ∷ []) []) (lt-ltb 0 p.row (subst (λ z. 0 < z) (sym s.row_is) some)))

first_at : (p : Change) → p.row ≡ 0 → [] ≡ ats_by p
first_at p e = sym (ap (λ z. cond (nat_lt 0 z) (at p.row p.version p.puts ∷ []) []) e)

made_mark : (start : Start) (action after r v : ℕ) (puts : Bool) (p : Change) → IsMade start action after r v puts p → mark r v puts action after ≡ mark p.row p.version p.puts p.action p.after
made_mark start action after r v puts p s =
    ap (λ z. mark z v puts action after) (sym s.row_is) ∙ ap (λ z. mark p.row z puts action after) (sym s.version_is) ∙ ap (λ z. mark p.row p.version z action after) (sym s.puts_is)
    ∙ ap (λ z. mark p.row p.version p.puts z after) (sym s.action_is) ∙ ap (λ z. mark p.row p.version p.puts p.action z) (sym s.after_is)

-- a tied actor's calls made just its seat's changes
tied_ats : (start : Start) (calls : List Call) (made : List Change) → IsTied start calls made → changes_of calls ≡ ats_of made
unfolding changes_of ats_of
tied_ats start [] made t = sym (ap ats_of t)
tied_ats start (Adds row amount (Counted r v) ∷ calls) [] t = absurd t
tied_ats start (Adds row amount (Counted r v) ∷ calls) (p ∷ made) t = ap (λ z. z ++ changes_of calls) (made_at start _ _ r v true p t.0 t.1) ∙ ap (λ z. ats_by p ++ z) (tied_ats start calls made t.3)
tied_ats start (Adds row amount (Held r v w) ∷ calls) made t = tied_ats start calls made t
tied_ats start (Rings row content (Done v) ∷ calls) [] t = absurd t
tied_ats start (Rings row content (Done v) ∷ calls) (p ∷ made) t = ap (λ z. z ++ changes_of calls) (made_at start _ _ row v true p t.0 t.1) ∙ ap (λ z. ats_by p ++ z) (tied_ats start calls made t.3)
tied_ats start (Rings row content (Busy v w) ∷ calls) made t = tied_ats start calls made t
tied_ats start (Rings row content (Late n v) ∷ calls) made t = tied_ats start calls made t
tied_ats start (Reads row seen ∷ calls) made t = tied_ats start calls made t
tied_ats start (Loads word v flags ∷ calls) made t = tied_ats start calls made t
tied_ats start (Draws kind ticket ∷ calls) made t = tied_ats start calls made t
tied_ats start (Takes row v found ∷ calls) made t = tied_ats start calls made t.2
tied_ats start (Puts row content v ∷ calls) [] t = absurd t
tied_ats start (Puts row content v ∷ calls) (p ∷ made) t = ap (λ z. z ++ changes_of calls) (made_at start _ _ row v true p t.0 t.1) ∙ ap (λ z. ats_by p ++ z) (tied_ats start calls made t.4)
tied_ats start (Frees row v ∷ calls) [] t = absurd t
tied_ats start (Frees row v ∷ calls) (p ∷ made) t = ap (λ z. z ++ changes_of calls) (made_at start _ _ row v false p t.0 t.1) ∙ ap (λ z. ats_by p ++ z) (tied_ats start calls made t.4)
tied_ats start (Sets word flags v ∷ calls) made t = tied_ats start calls made t.1
tied_ats start (Meets versions ∷ calls) made t = tied_ats start calls made t
tied_ats start (Enters label labels ∷ calls) made t = tied_ats start calls made t
tied_ats start (Leaves ∷ calls) [] t = absurd t
tied_ats start (Leaves ∷ calls) (p ∷ made) t = ap (λ z. z ++ changes_of calls) (first_at p t.1.row_is) ∙ ap (λ z. ats_by p ++ z) (tied_ats start calls made t.3)

pub tied_marks : (start : Start) (calls : List Call) (made : List Change) → IsTied start calls made → marks_of calls ≡ marks_in made
unfolding marks_of marks_in
tied_marks start [] made t = sym (ap marks_in t)
tied_marks start (Adds row amount (Counted r v) ∷ calls) [] t = absurd t
tied_marks start (Adds row amount (Counted r v) ∷ calls) (p ∷ made) t = ap (λ z. z ∷ marks_of calls) (made_mark start _ _ r v true p t.1) ∙ ap (λ z. mark p.row p.version p.puts p.action p.after ∷ z) (tied_marks start calls made t.3)
tied_marks start (Adds row amount (Held r v w) ∷ calls) made t = tied_marks start calls made t
tied_marks start (Rings row content (Done v) ∷ calls) [] t = absurd t
tied_marks start (Rings row content (Done v) ∷ calls) (p ∷ made) t = ap (λ z. z ∷ marks_of calls) (made_mark start _ _ row v true p t.1) ∙ ap (λ z. mark p.row p.version p.puts p.action p.after ∷ z) (tied_marks start calls made t.3)
tied_marks start (Rings row content (Busy v w) ∷ calls) made t = tied_marks start calls made t
tied_marks start (Rings row content (Late n v) ∷ calls) made t = tied_marks start calls made t
tied_marks start (Reads row seen ∷ calls) made t = tied_marks start calls made t
tied_marks start (Loads word v flags ∷ calls) made t = tied_marks start calls made t
tied_marks start (Draws kind ticket ∷ calls) made t = tied_marks start calls made t
tied_marks start (Takes row v found ∷ calls) made t = tied_marks start calls made t.2
tied_marks start (Puts row content v ∷ calls) [] t = absurd t
tied_marks start (Puts row content v ∷ calls) (p ∷ made) t = ap (λ z. z ∷ marks_of calls) (made_mark start _ _ row v true p t.1) ∙ ap (λ z. mark p.row p.version p.puts p.action p.after ∷ z) (tied_marks start calls made t.4)
tied_marks start (Frees row v ∷ calls) [] t = absurd t
tied_marks start (Frees row v ∷ calls) (p ∷ made) t = ap (λ z. z ∷ marks_of calls) (made_mark start _ _ row v false p t.1) ∙ ap (λ z. mark p.row p.version p.puts p.action p.after ∷ z) (tied_marks start calls made t.4)
tied_marks start (Sets word flags v ∷ calls) made t = tied_marks start calls made t.1
tied_marks start (Meets versions ∷ calls) made t = tied_marks start calls made t
tied_marks start (Enters label labels ∷ calls) made t = tied_marks start calls made t
tied_marks start (Leaves ∷ calls) [] t = absurd t
tied_marks start (Leaves ∷ calls) (p ∷ made) t = ap (λ z. z ∷ marks_of calls) (made_mark start _ _ 0 _ true p t.1) ∙ ap (λ z. mark p.row p.version p.puts p.action p.after ∷ z) (tied_marks start calls made t.3)

-- the same of all actors
ats_append : (xs ys : List Change) → ats_of (xs ++ ys) ≡ ats_of xs ++ ats_of ys
unfolding ats_of
ats_append [] ys = refl
ats_append (x ∷ xs) ys = ap (λ z. ats_by x ++ z) (ats_append xs ys) ∙ sym (append_assoc (ats_by x) (ats_of xs) (ats_of ys))

marks_append : (xs ys : List Change) → marks_in (xs ++ ys) ≡ marks_in xs ++ marks_in ys
unfolding marks_in
marks_append [] ys = refl
marks_append (x ∷ xs) ys = ap (λ z. mark x.row x.version x.puts x.action x.after ∷ z) (marks_append xs ys)

pub all_ats : (actors : List Worked) (made : List Change) → AreParts Tied actors made → changes_of (all_calls (calls_of_all actors)) ≡ ats_of made
unfolding all_calls changes_of ats_of
all_ats [] made g = sym (ap ats_of g)
all_ats (a ∷ actors) made g =
    changes_append a.calls (all_calls (calls_of_all actors)) ∙ ap (λ z. z ++ changes_of (all_calls (calls_of_all actors))) (tied_ats a.start.board a.calls g.0 g.3)
    ∙ ap (λ z. ats_of g.0 ++ z) (all_ats actors g.1 g.4) ∙ sym (ats_append g.0 g.1) ∙ sym (ap ats_of g.2)

pub all_marked : (actors : List Worked) (made : List Change) → AreParts Tied actors made → all_marks (calls_of_all actors) ≡ marks_in made
unfolding all_marks marks_in
all_marked [] made g = sym (ap marks_in g)
all_marked (a ∷ actors) made g =
    ap (λ z. z ++ all_marks (calls_of_all actors)) (tied_marks a.start.board a.calls g.0 g.3) ∙ ap (λ z. marks_in g.0 ++ z) (all_marked actors g.1 g.4) ∙ sym (marks_append g.0 g.1) ∙ sym (ap marks_in g.2)

-- the sums over a board's changes are those over what is said of them
ats_weigh : (h : At → ℕ) (ps : List Change) → board.total (λ p. total h (ats_by p)) ps ≡ total h (ats_of ps)
unfolding ats_of
ats_weigh h [] = none h
ats_weigh h (p ∷ ps) = ap (λ n. total h (ats_by p) + n) (ats_weigh h ps) ∙ sym (total_append h (ats_by p) (ats_of ps))

marks_weigh : (h : Mark → ℕ) (ps : List Change) → board.total (λ p. h (mark p.row p.version p.puts p.action p.after)) ps ≡ total h (marks_in ps)
unfolding marks_in total
marks_weigh h [] = refl
marks_weigh h (p ∷ ps) = ap (λ n. h (mark p.row p.version p.puts p.action p.after) + n) (marks_weigh h ps)

-- the chain of a board's rows is that of what is said of its changes
count_step : (puts : Bool) (r row v : ℕ) (xs : List At) → 0 < row → count (cond (nat_lt 0 r) (at r v puts ∷ []) [] ++ xs) row ≡ cond (r == row) (count xs row + cond puts 1 0) (count xs row)
unfolding count
count_step puts r row v xs some = elim (cases_eq r row) [
  | inl e ↦ rw (lt-ltb 0 r (omega (arith, e, some)), eq-eqb r row e) (here puts (count xs row))
  | inr e ↦ rw (ne_eqb r row e) (away (nat_lt 0 r) e)
] where
  here : (b : Bool) (n : ℕ) → cond b (n + 1) n ≡ n + cond b 1 0
  here true n = refl
  here false n = omega arith

  away : (b : Bool) → (r ≡ row → ⊥) → count (cond b (at r v puts ∷ []) [] ++ xs) row ≡ count xs row
  away true apart = rw (ne_eqb r row apart) refl
  away false apart = refl

pub counts : (start : List ℕ) (log : List Change) (row : ℕ) → 0 < row → count (ats_of log) row ≡ version log row
unfolding ats_of count
counts start [] row some = refl
counts start (p ∷ ps) row some = count_step p.puts p.row row p.version (ats_of ps) some ∙ ap (λ n. cond (p.row == row) (n + cond p.puts 1 0) n) (counts start ps row some)

chain_step : (puts : Bool) (r v : ℕ) (xs : List At) → IsCounted xs → (0 < r → v ≡ cond puts (count xs r + 1) (count xs r)) → IsCounted (cond (nat_lt 0 r) (at r v puts ∷ []) [] ++ xs)
chain_step puts zero v xs c f = c
chain_step puts (suc r) v xs c f = subst (λ b. IsCounted (cond b (at (suc r) v puts ∷ []) [] ++ xs)) (sym (lt-ltb 0 (suc r) (omega arith))) (f (omega arith), c)

as_next : (b : Bool) (v n m : ℕ) → n ≡ m → v ≡ n + cond b 1 0 → v ≡ cond b (m + 1) m
as_next true v n m e f = omega (arith, e, f)
as_next false v n m e f = omega (arith, e, f)

chain : (start : List ℕ) (log : List Change) → IsChain start log → IsCounted (ats_of log)
unfolding ats_of
chain start [] c = tt
chain start (p ∷ ps) c = chain_step p.puts p.row p.version (ats_of ps) (chain start ps c.1) (λ some. as_next p.puts p.version (version ps p.row) (count (ats_of ps) p.row) (sym (counts start ps p.row some)) c.0.numbered)

mark_step : (b c : Bool) (n : ℕ) → cond (b && c) (n + 1) n ≡ cond b (n + cond c 1 0) n
mark_step true true n = refl
mark_step true false n = omega arith
mark_step false c n = refl

pub mark_counts : (log : List Change) (row : ℕ) → marked (marks_in log) row ≡ version log row
unfolding marks_in marked
mark_counts [] row = refl
mark_counts (p ∷ ps) row = mark_step (p.row == row) p.puts (marked (marks_in ps) row) ∙ ap (λ n. cond (p.row == row) (n + cond p.puts 1 0) n) (mark_counts ps row)

mark_chain : (start : List ℕ) (log : List Change) → IsChain start log → AreMarked (marks_in log)
unfolding marks_in
mark_chain start [] c = tt
mark_chain start (p ∷ ps) c = (as_next p.puts p.version (version ps p.row) (marked (marks_in ps) p.row) (sym (mark_counts ps p.row)) c.0.numbered, mark_chain start ps c.1)

-- along a row the numbers of the actions never fall
three : (a b c : Bool) → (a ≡ true → b ≡ true → c ≡ true → ⊥) → one_if (a && b && c) ≡ 0
three true true true h = absurd (h refl refl refl)
three true true false h = refl
three true false c h = refl
three false b c h = refl

none_falls : (x : Mark) (ps : List Change) → (0 < x.action → Each (λ (e : Change). e.row ≡ x.row → e.action ≤ x.action) ps) → total (λ p. one_if (falls x p)) (marks_in ps) ≡ 0
unfolding marks_in total
none_falls x [] f = refl
none_falls x (p ∷ ps) f = ap (λ n. n + total (λ m. one_if (falls x m)) (marks_in ps)) (three (p.row == x.row) (nat_lt 0 x.action) (nat_lt x.action p.action) (λ a b c. omega (arith, (f (ltb-true 0 x.action b)).0 (eqb-true p.row x.row a), ltb-true x.action p.action c)))
    ∙ zero-add (total (λ m. one_if (falls x m)) (marks_in ps)) ∙ none_falls x ps (λ some. (f some).1)

order : (log : List Change) → Rises log → AreOrdered (marks_in log)
unfolding marks_in
order [] r = tt
order (p ∷ ps) r = (none_falls (mark p.row p.version p.puts p.action p.after) ps r.0, order ps r.1)

all_rise : (actors : List Worked) → AllDone actors → AllCalls AreRising (calls_of_all actors)
all_rise [] d = tt
all_rise (a ∷ actors) d = (d.0.rising, all_rise actors d.1)

all_there : (actors : List Worked) → AllDone actors → AllCalls AreThere (calls_of_all actors)
all_there [] d = tt
all_there (a ∷ actors) d = (d.0.there, all_there actors d.1)

pub changed : ChangedLaw
changed start words v w t actors g h = record {
  chain = chain start h.t.log h.chain;
  once = λ f. ap (total f) (all_ats actors v.made g.tied) ∙ sym (ats_weigh f v.made) ∙ h.once (λ p. total f (ats_by p)) ∙ ats_weigh f h.t.log;
  numbered = mark_chain start h.t.log h.chain;
  marks_once = λ f. ap (total f) (all_marked actors v.made g.tied) ∙ sym (marks_weigh f v.made) ∙ h.once (λ p. f (mark p.row p.version p.puts p.action p.after)) ∙ marks_weigh f h.t.log;
  ordered = order h.t.log h.rising;
  rising = all_rise actors g.done;
  there = all_there actors g.done;
  ended = length_labels h.t.log ∙ sym (mark_counts h.t.log 0);
  named = are_named start words v h actors g.tied g.shown;
}
