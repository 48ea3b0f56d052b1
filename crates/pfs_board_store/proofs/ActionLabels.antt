-- What an action found are the first labels of all, and its own label stands at its number.
use Rattle.std.proofs.Common.{ℕ, ◌≡◌, ◌+◌, ◌-◌, ◌==◌, ◌<◌, ◌≤◌, ◌&&◌, Bool, true, false, cond, List, [], ◌∷◌, ◌++◌, length, get_or, refl, ap, sym, ◌∙◌, inl, inr, arith, eq-eqb, ne_eqb}
use Rattle.std.proofs.lemmas.Bool.{cases_eq, eqb-true}
use Rattle.std.proofs.lemmas.List.{length_push, get_or_push, get_or_append_left}
use Rattle.pfs_lemmas.proofs.Bools.{and_first, and_second}
use Rattle.pfs_board.specs.declared.view.Change.{Change}
use Rattle.pfs_board.specs.declared.view.Entered.{Entered}
use Rattle.pfs_board.specs.declared.view.Label.{Label}
use Rattle.pfs_board.specs.declared.view.View.{View}
use Rattle.pfs_board.specs.History as board
use Rattle.pfs_board.specs.History.{Each, Some_of, IsChain, version, labels_of}
use Rattle.pfs_board.specs.Knowledge.{no_label}
use Rattle.pfs_board.specs.Rule.{IsEntered}
use Rattle.pfs_board.specs.WholeSeats.{History}
use Rattle.pfs_board.proofs.HistoryFacts.{labels_put, labels_more, length_labels}
use Rattle.pfs_levels.specs.declared.answers.Added.TheVariants.{Counted, Held}
use Rattle.pfs_levels.specs.declared.answers.RingPut.TheVariants.{Done, Busy, Late}
use Rattle.pfs_levels.specs.Calls.{Call, Adds, Rings, Reads, Loads, Draws, Takes, Puts, Frees, Sets, Enters, Leaves, Meets, Start}
use Rattle.pfs_levels.specs.CallOrder.{AllCalls, AreNamed}
use Rattle.pfs_board_store.specs.Ties.{IsTied, AreShown}
use Rattle.pfs_board_store.specs.RootActors.{Worked, calls_of_all, AreParts, AllShown}

-- nothing weighs
total_none : {A : Type 0} (h : A → ℕ) (xs : List A) → Each (λ x. h x ≡ 0) xs → board.total h xs ≡ 0
total_none h [] f = refl
total_none h (x ∷ xs) f = omega (arith, f.0, total_none h xs f.1)

pub each_map : {A : Type 0} (P Q : A → Type 0) → ((x : A) → P x → Q x) → (xs : List A) → Each P xs → Each Q xs
each_map P Q h [] f = tt
each_map P Q h (x ∷ xs) f = (h x f.0, each_map P Q h xs f.1)

pub some_each : {A : Type 0} (P Q : A → Type 0) (R : Type 0) → ((x : A) → P x → Q x → R) → (xs : List A) → Some_of P xs → Each Q xs → R
some_each P Q R f [] s e = absurd s
some_each P Q R f (x ∷ xs) (inl s) e = f x s e.0
some_each P Q R f (x ∷ xs) (inr s) e = some_each P Q R f xs s e.1

-- an action's label stands in the list at its number
abbrev label_at : List Change → ℕ → Label
label_at log k = get_or (labels_of log) (k - 1) no_label

-- the labels of a longer log begin with those of a shorter one
keeps_label : (p : Change) (ps : List Change) (k : ℕ) → k < length (labels_of ps) → get_or (labels_of (p ∷ ps)) k no_label ≡ get_or (labels_of ps) k no_label
keeps_label p ps k low = let m = labels_more p ps in ap (λ z. get_or z k no_label) m.1 ∙ get_or_append_left (labels_of ps) m.0 no_label k low

record Labelled (log : List Change) (p : Change) : Type 0 where
  some : 0 < p.version
  low : p.version ≤ length (labels_of log)
  is : label_at log p.version ≡ p.label

labelled_here : (start : List ℕ) (p : Change) (ps : List Change) → IsChain start (p ∷ ps) → p.row ≡ 0 → p.puts ≡ true → Labelled (p ∷ ps) p
labelled_here start p ps c row puts =
    let n : p.version ≡ version ps 0 + 1 = c.0.numbered ∙ ap (λ b. version ps p.row + cond b 1 0) puts ∙ ap (λ r. version ps r + 1) row in
    let all : labels_of (p ∷ ps) ≡ labels_of ps ++ p.label ∷ [] = labels_put p ps row puts in
    record {
      some = omega (arith, n);
      low = omega (arith, n, ap (λ (z : List Label). length z) all, length_push (labels_of ps) p.label, length_labels ps);
      is = ap (λ z. get_or z (p.version - 1) no_label) all ∙ get_or_push (labels_of ps) p.label no_label (p.version - 1) (omega (arith, n, length_labels ps));
    }

more_first : (p : Change) (ps : List Change) → version ps 0 ≤ version (p ∷ ps) 0
more_first p ps = elim (cases_eq p.row 0) [ inl e ↦ rw (eq-eqb p.row 0 e) (omega arith) | inr e ↦ rw (ne_eqb p.row 0 e) (omega arith) ]

labelled_more : (p : Change) (ps : List Change) (q : Change) → Labelled ps q → Labelled (p ∷ ps) q
labelled_more p ps q l = record {
  some = l.some;
  low = omega (arith, l.low, length_labels ps, length_labels (p ∷ ps), more_first p ps);
  is = keeps_label p ps (q.version - 1) (omega (arith, l.some, l.low)) ∙ l.is;
}

all_labelled : (start : List ℕ) (log : List Change) → IsChain start log → Each (λ (p : Change). p.row ≡ 0 → p.puts ≡ true → Labelled log p) log
all_labelled start [] c = tt
all_labelled start (p ∷ ps) c =
    let P : Change → Type 0 = λ q. q.row ≡ 0 → q.puts ≡ true → Labelled ps q in
    let Q : Change → Type 0 = λ q. q.row ≡ 0 → q.puts ≡ true → Labelled (p ∷ ps) q in
    (labelled_here start p ps c, each_map P Q (λ q f row puts. labelled_more p ps q (f row puts)) ps (all_labelled start ps c.1))

abbrev odd : Bool → ℕ
odd b = cond b 0 1

abbrev apart : List Change → Change → ℕ
apart log p = cond ((p.row == 0) && p.puts) (odd ((label_at log p.version).session == p.label.session) + odd ((label_at log p.version).line == p.label.line)) 0

apart_zero : (b : Bool) (n : ℕ) → (b ≡ true → n ≡ 0) → cond b n 0 ≡ 0
apart_zero true n f = f refl
apart_zero false n f = refl

same_odd : (a b : ℕ) → a ≡ b → odd (a == b) ≡ 0
same_odd a b e = ap odd (eq-eqb a b e)

odd_true : (b : Bool) → odd b ≡ 0 → b ≡ true
odd_true true e = refl
odd_true false e = absurd (omega (arith, e))

none_apart : (start : List ℕ) (log : List Change) → IsChain start log → board.total (apart log) log ≡ 0
none_apart start log c =
    let P : Change → Type 0 = λ p. p.row ≡ 0 → p.puts ≡ true → Labelled log p in
    let Q : Change → Type 0 = λ p. apart log p ≡ 0 in
    let step : (p : Change) → P p → Q p = λ p f. apart_zero ((p.row == 0) && p.puts) _ (λ b.
    let l = f (eqb-true p.row 0 (and_first (p.row == 0) p.puts b)) (and_second (p.row == 0) p.puts b) in
    omega (arith, same_odd _ _ (ap (λ (z : Label). z.session) l.is), same_odd _ _ (ap (λ (z : Label). z.line) l.is))) in
    total_none (apart log) log (each_map P Q step log (all_labelled start log c))

same_label : (l m : Label) → l.session ≡ m.session → l.line ≡ m.line → l ≡ m
same_label l m a b = rw (a, b) refl

told_label : (log : List Change) (p : Change) → apart log p ≡ 0 → p.row ≡ 0 → p.puts ≡ true → label_at log p.version ≡ p.label
told_label log p e row puts =
    let n : ℕ = odd ((label_at log p.version).session == p.label.session) in
    let m : ℕ = odd ((label_at log p.version).line == p.label.line) in
    let both : n + m ≡ 0 = sym (ap (λ b. cond (b && p.puts) (n + m) 0) (eq-eqb p.row 0 row) ∙ ap (λ b. cond b (n + m) 0) puts) ∙ e in
    same_label (label_at log p.version) p.label (eqb-true _ _ (odd_true _ (omega (arith, both)))) (eqb-true _ _ (odd_true _ (omega (arith, both))))

-- an actor's calls are named, by its seat's changes and by the labels that its actions found
module _ (start : List ℕ) (words : List ℕ) (v : View) (h : History start words v) where
  found_first : (begun : Start) (label : Label) (labels : List Label) → Some_of (λ (e : Entered). (e.by ≡ begun.number) × (e.action ≡ length labels + 1) × (e.labels ≡ labels)) v.entered → (later : List Label) × (labels_of h.t.log ≡ labels ++ later)
  found_first begun label labels s =
      let P : Entered → Type 0 = λ e. (e.by ≡ begun.number) × (e.action ≡ length labels + 1) × (e.labels ≡ labels) in
      some_each P (IsEntered start h.t) ((later : List Label) × (labels_of h.t.log ≡ labels ++ later)) (λ (x : Entered) is (e : IsEntered start h.t x). (e.later, e.labels_are ∙ ap (λ z. z ++ e.later) is.2)) v.entered s h.fits.entered

  named : (begun : Start) (calls : List Call) (made : List Change) → IsTied begun calls made → board.total (apart h.t.log) made ≡ 0 → AreShown begun v.reads v.sights v.entered calls → AreNamed (labels_of h.t.log) calls
  named begun [] made t e s = tt
  named begun (Adds row amount (Counted r k) ∷ calls) [] t e s = absurd t
  named begun (Adds row amount (Counted r k) ∷ calls) (p ∷ made) t e s = (tt, named begun calls made t.3 (omega (arith, e)) s.1)
  named begun (Adds row amount (Held r f g) ∷ calls) made t e s = (tt, named begun calls made t e s.1)
  named begun (Rings row content (Done k) ∷ calls) [] t e s = absurd t
  named begun (Rings row content (Done k) ∷ calls) (p ∷ made) t e s = (tt, named begun calls made t.3 (omega (arith, e)) s.1)
  named begun (Rings row content (Busy f g) ∷ calls) made t e s = (tt, named begun calls made t e s.1)
  named begun (Rings row content (Late n v) ∷ calls) made t e s = (tt, named begun calls made t e s.1)
  named begun (Reads row seen ∷ calls) made t e s = (tt, named begun calls made t e s.1)
  named begun (Loads at k flags ∷ calls) made t e s = (tt, named begun calls made t e s.1)
  named begun (Draws kind ticket ∷ calls) made t e s = (tt, named begun calls made t e s.1)
  named begun (Takes row k found ∷ calls) made t e s = (tt, named begun calls made t.2 e s.1)
  named begun (Puts row content k ∷ calls) [] t e s = absurd t
  named begun (Puts row content k ∷ calls) (p ∷ made) t e s = (tt, named begun calls made t.4 (omega (arith, e)) s.1)
  named begun (Frees row k ∷ calls) [] t e s = absurd t
  named begun (Frees row k ∷ calls) (p ∷ made) t e s = (tt, named begun calls made t.4 (omega (arith, e)) s.1)
  named begun (Sets at flags k ∷ calls) made t e s = (tt, named begun calls made t.1 e s.1)
  named begun (Meets versions ∷ calls) made t e s = (tt, named begun calls made t e s.1)
  named begun (Enters label labels ∷ calls) made t e s = (found_first begun label labels s.0, named begun calls made t e s.1)
  named begun (Leaves ∷ calls) [] t e s = absurd t
  named begun (Leaves ∷ calls) (p ∷ made) t e s =
      (sym (ap (label_at h.t.log) t.1.version_is) ∙ told_label h.t.log p (omega (arith, e)) t.1.row_is t.1.puts_is ∙ t.2, named begun calls made t.3 (omega (arith, e)) s.1)

  board_append : (w : Change → ℕ) (xs ys : List Change) → board.total w (xs ++ ys) ≡ board.total w xs + board.total w ys
  board_append w [] ys = omega arith
  board_append w (x ∷ xs) ys = omega (arith, board_append w xs ys)

  all_named : (actors : List Worked) (made : List Change) → AreParts (λ (a : Worked) (mine : List Change). IsTied a.start.board a.calls mine) actors made → board.total (apart h.t.log) made ≡ 0
      → AllShown v.reads v.sights v.entered actors → AllCalls (AreNamed (labels_of h.t.log)) (calls_of_all actors)
  all_named [] made g e s = tt
  all_named (a ∷ actors) made g e s =
      let both : board.total (apart h.t.log) g.0 + board.total (apart h.t.log) g.1 ≡ 0 = sym (ap (board.total (apart h.t.log)) g.2 ∙ board_append (apart h.t.log) g.0 g.1) ∙ e in
      (named a.start.board a.calls g.0 g.3 (omega (arith, both)) s.0, all_named actors g.1 g.4 (omega (arith, both)) s.1)

  pub are_named : (actors : List Worked) → AreParts (λ (a : Worked) (mine : List Change). IsTied a.start.board a.calls mine) actors v.made → AllShown v.reads v.sights v.entered actors → AllCalls (AreNamed (labels_of h.t.log)) (calls_of_all actors)
  are_named actors g s = all_named actors v.made g (h.once (apart h.t.log) ∙ none_apart start h.t.log h.chain) s
