-- The sets of one actor's actions, and of all actors, come to those of the labels.
use Rattle.std.proofs.Common.{ℕ, ◌≡◌, ◌≢◌, ◌+◌, ◌-◌, ◌==◌, ◌<◌, ◌≤◌, nat_lt, ◌&&◌, Bool, true, false, cond, List, [], ◌∷◌, ◌++◌, length, take, get_or, refl, ap, sym, ◌∙◌, subst, arith, ne_eqb, append_assoc}
use Rattle.std.proofs.lemmas.Bool.{eqb-true, lt-ltb}
use Rattle.std.proofs.lemmas.List.{take_at, take_more}
use Rattle.pfs_board.specs.declared.view.Change.{Change}
use Rattle.pfs_board.specs.declared.view.Label.{Label}
use Rattle.pfs_board.specs.History.{Each}
use Rattle.pfs_board.specs.Knowledge.{no_label}
use Rattle.pfs_levels.specs.declared.answers.Added.TheVariants.{Counted, Held}
use Rattle.pfs_levels.specs.declared.answers.RingPut.TheVariants.{Done, Busy, Late}
use Rattle.pfs_levels.specs.Calls.{Call, Adds, Rings, Reads, Loads, Draws, Takes, Puts, Frees, Sets, Enters, Leaves, Meets, Start, action_in, after_in, label_in}
use Rattle.pfs_levels.specs.JointCalls.{total, Setting, sets_by, sets_of, flags_at, all_calls}
use Rattle.pfs_levels.specs.CallOrder.{Mark, marks_of, all_marks, marked, AreMarked, AllCalls, AreNamed}
use Rattle.pfs_board_store.specs.RootActors.{Worked, calls_of_all, AreParts, AllDone}
use Rattle.pfs_board_store.specs.ActorCalls.{labels_in}
use Rattle.pfs_board_store.specs.Ties.{IsTied}
use Rattle.pfs_board_store.proofs.CallContents.{AllFlagged}
use Rattle.pfs_board_store.proofs.ChangeOrder.{total_append}
use Rattle.pfs_board_store.proofs.JointCalls.{each_front, each_back}
use Rattle.pfs_board_store.proofs.ViewCorners.{here_if, away_if}
use Rattle.pfs_board_admin.specs.LabelWords.{sets_since, present, AllKeepWords}
use Rattle.pfs_board_admin.proofs.VersionSums.{spread, spread_same, spread_more, set_at}

-- what a newest action found are the first labels, one fewer than its number
pub record Inside (all : List Label) (calls : List Call) : Type 0 where
  pub number_is : action_in calls ≡ length (labels_in calls) + 1
  pub first : labels_in calls ≡ take (length (labels_in calls)) all
  pub after_is : after_in calls ≡ length (labels_in calls)

none_in : (P : Type 0) → (let n : ℕ = 0 in 0 < n) → P
none_in P low = absurd (omega (arith, low))

pub inside : (all : List Label) (calls : List Call) → AreNamed all calls → 0 < action_in calls → Inside all calls
inside all [] n low = none_in (Inside all []) low
inside all (Enters label labels ∷ calls) n low = record {
  number_is = refl;
  first = sym (ap (take (length labels)) n.0.1 ∙ take_at labels n.0.0 (length labels) refl);
  after_is = refl;
}
inside all (Leaves ∷ calls) n low = none_in (Inside all (Leaves ∷ calls)) low
inside all (Adds row amount answer ∷ calls) n low = let i = inside all calls n.1 low in record { number_is = i.number_is; first = i.first; after_is = i.after_is }
inside all (Rings row content answer ∷ calls) n low = let i = inside all calls n.1 low in record { number_is = i.number_is; first = i.first; after_is = i.after_is }
inside all (Reads row seen ∷ calls) n low = let i = inside all calls n.1 low in record { number_is = i.number_is; first = i.first; after_is = i.after_is }
inside all (Loads at k found ∷ calls) n low = let i = inside all calls n.1 low in record { number_is = i.number_is; first = i.first; after_is = i.after_is }
inside all (Draws kind ticket ∷ calls) n low = let i = inside all calls n.1 low in record { number_is = i.number_is; first = i.first; after_is = i.after_is }
inside all (Takes row k found ∷ calls) n low = let i = inside all calls n.1 low in record { number_is = i.number_is; first = i.first; after_is = i.after_is }
inside all (Puts row content k ∷ calls) n low = let i = inside all calls n.1 low in record { number_is = i.number_is; first = i.first; after_is = i.after_is }
inside all (Frees row k ∷ calls) n low = let i = inside all calls n.1 low in record { number_is = i.number_is; first = i.first; after_is = i.after_is }
inside all (Sets at to k ∷ calls) n low = let i = inside all calls n.1 low in record { number_is = i.number_is; first = i.first; after_is = i.after_is }
inside all (Meets versions ∷ calls) n low = let i = inside all calls n.1 low in record { number_is = i.number_is; first = i.first; after_is = i.after_is }

open_if : (n a : ℕ) → 0 < n → cond (nat_lt 0 n) a 0 ≡ a
open_if n a low = ap (λ b. cond b a 0) (lt-ltb 0 n low)

shut_if : (n a : ℕ) → n ≡ 0 → cond (nat_lt 0 n) a 0 ≡ 0
shut_if n a e = ap (λ z. cond (nat_lt 0 z) a 0) e

-- the labels that an action found, and its own, are those up to its number
pub next_labels : (all : List Label) (calls : List Call) → Inside all calls → action_in calls ≤ length all → get_or all (action_in calls - 1) no_label ≡ label_in calls
    → labels_in calls ++ label_in calls ∷ [] ≡ take (action_in calls) all
next_labels all calls i low is =
    let n : ℕ = length (labels_in calls) in
    let number : action_in calls ≡ n + 1 = i.number_is in
    let last : get_or all n no_label ≡ label_in calls = ap (λ z. get_or all z no_label) (let e : n ≡ action_in calls - 1 = omega (arith, number) in e) ∙ is in
    ap (λ z. z ++ label_in calls ∷ []) i.first ∙ ap (λ z. take n all ++ z ∷ []) (sym last) ∙ sym (take_more all n no_label (omega (arith, number, low))) ∙ ap (λ z. take z all) (sym number)

-- an action's number is not above the count of labels
abbrev pub IsLow : ℕ → Change → Type 0
IsLow most p = p.row ≡ 0 → p.puts ≡ true → p.version ≤ most

module _ (versions : List Label → ℕ → ℕ) (all : List Label) (h : Setting → ℕ) (flags : List ℕ) (sets : List Setting) where
  abbrev weigh : ℕ → ℕ → ℕ
  weigh at k = h (set_at (flags_at flags sets) at k)

  abbrev pub weight : (ℕ → ℕ) → ℕ
  weight f = spread weigh 160 f

  -- of the versions behind so many labels
  abbrev pub behind : ℕ → ℕ
  behind n = weight (versions (take n all))

  abbrev pub plus : Mark → ℕ
  plus m = cond ((m.row == 0) && m.puts) (behind m.version) 0

  abbrev pub minus : Mark → ℕ
  minus m = cond ((m.row == 0) && m.puts) (behind (m.version - 1)) 0

  quiet : (row a : ℕ) (b : Bool) → 0 < row → cond ((row == 0) && b) a 0 ≡ 0
  quiet row a b low = ap (λ c. cond (c && b) a 0) (ne_eqb row 0 (λ e. omega (arith, e, low)))

  loud : (a : ℕ) → (let zero : ℕ = 0 in cond ((zero == 0) && true) a 0 ≡ a)
  loud a = refl

  -- of the action that is under way
  abbrev begun : List Call → ℕ
  begun calls = cond (nat_lt 0 (action_in calls)) (weight (versions (labels_in calls))) 0

  abbrev so_far : List Call → ℕ
  so_far calls = cond (nat_lt 0 (action_in calls)) (weight (present versions calls)) 0

  -- what an actor set, and what its actions found, come to what they left
  abbrev Balanced : List Call → Type 0
  Balanced calls = total h (sets_of calls) + (total minus (marks_of calls) + begun calls) ≡ total plus (marks_of calls) + so_far calls

  set_more : (at to k : ℕ) (calls : List Call) → at < 160 → k ≡ present versions calls at + 1 → flags_at flags sets at k ≡ to
      → weight (present versions (Sets at to k ∷ calls)) ≡ h (record { word = at; version = k; flags = to }) + weight (present versions calls)
  set_more at to k calls low next is =
      let old : ℕ → ℕ = present versions calls in
      let new : ℕ → ℕ = present versions (Sets at to k ∷ calls) in
      let here : new at ≡ old at + 1 = omega (arith, here_if at (sets_since calls at + 1) (sets_since calls at)) in
      let away : (q : ℕ) → q ≢ at → new q ≡ old q = λ q apart. ap (λ n. versions (labels_in calls) q + n) (away_if at q (sets_since calls q + 1) (sets_since calls q) apart) in
      let one : weigh at (old at + 1) ≡ h (record { word = at; version = k; flags = to }) =
      ap (weigh at) (sym next) ∙ ap (λ z. h (record { word = at; version = k; flags = z })) is in
      omega (arith, spread_more weigh 160 at old new low here away, one)

  balanced : (start : Start) (calls : List Call) (made : List Change) → IsTied start calls made → Each (IsLow (length all)) made → AllKeepWords versions calls → AreNamed all calls → AllFlagged flags sets calls → Balanced calls
  unfolding sets_of marks_of total
  balanced start [] made t e k n f = refl
  balanced start (Adds row amount (Counted r v) ∷ calls) [] t e k n f = absurd t
  balanced start (Adds row amount (Counted r v) ∷ calls) (p ∷ made) t e k n f =
      omega (arith, balanced start calls made t.3 e.1 k.1 n.1 f.1, quiet r (behind v) true t.0, quiet r (behind (v - 1)) true t.0)
  balanced start (Adds row amount (Held r a b) ∷ calls) made t e k n f = balanced start calls made t e k.1 n.1 f.1
  balanced start (Rings row content (Done v) ∷ calls) [] t e k n f = absurd t
  balanced start (Rings row content (Done v) ∷ calls) (p ∷ made) t e k n f =
      omega (arith, balanced start calls made t.3 e.1 k.1 n.1 f.1, quiet row (behind v) true t.0, quiet row (behind (v - 1)) true t.0)
  balanced start (Rings row content (Busy a b) ∷ calls) made t e k n f = balanced start calls made t e k.1 n.1 f.1
  balanced start (Rings row content (Late a v) ∷ calls) made t e k n f = balanced start calls made t e k.1 n.1 f.1
  balanced start (Reads row seen ∷ calls) made t e k n f = balanced start calls made t e k.1 n.1 f.1
  balanced start (Loads at v found ∷ calls) made t e k n f = balanced start calls made t e k.1 n.1 f.1
  balanced start (Draws kind ticket ∷ calls) made t e k n f = balanced start calls made t e k.1 n.1 f.1
  balanced start (Meets seen ∷ calls) made t e k n f = balanced start calls made t e k.1 n.1 f.1
  balanced start (Takes row v found ∷ calls) made t e k n f = balanced start calls made t.2 e k.1 n.1 f.1
  balanced start (Puts row content v ∷ calls) [] t e k n f = absurd t
  balanced start (Puts row content v ∷ calls) (p ∷ made) t e k n f =
      omega (arith, balanced start calls made t.4 e.1 k.1 n.1 f.1, quiet row (behind v) true t.0, quiet row (behind (v - 1)) true t.0)
  balanced start (Frees row v ∷ calls) [] t e k n f = absurd t
  balanced start (Frees row v ∷ calls) (p ∷ made) t e k n f =
      omega (arith, balanced start calls made t.4 e.1 k.1 n.1 f.1, quiet row (behind v) false t.0, quiet row (behind (v - 1)) false t.0)
  balanced start (Sets at to v ∷ calls) made t e k n f =
      let is = balanced start calls made t.1 e k.1 n.1 f.1 in
      let old : so_far calls ≡ weight (present versions calls) = open_if (action_in calls) (weight (present versions calls)) t.0 in
      let new : so_far (Sets at to v ∷ calls) ≡ weight (present versions (Sets at to v ∷ calls)) = open_if (action_in calls) (weight (present versions (Sets at to v ∷ calls))) t.0 in
      let on : begun (Sets at to v ∷ calls) ≡ begun calls = refl in
      omega (arith, is, old, new, on, set_more at to v calls k.0.0 k.0.2 f.0)
  balanced start (Enters label labels ∷ calls) made t e k n f =
      let is = balanced start calls made t e k.1 n.1 f.1 in
      let off : begun calls ≡ 0 = shut_if (action_in calls) (weight (versions (labels_in calls))) k.0 in
      let shut : so_far calls ≡ 0 = shut_if (action_in calls) (weight (present versions calls)) k.0 in
      let same : weight (versions labels) ≡ weight (λ at. versions labels at + 0) = spread_same weigh 160 (versions labels) (λ at. versions labels at + 0) (λ q low. omega arith) in
      let on : begun (Enters label labels ∷ calls) ≡ weight (versions labels) = open_if (length labels + 1) (weight (versions labels)) (omega arith) in
      let now : so_far (Enters label labels ∷ calls) ≡ weight (λ at. versions labels at + 0) = open_if (length labels + 1) (weight (λ at. versions labels at + 0)) (omega arith) in
      omega (arith, is, off, shut, same, on, now)
  balanced start (Leaves ∷ calls) [] t e k n f = absurd t
  balanced start (Leaves ∷ calls) (p ∷ made) t e k n f =
      let is = balanced start calls made t.3 e.1 k.1 n.1 f.1 in
      let i = inside all calls n.1 t.0 in
      let number : ℕ = action_in calls in
      let low : number ≤ length all = omega (arith, e.0 t.1.row_is t.1.puts_is, t.1.version_is) in
      let found : begun calls ≡ weight (versions (labels_in calls)) = open_if number (weight (versions (labels_in calls))) t.0 in
      let left : so_far calls ≡ weight (present versions calls) = open_if number (weight (present versions calls)) t.0 in
      let before : weight (versions (labels_in calls)) ≡ behind (number - 1) =
      ap (λ z. weight (versions z)) (i.first ∙ ap (λ z. take z all) (let e : length (labels_in calls) ≡ number - 1 = omega (arith, i.number_is) in e)) in
      let after : weight (present versions calls) ≡ behind number =
      spread_same weigh 160 (present versions calls) (versions (take number all)) (λ q less. k.0 q less ∙ ap (λ z. versions z q) (next_labels all calls i low n.0)) in
      omega (arith, is, found, left, before, after)

  sets_append : (xs ys : List Call) → sets_of (xs ++ ys) ≡ sets_of xs ++ sets_of ys
  unfolding sets_of
  sets_append [] ys = refl
  sets_append (x ∷ xs) ys = ap (λ z. sets_by x ++ z) (sets_append xs ys) ∙ sym (append_assoc (sets_by x) (sets_of xs) (sets_of ys))

  abbrev Tied : Worked → List Change → Type 0
  Tied a made = IsTied a.start.board a.calls made

  pub all_balanced : (actors : List Worked) (made : List Change) → AreParts Tied actors made → Each (IsLow (length all)) made → AllDone actors → AllCalls (AllKeepWords versions) (calls_of_all actors) → AllCalls (AreNamed all) (calls_of_all actors)
      → AllCalls (AllFlagged flags sets) (calls_of_all actors) → total h (sets_of (all_calls (calls_of_all actors))) + total minus (all_marks (calls_of_all actors)) ≡ total plus (all_marks (calls_of_all actors))
  unfolding all_calls all_marks sets_of total
  all_balanced [] made g e d k n f = refl
  all_balanced (a ∷ actors) made g e d k n f =
      let e' = subst (Each (IsLow (length all))) g.2 e in
      let mine = balanced a.start.board a.calls g.0 g.3 (each_front (IsLow (length all)) g.0 g.1 e') k.0 n.0 f.0 in
      let rest = all_balanced actors g.1 g.4 (each_back (IsLow (length all)) g.0 g.1 e') d.1 k.1 n.1 f.1 in
      let off : begun a.calls ≡ 0 = shut_if (action_in a.calls) (weight (versions (labels_in a.calls))) d.0.outside in
      let shut : so_far a.calls ≡ 0 = shut_if (action_in a.calls) (weight (present versions a.calls)) d.0.outside in
      let others : List Call = all_calls (calls_of_all actors) in
      omega (
        arith,
        mine,
        rest,
        off,
        shut,
        ap (total h) (sets_append a.calls others),
        total_append h (sets_of a.calls) (sets_of others),
        total_append plus (marks_of a.calls) (all_marks (calls_of_all actors)),
        total_append minus (marks_of a.calls) (all_marks (calls_of_all actors)),
      )

  -- along all marks each action goes on from the one before
  pub telescoped : (marks : List Mark) → AreMarked marks → total minus marks + behind (marked marks 0) ≡ total plus marks + behind 0
  unfolding total marked
  telescoped [] c = refl
  telescoped (x ∷ xs) c = step (telescoped xs c.1) (x.row == 0) x.puts refl refl where
    step : total minus xs + behind (marked xs 0) ≡ total plus xs + behind 0 → (a b : Bool) → (x.row == 0) ≡ a → x.puts ≡ b
        → (cond (a && b) (behind (x.version - 1)) 0 + total minus xs) + behind (cond (a && b) (marked xs 0 + 1) (marked xs 0)) ≡ (cond (a && b) (behind x.version) 0 + total plus xs) + behind 0
    step is true true row puts =
        let v : x.version ≡ marked xs 0 + 1 = c.0 ∙ ap (λ b. cond b (marked xs x.row + 1) (marked xs x.row)) puts ∙ ap (λ r. marked xs r + 1) (eqb-true x.row 0 row) in
        let was : behind (x.version - 1) ≡ behind (marked xs 0) = ap behind (let e : x.version - 1 ≡ marked xs 0 = omega (arith, v) in e) in
        omega (arith, is, ap behind v, was)
    step is true false row puts = omega (arith, is)
    step is false b row puts = omega (arith, is)
