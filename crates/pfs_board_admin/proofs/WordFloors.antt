-- What an actor met and left of the words is not below what the actions set that it knew as ended.
use Rattle.std.proofs.Common.{ℕ, zero, suc, ◌≡◌, ◌⊎◌, ◌+◌, ◌==◌, ◌<◌, ◌≤◌, nat_lt, nat_le, ◌&&◌, Bool, true, false, cond, List, [], ◌∷◌, ◌++◌, length, take, slice_index, refl, ap, sym, subst, inl, inr, arith, append_assoc, append-nil}
use Rattle.std.proofs.lemmas.Bool.{cases_eq, eqb-true, leb-true, ltb-true}
use Rattle.pfs_board.specs.declared.view.Change.{Change}
use Rattle.pfs_board.specs.declared.view.Label.{Label}
use Rattle.pfs_board.specs.History.{Each}
use Rattle.pfs_levels.specs.declared.answers.Added.TheVariants.{Counted, Held}
use Rattle.pfs_levels.specs.declared.answers.RingPut.TheVariants.{Done, Busy, Late}
use Rattle.pfs_levels.specs.Calls.{Call, Adds, Rings, Reads, Loads, Draws, Takes, Puts, Frees, Sets, Enters, Leaves, Meets, Start, action_in, after_in}
use Rattle.pfs_levels.specs.JointCalls.{total, one_if}
use Rattle.pfs_levels.specs.CallOrder.{Mark, word_marks_of, all_word_marks, above, top_word, AreRising, AllCalls, AreNamed}
use Rattle.pfs_board_store.specs.RootActors.{Worked, calls_of_all, AreParts, AllDone}
use Rattle.pfs_board_store.specs.ActorCalls.{labels_in}
use Rattle.pfs_board_store.specs.RootLaws.{has_met, AllKnowSets}
use Rattle.pfs_board_store.specs.Ties.{IsTied}
use Rattle.pfs_board_store.proofs.JointCalls.{each_front, each_back}
use Rattle.pfs_board_store.proofs.ViewCorners.{here_if, away_if}
use Rattle.pfs_board_admin.specs.LabelWords.{sets_since, present, AllKeepWords}
use Rattle.pfs_board_admin.proofs.Balance.{inside, next_labels, IsLow}

unlike : (a b c d : Bool) → (a ≡ true → c ≡ true → d ≡ true → ⊥) → one_if (((a && b) && c) && d) ≡ 0
unlike true true true true e = absurd (e refl refl refl)
unlike true true true false e = refl
unlike true true false d e = refl
unlike true false c d e = refl
unlike false b c d e = refl

pub none_or : (n : ℕ) → (n ≡ 0) ⊎ (0 < n)
none_or zero = inl refl
none_or (suc n) = inr (omega arith)

not_true : false ≡ true → ⊥
not_true e = cc

no_fewer : (b : Bool) (n : ℕ) → n ≤ cond b (n + 1) n
no_fewer true n = omega arith
no_fewer false n = omega arith

module _ (versions : List Label → ℕ → ℕ) (rises : (labels : List Label) (label : Label) (at : ℕ) → versions labels at ≤ versions (labels ++ label ∷ []) at) where
  pub on_from : (at : ℕ) (front back : List Label) (n : ℕ) → versions front at ≤ versions (front ++ take n back) at
  on_from at front back zero = omega (arith, ap (λ z. versions z at) (append-nil front))
  on_from at front [] (suc n) = omega (arith, ap (λ z. versions z at) (append-nil front))
  on_from at front (x ∷ back) (suc n) =
      omega (arith, rises front x at, on_from at (front ++ x ∷ []) back n, ap (λ z. versions z at) (append_assoc front (x ∷ []) (take n back)))

  up_from : (at : ℕ) (front back : List Label) (n m : ℕ) → n ≤ m → versions (front ++ take n back) at ≤ versions (front ++ take m back) at
  up_from at front back zero m le = omega (arith, on_from at front back m, ap (λ z. versions z at) (append-nil front))
  up_from at front back (suc n) zero le = absurd (omega (arith, le))
  up_from at front [] (suc n) (suc m) le = omega arith
  up_from at front (x ∷ back) (suc n) (suc m) le =
      omega (arith, up_from at (front ++ x ∷ []) back n m (omega (arith, le)), ap (λ z. versions z at) (append_assoc front (x ∷ []) (take n back)), ap (λ z. versions z at) (append_assoc front (x ∷ []) (take m back)))

  module _ (all : List Label) where
    -- behind so many labels
    abbrev pub version_at : ℕ → ℕ → ℕ
    version_at n at = versions (take n all) at

    pub up : (at n m : ℕ) → n ≤ m → version_at n at ≤ version_at m at
    up at n m le = up_from at [] all n m le

    -- a set made no version above that behind its action
    abbrev pub IsSmall : Mark → Type 0
    IsSmall p = p.version ≤ version_at p.action p.row

    pub none_above : (marks : List Mark) → Each IsSmall marks → (at k m : ℕ) → version_at m at ≤ k → above marks at k m ≡ 0
    unfolding total
    none_above [] e at k m le = refl
    none_above (p ∷ marks) e at k m le =
        let none = unlike (p.row == at) (nat_lt 0 p.action) (nat_le p.action m) (nat_lt k p.version) (λ row past high.
        omega (arith, e.0, ap (version_at p.action) (eqb-true p.row at row), up at p.action m (leb-true p.action m past), ltb-true k p.version high, le)) in
        omega (arith, none, none_above marks e.1 at k m le)

    -- so far an action's sets are not above the versions behind it
    abbrev Bound : List Call → Type 0
    Bound calls = 0 < action_in calls → (at : ℕ) → at < 160 → present versions calls at ≤ version_at (action_in calls) at

    small : (start : Start) (calls : List Call) (made : List Change) → IsTied start calls made → Each (IsLow (length all)) made → AllKeepWords versions calls → AreNamed all calls → Bound calls → Each IsSmall (word_marks_of calls)
    unfolding word_marks_of
    small start [] made t e k n b = tt
    small start (Adds row amount (Counted q v) ∷ calls) [] t e k n b = absurd t
    small start (Adds row amount (Counted q v) ∷ calls) (p ∷ made) t e k n b = small start calls made t.3 e.1 k.1 n.1 b
    small start (Rings row content (Done v) ∷ calls) [] t e k n b = absurd t
    small start (Rings row content (Done v) ∷ calls) (p ∷ made) t e k n b = small start calls made t.3 e.1 k.1 n.1 b
    small start (Puts row content v ∷ calls) [] t e k n b = absurd t
    small start (Puts row content v ∷ calls) (p ∷ made) t e k n b = small start calls made t.4 e.1 k.1 n.1 b
    small start (Frees row v ∷ calls) [] t e k n b = absurd t
    small start (Frees row v ∷ calls) (p ∷ made) t e k n b = small start calls made t.4 e.1 k.1 n.1 b
    small start (Adds row amount (Held q a c) ∷ calls) made t e k n b = small start calls made t e k.1 n.1 b
    small start (Rings row content (Busy a c) ∷ calls) made t e k n b = small start calls made t e k.1 n.1 b
    small start (Rings row content (Late a v) ∷ calls) made t e k n b = small start calls made t e k.1 n.1 b
    small start (Reads row seen ∷ calls) made t e k n b = small start calls made t e k.1 n.1 b
    small start (Draws kind ticket ∷ calls) made t e k n b = small start calls made t e k.1 n.1 b
    small start (Takes row v found ∷ calls) made t e k n b = small start calls made t.2 e k.1 n.1 b
    small start (Loads at v found ∷ calls) made t e k n b = small start calls made t e k.1 n.1 b
    small start (Meets seen ∷ calls) made t e k n b = small start calls made t e k.1 n.1 b
    small start (Sets at to v ∷ calls) made t e k n b = (
      omega (arith, k.0.2, b t.0 at k.0.0, here_if at (sets_since calls at + 1) (sets_since calls at)),
      small start calls made t.1 e k.1 n.1 (λ low q less. omega (arith, b low q less, no_fewer (at == q) (sets_since calls q))),
    )
    small start (Enters label labels ∷ calls) made t e k n b = small start calls made t e k.1 n.1 (λ low. absurd (omega (arith, low, k.0)))
    small start (Leaves ∷ calls) [] t e k n b = absurd t
    small start (Leaves ∷ calls) (p ∷ made) t e k n b =
        let i = inside all calls n.1 t.0 in
        let low : action_in calls ≤ length all = omega (arith, e.0 t.1.row_is t.1.puts_is, t.1.version_is) in
        small start calls made t.3 e.1 k.1 n.1 (λ some q less. omega (arith, k.0 q less, ap (λ z. versions z q) (next_labels all calls i low n.0)))

    -- an actor that has met the writer in its action has named each word's present version
    top_present : (calls : List Call) → AreRising calls → AllKeepWords versions calls → has_met calls ≡ true → 0 < action_in calls → (at : ℕ) → at < 160 → present versions calls at ≤ top_word calls at
    top_present [] r k met low at less = absurd (omega (arith, low))
    top_present (Meets seen ∷ calls) r k met low at less = omega (arith, k.0.0 low at less)
    top_present (Sets w to v ∷ calls) r k met low at less = elim (cases_eq at w) [
      | inl e ↦
          let P : ℕ → Type 0 = λ z. versions (labels_in calls) z + cond (w == z) (sets_since calls z + 1) (sets_since calls z) ≤ cond (w == z) v (top_word calls z) in
          subst P (sym e) (omega (arith, here_if w (sets_since calls w + 1) (sets_since calls w), here_if w v (top_word calls w), k.0.2))
      | inr apart ↦
          omega (arith, away_if w at (sets_since calls at + 1) (sets_since calls at) apart, away_if w at v (top_word calls at) apart, top_present calls r.1 k.1 met low at less)
    ]
    top_present (Loads w v found ∷ calls) r k met low at less = elim (cases_eq at w) [
      | inl e ↦
          let P : ℕ → Type 0 = λ z. present versions calls z ≤ cond (w == z) v (top_word calls z) in
          subst P (sym e) (omega (arith, here_if w v (top_word calls w), r.0, top_present calls r.1 k.1 met low w k.0.0))
      | inr apart ↦ omega (arith, away_if w at v (top_word calls at) apart, top_present calls r.1 k.1 met low at less)
    ]
    top_present (Enters label labels ∷ calls) r k met low at less = absurd (not_true met)
    top_present (Leaves ∷ calls) r k met low at less = absurd (omega (arith, low))
    top_present (Adds row amount answer ∷ calls) r k met low at less = top_present calls r.1 k.1 met low at less
    top_present (Rings row content answer ∷ calls) r k met low at less = top_present calls r.1 k.1 met low at less
    top_present (Reads row seen ∷ calls) r k met low at less = top_present calls r.1 k.1 met low at less
    top_present (Draws kind ticket ∷ calls) r k met low at less = top_present calls r.1 k.1 met low at less
    top_present (Takes row v found ∷ calls) r k met low at less = top_present calls r.1 k.1 met low at less
    top_present (Puts row content v ∷ calls) r k met low at less = top_present calls r.1 k.1 met low at less
    top_present (Frees row v ∷ calls) r k met low at less = top_present calls r.1 k.1 met low at less

    -- what is known of sets: where no actor has made one above the versions behind its action
    module _ (none : (at : ℕ) → versions [] at ≡ 0) (marks : List Mark) (few : Each IsSmall marks) where
      meets_known : (calls : List Call) (seen : List ℕ) → AreNamed all calls → (0 < action_in calls → (at : ℕ) → at < 160 → slice_index seen at ≡ present versions calls at) → (action_in calls ≡ 0 → after_in calls ≡ 0) → (at : ℕ) → at < 160
          → above marks at (slice_index seen at) (after_in calls) ≡ 0
      meets_known calls seen n in_one out at less = elim (none_or (action_in calls)) [
        | inl e ↦ none_above marks few at (slice_index seen at) (after_in calls) (omega (arith, none at, ap (λ z. version_at z at) (out e)))
        | inr low ↦
            let i = inside all calls n low in
            none_above marks few at (slice_index seen at) (after_in calls) (omega (arith, in_one low at less, ap (λ z. versions z at) i.first, ap (λ z. version_at z at) i.after_is))
      ]

      knows : (start : Start) (calls : List Call) (made : List Change) → IsTied start calls made → Each (IsLow (length all)) made → AreRising calls → AllKeepWords versions calls → AreNamed all calls → AllKnowSets marks calls
      knows start [] made t e r k n = tt
      knows start (Adds row amount (Counted q v) ∷ calls) [] t e r k n = absurd t
      knows start (Adds row amount (Counted q v) ∷ calls) (p ∷ made) t e r k n = (tt, knows start calls made t.3 e.1 r.1 k.1 n.1)
      knows start (Rings row content (Done v) ∷ calls) [] t e r k n = absurd t
      knows start (Rings row content (Done v) ∷ calls) (p ∷ made) t e r k n = (tt, knows start calls made t.3 e.1 r.1 k.1 n.1)
      knows start (Puts row content v ∷ calls) [] t e r k n = absurd t
      knows start (Puts row content v ∷ calls) (p ∷ made) t e r k n = (tt, knows start calls made t.4 e.1 r.1 k.1 n.1)
      knows start (Frees row v ∷ calls) [] t e r k n = absurd t
      knows start (Frees row v ∷ calls) (p ∷ made) t e r k n = (tt, knows start calls made t.4 e.1 r.1 k.1 n.1)
      knows start (Adds row amount (Held q a c) ∷ calls) made t e r k n = (tt, knows start calls made t e r.1 k.1 n.1)
      knows start (Rings row content (Busy a c) ∷ calls) made t e r k n = (tt, knows start calls made t e r.1 k.1 n.1)
      knows start (Rings row content (Late a v) ∷ calls) made t e r k n = (tt, knows start calls made t e r.1 k.1 n.1)
      knows start (Reads row seen ∷ calls) made t e r k n = (tt, knows start calls made t e r.1 k.1 n.1)
      knows start (Draws kind ticket ∷ calls) made t e r k n = (tt, knows start calls made t e r.1 k.1 n.1)
      knows start (Takes row v found ∷ calls) made t e r k n = (tt, knows start calls made t.2 e r.1 k.1 n.1)
      knows start (Loads at v found ∷ calls) made t e r k n = (k.0, knows start calls made t e r.1 k.1 n.1)
      knows start (Sets at to v ∷ calls) made t e r k n = ((k.0.0, k.0.1), knows start calls made t.1 e r.1 k.1 n.1)
      knows start (Meets seen ∷ calls) made t e r k n = (meets_known calls seen n.1 k.0.0 k.0.1, knows start calls made t e r.1 k.1 n.1)
      knows start (Enters label labels ∷ calls) made t e r k n = (tt, knows start calls made t e r.1 k.1 n.1)
      knows start (Leaves ∷ calls) [] t e r k n = absurd t
      knows start (Leaves ∷ calls) (p ∷ made) t e r k n = (
        λ met at less. let i = inside all calls n.1 t.0 in
            let low : action_in calls ≤ length all = omega (arith, e.0 t.1.row_is t.1.puts_is, t.1.version_is) in
            none_above marks few at (top_word calls at) (action_in calls) (omega (arith, k.0 at less, ap (λ z. versions z at) (next_labels all calls i low n.0), top_present calls r.1 k.1 met t.0 at less)),
        knows start calls made t.3 e.1 r.1 k.1 n.1,
      )

      abbrev Tied : Worked → List Change → Type 0
      Tied a made = IsTied a.start.board a.calls made

      pub all_know : (actors : List Worked) (made : List Change) → AreParts Tied actors made → Each (IsLow (length all)) made → AllDone actors → AllCalls (AllKeepWords versions) (calls_of_all actors) → AllCalls (AreNamed all) (calls_of_all actors) → AllCalls (AllKnowSets marks) (calls_of_all actors)
      all_know [] made g e d k n = tt
      all_know (a ∷ actors) made g e d k n =
          let e' = subst (Each (IsLow (length all))) g.2 e in (
            knows a.start.board a.calls g.0 g.3 (each_front (IsLow (length all)) g.0 g.1 e') d.0.rising k.0 n.0,
            all_know actors g.1 g.4 (each_back (IsLow (length all)) g.0 g.1 e') d.1 k.1 n.1,
          )

    each_both : (P : Mark → Type 0) (xs ys : List Mark) → Each P xs → Each P ys → Each P (xs ++ ys)
    each_both P [] ys e f = f
    each_both P (x ∷ xs) ys e f = (e.0, each_both P xs ys e.1 f)

    abbrev Parts : Worked → List Change → Type 0
    Parts a made = IsTied a.start.board a.calls made

    pub all_small : (actors : List Worked) (made : List Change) → AreParts Parts actors made → Each (IsLow (length all)) made → AllDone actors → AllCalls (AllKeepWords versions) (calls_of_all actors) → AllCalls (AreNamed all) (calls_of_all actors) → Each IsSmall (all_word_marks (calls_of_all actors))
    unfolding all_word_marks
    all_small [] made g e d k n = tt
    all_small (a ∷ actors) made g e d k n =
        let e' = subst (Each (IsLow (length all))) g.2 e in
        each_both IsSmall (word_marks_of a.calls) (all_word_marks (calls_of_all actors)) (small a.start.board a.calls g.0 g.3 (each_front (IsLow (length all)) g.0 g.1 e') k.0 n.0 (λ low. absurd (omega (arith, low, d.0.outside))))
        (all_small actors g.1 g.4 (each_back (IsLow (length all)) g.0 g.1 e') d.1 k.1 n.1)
