-- What was held back, busy or late has its cause.
use Rattle.std.proofs.Common.{ℕ, ◌≡◌, ◌≢◌, ◌⊎◌, ◌+◌, ◌/◌, ◌%◌, ◌==◌, ◌<◌, ◌≤◌, nat_lt, nat_le, ◌&&◌, not, Bool, true, false, List, [], ◌∷◌, slice_index, refl, ap, sym, ◌∙◌, subst, inl, inr, ⊎_elim, arith, eq-eqb}
use Rattle.std.proofs.lemmas.Bool.{cases_eq, eqb-true, and_parts, cases_Bool, leb-true, ltb-false, ltb-true}
use Rattle.pfs_board.specs.declared.view.Change.{Change}
use Rattle.pfs_board.specs.declared.view.Sight.{Sight}
use Rattle.pfs_board.specs.declared.view.View.{View}
use Rattle.pfs_board.specs.History.{Each, Some_of, IsChain, IsFreedAt, version, version_of, step_of, lock_at}
use Rattle.pfs_board.specs.Knowledge.{corner, is_holding}
use Rattle.pfs_board.specs.Rule.{IsRead, IsSight, lock}
use Rattle.pfs_board.specs.Rule as rule
use Rattle.pfs_board.specs.WholeSeats.{History}
use Rattle.pfs_board.proofs.HistoryFacts.{each_map, each_both, below_all, step_put, step_release}
use Rattle.pfs_levels.specs.declared.answers.Added.TheVariants.{Counted, Held}
use Rattle.pfs_levels.specs.declared.answers.RingPut.TheVariants.{Done, Busy, Late}
use Rattle.pfs_levels.specs.Calls.{Call, Adds, Rings, Reads, Loads, Draws, Takes, Puts, Frees, Sets, Enters, Leaves, Meets, Start}
use Rattle.pfs_levels.specs.JointCalls.{total, one_if}
use Rattle.pfs_levels.specs.CallOrder.{Mark, is_between, published, released, IsOthers, IsCaused, AreCaused}
use Rattle.pfs_rows.specs.declared.table.Seen.TheVariants.{Whole, Free}
use Rattle.pfs_rows.specs.declared.table.Seen.TheVariants as sees
use Rattle.pfs_board_store.specs.RootActors.{marks_in}
use Rattle.pfs_board_store.specs.RootLaws.{content_of, IsRunsBoard}
use Rattle.pfs_board_store.specs.Ties.{IsTied, IsSighted, WasRefused, AreAnothers, AreShown}
use Rattle.pfs_board_store.proofs.Floors.{mark_of, none_marked, some_marked, Past, above_none}
use Rattle.pfs_board_store.proofs.ChangeOrder.{mark_counts}
use Rattle.pfs_board_store.proofs.ActionLabels.{some_each}

-- what holds of each change of a history holds of each in a list
abbrev pub Covers : List Change → List Change → Type 1
Covers log made = (P : Change → Type 0) → Each P log → Each P made

pub own_made : (begun : Start) (calls : List Call) (made : List Change) → IsTied begun calls made → Each (λ (p : Change). p.by ≡ begun.number) made
own_made begun [] [] t = tt
own_made begun [] (p ∷ made) t = absurd (cc)
own_made begun (Adds row amount (Counted q k) ∷ calls) [] t = absurd t
own_made begun (Adds row amount (Counted q k) ∷ calls) (p ∷ made) t = (t.1.by_is, own_made begun calls made t.3)
own_made begun (Adds row amount (Held q first second) ∷ calls) made t = own_made begun calls made t
own_made begun (Rings row put (Done k) ∷ calls) [] t = absurd t
own_made begun (Rings row put (Done k) ∷ calls) (p ∷ made) t = (t.1.by_is, own_made begun calls made t.3)
own_made begun (Rings row put (Busy first second) ∷ calls) made t = own_made begun calls made t
own_made begun (Rings row put (Late ticket version) ∷ calls) made t = own_made begun calls made t
own_made begun (Reads row seen ∷ calls) made t = own_made begun calls made t
own_made begun (Loads at k found ∷ calls) made t = own_made begun calls made t
own_made begun (Draws kind ticket ∷ calls) made t = own_made begun calls made t
own_made begun (Meets versions ∷ calls) made t = own_made begun calls made t
own_made begun (Takes row k found ∷ calls) made t = own_made begun calls made t.2
own_made begun (Puts row put k ∷ calls) [] t = absurd t
own_made begun (Puts row put k ∷ calls) (p ∷ made) t = (t.1.by_is, own_made begun calls made t.4)
own_made begun (Frees row k ∷ calls) [] t = absurd t
own_made begun (Frees row k ∷ calls) (p ∷ made) t = (t.1.by_is, own_made begun calls made t.4)
own_made begun (Sets at to k ∷ calls) made t = own_made begun calls made t.1
own_made begun (Enters label labels ∷ calls) made t = own_made begun calls made t
own_made begun (Leaves ∷ calls) [] t = absurd t
own_made begun (Leaves ∷ calls) (p ∷ made) t = (t.1.by_is, own_made begun calls made t.3)

-- a version was made by one seat alone
abbrev Makes : ℕ → ℕ → ℕ → Change → Type 0
Makes row k by q = q.row ≡ row → q.puts ≡ true → q.version ≡ k → q.by ≢ by

abbrev Another : ℕ → ℕ → ℕ → Change → Type 0
Another row k by p = (p.row ≡ row) × (p.puts ≡ true) × (p.version ≡ k) × (p.by ≢ by)

one_maker : (start : List ℕ) (log : List Change) → IsChain start log → (row k by : ℕ) → Some_of (Another row k by) log → Each (Makes row k by) log
one_maker start [] c row k by s = absurd s
one_maker start (p ∷ ps) c row k by (inl e) =
    let f = c.0 in
    let A : Change → Type 0 = λ q. q.row ≡ row → version_of q ≤ version ps row in
    let step : (q : Change) → A q → Makes row k by q = λ q low at puts is. absurd (omega (arith, low at, is, e.2, f.numbered, step_put p e.1, ap (version ps) e.0)) in
    ((λ _ _ _. e.3), each_map A (Makes row k by) step ps (below_all start ps row c.1))
one_maker start (p ∷ ps) c row k by (inr s) =
    let f = c.0 in
    let A : Change → Type 0 = λ q. q.row ≡ row → version_of q ≤ version ps row in
    let low : k ≤ version ps row = some_each (Another row k by) A (k ≤ version ps row) (λ q a b. omega (arith, b a.0, a.2)) ps s (below_all start ps row c.1) in
    ((λ at puts is. absurd (omega (arith, low, is, f.numbered, step_put p puts, ap (version ps) at))), one_maker start ps c.1 row k by s)

-- some change that made the version, or released the row at it
abbrev Left : ℕ → ℕ → ℕ → Change → Type 0
Left row by k p = (p.row ≡ row) × (p.by ≢ by) × (p.version ≡ k + step_of p)

abbrev Releases : ℕ → ℕ → Change → Type 0
Releases row k p = (p.row ≡ row) × (p.puts ≡ false) × (p.version ≡ k)

which : (row by k : ℕ) (log : List Change) → Some_of (Left row by k) log → Some_of (Another row (k + 1) by) log ⊎ Some_of (Releases row k) log
which row by k [] s = absurd s
which row by k (p ∷ ps) (inl e) = ⊎_elim
    (λ puts. inl (inl (e.0, puts, omega (arith, e.2, step_put p puts), e.1)))
    (λ frees. inr (inl (e.0, frees, omega (arith, e.2, step_release p frees)))) (cases_Bool p.puts)
which row by k (p ∷ ps) (inr s) = ⊎_elim (λ x. inl (inr x)) (λ x. inr (inr x)) (which row by k ps s)

some_map : {A : Type 0} (P Q : A → Type 0) → ((x : A) → P x → Q x) → (xs : List A) → Some_of P xs → Some_of Q xs
some_map P Q f [] s = absurd s
some_map P Q f (x ∷ xs) (inl s) = inl (f x s)
some_map P Q f (x ∷ xs) (inr s) = inr (some_map P Q f xs s)

was_released : (log : List Change) (row k : ℕ) → Some_of (Releases row k) log → 0 < released (marks_in log) row k
was_released log row k s =
    let g : Mark → Bool = λ m. (m.row == row) && not m.puts && (m.version == k) in
    some_marked g log (some_map (Releases row k) (λ p. g (mark_of p) ≡ true) (λ p e. rw (eq-eqb p.row row e.0, e.1, eq-eqb p.version k e.2) refl) log s)

was_published : (log : List Change) (row k by : ℕ) → Some_of (Another row k by) log → 0 < published (marks_in log) row k
was_published log row k by s =
    let g : Mark → Bool = λ m. (m.row == row) && m.puts && (m.version == k) in
    some_marked g log (some_map (Another row k by) (λ p. g (mark_of p) ≡ true) (λ p e. rw (eq-eqb p.row row e.0, e.1, eq-eqb p.version k e.2) refl) log s)

up_or_at : (a b : ℕ) (c : Bool) → nat_lt b a ≡ c → (a ≤ b) ⊎ (b < a)
up_or_at a b true e = inr (ltb-true b a e)
up_or_at a b false e = inl (ltb-false b a e)

up_or : (a b : ℕ) → (a ≤ b) ⊎ (b < a)
up_or a b = up_or_at a b (nat_lt b a) refl

mod_low : (n : ℕ) → n % 4 < 3 → n % 4 ≢ 0 → n % 4 ≢ 1 → n % 4 ≡ 2
mod_low n low a b = elim (cases_eq (n % 4) 2) [
  | inl e ↦ e
  | inr e ↦ absurd (omega (arith, low, a, b, e))
]

same_word : (a b : ℕ) → a / 4 ≡ b / 4 → a % 4 ≡ b % 4 → a ≡ b
same_word a b d m = omega (arith, d, m)

module _ (start words : List ℕ) (v : View) (h : History start words v) (o : IsRunsBoard start) (idle : (r : ℕ) → is_holding (corner v r).stage ≡ false) where
  abbrev log : List Change
  log = h.t.log

  abbrev content : ℕ → ℕ → List ℕ
  content = content_of start h.t.log

  held_false : (b : Bool) → b ≡ true → b ≡ false → ⊥
  held_false true e f = cc
  held_false false e f = cc

  -- of an actor's own changes
  module _ (begun : Start) (mine : List Change) (covers : Covers h.t.log mine) (own : Each (λ (p : Change). p.by ≡ begun.number) mine) where
    none_own : (row k : ℕ) → Some_of (Another row k begun.number) log → published (marks_in mine) row k ≡ 0
    none_own row k s =
        let g : Mark → Bool = λ m. (m.row == row) && m.puts && (m.version == k) in
        let Own : Change → Type 0 = λ p. p.by ≡ begun.number in
        let B : Change → Type 0 = λ p. g (mark_of p) ≡ true → ⊥ in
        let step : (p : Change) → Own p → Makes row k begun.number p → B p = λ p is m t.
        let x = and_parts ((p.row == row) && p.puts) (p.version == k) t in
        let y = and_parts (p.row == row) p.puts x.0 in
        m (eqb-true p.row row y.0) y.1 (eqb-true p.version k x.1) is in
        none_marked g mine (each_both Own (Makes row k begun.number) B step mine own (covers (Makes row k begun.number) (one_maker start log h.chain row k begun.number s)))

    others : (row n : ℕ) → row < 14242 → n % 4 ≡ 1 → rule.IsOthers start h.t begun.number row n → IsOthers (marks_in log) (marks_in mine) row (n / 4)
    others row n low dirty (inl e) =
        let still : lock h.t row % 4 ≡ 1 = ap (λ z. z % 4) e.0 ∙ dirty in
        absurd (held_false (is_holding (corner v row).stage) ((h.rows row (omega (arith, low, o.wide))).held_by still) (idle row))
    others row n low dirty (inr s) = ⊎_elim
        (λ x. inl (none_own row (n / 4 + 1) x, was_published log row (n / 4 + 1) begun.number x))
        (λ x. inr (was_released log row (n / 4) x)) (which row begun.number (n / 4) log s)

    between_none : (row first second : ℕ) → Each (λ (p : Change). p.row ≡ row → p.by ≡ begun.number → p.puts ≡ true → (p.version ≤ first / 4) ⊎ (second / 4 < p.version)) mine
        → total (λ p. one_if (is_between row (first / 4) (second / 4) p)) (marks_in mine) ≡ 0
    between_none row first second e =
        let g : Mark → Bool = λ m. is_between row (first / 4) (second / 4) m in
        let Own : Change → Type 0 = λ p. p.by ≡ begun.number in
        let A : Change → Type 0 = λ p. p.row ≡ row → p.by ≡ begun.number → p.puts ≡ true → (p.version ≤ first / 4) ⊎ (second / 4 < p.version) in
        let B : Change → Type 0 = λ p. g (mark_of p) ≡ true → ⊥ in
        let step : (p : Change) → Own p → A p → B p = λ p is f t.
        let x = and_parts ((p.row == row) && p.puts && nat_lt (first / 4) p.version) (nat_le p.version (second / 4)) t in
        let y = and_parts ((p.row == row) && p.puts) (nat_lt (first / 4) p.version) x.0 in
        let z = and_parts (p.row == row) p.puts y.0 in
        let lo = ltb-true (first / 4) p.version y.1 in
        let hi = leb-true p.version (second / 4) x.1 in
        ⊎_elim (λ d. omega (arith, d, lo)) (λ d. omega (arith, d, hi)) (f (eqb-true p.row row z.0) is z.1) in
        none_marked g mine (each_both Own A B step mine own e)

    -- between a word and itself there is nothing
    same_none : (row first second : ℕ) → second ≡ first → total (λ p. one_if (is_between row (first / 4) (second / 4) p)) (marks_in mine) ≡ 0
    same_none row first second same =
        let Any : Change → Type 0 = λ p. p.by ≡ begun.number in
        let A : Change → Type 0 = λ p. p.row ≡ row → p.by ≡ begun.number → p.puts ≡ true → (p.version ≤ first / 4) ⊎ (second / 4 < p.version) in
        between_none row first second (each_map Any A (λ p d a b c. ⊎_elim (λ z. inl z) (λ z. inr (omega (arith, z, ap (λ y. y / 4) same))) (up_or p.version (first / 4))) mine own)

    seen_is : (row first second action after : ℕ) (x : Sight) → row < 14242 → AreAnothers first second → IsSighted begun row first second action after x → IsSight start h.t x → IsCaused (marks_in log) (marks_in mine) row first second after
    seen_is row first second action after x low a m s = record {
      states = (a.1, a.2);
      order = ⊎_elim (λ d. inl d) (λ (d : (first % 4 ≢ 1) × (second ≢ first)). inr (
        d.1,
        a.3,
        λ same two. elim (cases_eq (first % 4) 0) [
          | inl z ↦ omega (arith, a.4 z two, same)
          | inr z ↦ d.1 (same_word second first (sym same) (two ∙ sym (mod_low first a.1 z d.0)))
        ],
      )) a.0;
      known = omega (arith, s.two.known.below, ap (λ z. z / 4) m.second_is, ap (version log) m.row_is, mark_counts log row);
      floor = above_none log row (first / 4) after (floor_is s.one.known.floor.actions);
      between = ⊎_elim (λ (d : (first % 4 ≡ 1) × (second ≡ first)). same_none row first second d.1)
          (λ (d : (first % 4 ≢ 1) × (second ≢ first)). between_none row first second (covers _ (between_is (s.between (λ z. d.1 (sym m.second_is ∙ sym z ∙ m.first_is)) (λ z. d.0 (sym (ap (λ y. y % 4) m.first_is) ∙ z)))))) a.0;
      first_dirty = λ d. others row first low d (dirty_is x.first first m.first_is (s.one.dirty (ap (λ y. y % 4) m.first_is ∙ d)));
      second_dirty = λ d. others row second low d (dirty_is x.second second m.second_is (s.two.dirty (ap (λ y. y % 4) m.second_is ∙ d)));
      second_free = λ d. freed_is d (s.two.known.free (ap (λ y. y % 4) m.second_is ∙ d));
    } where
      floor_is : Each (λ (p : Change). p.row ≡ x.row → 0 < p.action → p.action ≤ x.after → version_of p ≤ x.first / 4) log → Past row after (λ p. p.version ≤ first / 4) log
      floor_is e =
          let A : Change → Type 0 = λ p. p.row ≡ x.row → 0 < p.action → p.action ≤ x.after → version_of p ≤ x.first / 4 in
          let B : Change → Type 0 = λ p. p.row ≡ row → 0 < p.action → p.action ≤ after → p.version ≤ first / 4 in
          let step : (p : Change) → A p → B p = λ p f at some up. omega (arith, f (at ∙ sym m.row_is) some (omega (arith, up, m.after_is)), ap (λ z. z / 4) m.first_is) in
          each_map A B step log e

      between_is : Each (λ (p : Change). p.row ≡ x.row → p.by ≡ x.by → p.puts ≡ true → (p.version ≤ x.first / 4) ⊎ (x.second / 4 < p.version)) log
          → Each (λ (p : Change). p.row ≡ row → p.by ≡ begun.number → p.puts ≡ true → (p.version ≤ first / 4) ⊎ (second / 4 < p.version)) log
      between_is e =
          let A : Change → Type 0 = λ p. p.row ≡ x.row → p.by ≡ x.by → p.puts ≡ true → (p.version ≤ x.first / 4) ⊎ (x.second / 4 < p.version) in
          let B : Change → Type 0 = λ p. p.row ≡ row → p.by ≡ begun.number → p.puts ≡ true → (p.version ≤ first / 4) ⊎ (second / 4 < p.version) in
          let step : (p : Change) → A p → B p = λ p f at by puts. ⊎_elim (λ z. inl (omega (arith, z, ap (λ y. y / 4) m.first_is))) (λ z. inr (omega (arith, z, ap (λ y. y / 4) m.second_is))) (f (at ∙ sym m.row_is) (by ∙ sym m.by_is) puts) in
          each_map A B step log e

      dirty_is : (n k : ℕ) → n ≡ k → rule.IsOthers start h.t x.by x.row n → rule.IsOthers start h.t begun.number row k
      dirty_is n k e d =
          let P : ℕ → Type 0 = λ z. rule.IsOthers start h.t z x.row n in
          let Q : ℕ → Type 0 = λ z. rule.IsOthers start h.t begun.number z n in
          let R : ℕ → Type 0 = λ z. rule.IsOthers start h.t begun.number row z in
          subst R e (subst Q m.row_is (subst P m.by_is d))

      -- version 0 of a row that opened free was no second word: the first would have been no other at that version
      opened_not : second % 4 ≡ 0 → x.second / 4 ≡ 0 → slice_index start (lock_at x.row) ≡ 0 → ⊥
      opened_not d none0 begins =
          let none : second ≡ 0 = omega (arith, d, none0, ap (λ y. y / 4) m.second_is) in
          ⊎_elim (λ (e : (first % 4 ≡ 1) × (second ≡ first)). omega (arith, e.0, e.1, none))
          (λ (e : (first % 4 ≢ 1) × (second ≢ first)).
          let apart : first % 4 ≢ 0 = λ z. e.1 (same_word second first (omega (arith, a.3, none)) (d ∙ sym z)) in
          let two : first % 4 ≡ 2 = mod_low first a.1 apart e.0 in
          let is : x.first ≡ 2 = m.first_is ∙ omega (arith, two, a.3, none) in
          s.one.known.opened is begins) a.0

      freed_is : second % 4 ≡ 0 → IsFreedAt start log x.row (x.second / 4) → 0 < released (marks_in log) row (second / 4)
      freed_is d (inl f) =
          let A : Change → Type 0 = λ p. (p.row ≡ x.row) × (p.puts ≡ false) × (p.version ≡ x.second / 4) in
          was_released log row (second / 4) (some_map A (Releases row (second / 4)) (λ p e. (e.0 ∙ m.row_is, e.1, e.2 ∙ ap (λ y. y / 4) m.second_is)) log f)
      freed_is d (inr e) = absurd (opened_not d e.0 e.1)

    held_is : (row first second action after : ℕ) → WasRefused begun v.sights row first second action after → IsCaused (marks_in log) (marks_in mine) row first second after
    held_is row first second action after r =
        let P : Sight → Type 0 = IsSighted begun row first second action after in
        let R : Type 0 = IsCaused (marks_in log) (marks_in mine) row first second after in
        some_each P (IsSight start h.t) R (λ x m s. seen_is row first second action after x r.0.1 r.1 m s) v.sights r.2 h.fits.sights

    pub caused : (calls : List Call) → AreShown begun v.reads v.sights v.entered calls → AreCaused (marks_in log) (marks_in mine) calls
    caused [] s = tt
    caused (Adds row amount (Counted q k) ∷ calls) s = (tt, caused calls s.1)
    caused (Adds row amount (Held q first second) ∷ calls) s = (held_is q first second _ _ s.0, caused calls s.1)
    caused (Rings row put (Done k) ∷ calls) s = (tt, caused calls s.1)
    caused (Rings row put (Busy first second) ∷ calls) s = (held_is row first second _ _ s.0, caused calls s.1)
    caused (Rings row put (Late ticket version) ∷ calls) s = (tt, caused calls s.1)
    caused (Reads row (Whole k found) ∷ calls) s = (tt, caused calls s.1)
    caused (Reads row (Free n) ∷ calls) s = (tt, caused calls s.1)
    caused (Reads row (sees.Busy first second) ∷ calls) s = (held_is row first second _ _ s.0, caused calls s.1)
    caused (Loads at k found ∷ calls) s = (tt, caused calls s.1)
    caused (Draws kind ticket ∷ calls) s = (tt, caused calls s.1)
    caused (Meets versions ∷ calls) s = (tt, caused calls s.1)
    caused (Takes row k found ∷ calls) s = (tt, caused calls s.1)
    caused (Puts row put k ∷ calls) s = (tt, caused calls s.1)
    caused (Frees row k ∷ calls) s = (tt, caused calls s.1)
    caused (Sets at to k ∷ calls) s = (tt, caused calls s.1)
    caused (Enters label labels ∷ calls) s = (tt, caused calls s.1)
    caused (Leaves ∷ calls) s = (tt, caused calls s.1)
