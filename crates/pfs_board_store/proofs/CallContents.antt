-- What each call of an actor found and left, by the contents of the history and the flags of the words.
use Rattle.std.proofs.Common.{ℕ, ◌≡◌, ◌≢◌, ◌⊎◌, ◌+◌, ◌*◌, ◌/◌, ◌%◌, ◌==◌, ◌<◌, ◌≤◌, nat_lt, ◌&&◌, not, Bool, true, false, cond, List, [], ◌∷◌, ◌++◌, Option, Some, None, slice_index, length, refl, ap, sym, ◌∙◌, subst, inl, inr, arith, eq-eqb, add-zero}
use Rattle.std.proofs.lemmas.Bool.{cases_eq, lt-ltb}
use Rattle.pfs_lemmas.proofs.Options.{some_same}
use Rattle.pfs_board.specs.declared.view.Change.{Change}
use Rattle.pfs_board.specs.declared.view.Finished.{Finished}
use Rattle.pfs_board.specs.declared.view.Sight.{Sight}
use Rattle.pfs_board.specs.declared.view.View.{View}
use Rattle.pfs_board.specs.History.{Each, Some_of, IsFreedAt, version}
use Rattle.pfs_board.specs.Rule.{IsRead, IsSight}
use Rattle.pfs_board.specs.WholeSeats.{History}
use Rattle.pfs_board.proofs.HistoryFacts.{step_put, step_release}
use Rattle.pfs_levels.specs.declared.answers.Added.TheVariants.{Counted, Held}
use Rattle.pfs_levels.specs.declared.answers.RingPut.TheVariants.{Done, Busy, Late}
use Rattle.pfs_levels.specs.Calls.{Call, Adds, Rings, Reads, Loads, Draws, Takes, Puts, Frees, Sets, Enters, Leaves, Meets, Start, action_in, after_in, hand_in}
use Rattle.pfs_levels.specs.RowWords.{merged}
use Rattle.pfs_levels.specs.JointCalls.{total, one_if, At, count, Setting, flags_at, word_version, opens_free, frees_at, IsNewer, AllAgree}
use Rattle.pfs_rows.specs.declared.table.Seen.TheVariants.{Whole, Free}
use Rattle.pfs_rows.specs.declared.table.Seen.TheVariants as sees
use Rattle.pfs_board_store.specs.RootActors.{ats_of}
use Rattle.pfs_board_store.specs.RootLaws.{content_of, IsRunsBoard}
use Rattle.pfs_board_store.specs.Ties.{IsMade, IsTied, IsSighted, IsFinished, WasOlder, AreShown, last_found}
use Rattle.pfs_board_store.proofs.VersionContents.{Says, whole_is}
use Rattle.pfs_board_store.proofs.ChangeOrder.{counts}
use Rattle.pfs_board_store.proofs.ActionLabels.{some_each}
use Rattle.pfs_board_store.proofs.ViewCorners.{away_if, here_if, none_some}

-- what a call says of the words alone
abbrev pub Flagged : List ℕ → List Setting → Call → Type 0
Flagged flags sets (Loads at k found) = (found ≡ flags_at flags sets at k) × (k ≤ word_version sets at)
Flagged flags sets (Sets at to k) = flags_at flags sets at k ≡ to
Flagged flags sets (Meets versions) = (at : ℕ) → at < 160 → slice_index versions at ≤ word_version sets at
Flagged flags sets (Adds row amount answer) = Unit {0}
Flagged flags sets (Rings row put answer) = Unit {0}
Flagged flags sets (Reads row seen) = Unit {0}
Flagged flags sets (Draws kind ticket) = Unit {0}
Flagged flags sets (Takes row k found) = Unit {0}
Flagged flags sets (Puts row put k) = Unit {0}
Flagged flags sets (Frees row k) = Unit {0}
Flagged flags sets (Enters label labels) = Unit {0}
Flagged flags sets Leaves = Unit {0}

abbrev pub AllFlagged : List ℕ → List Setting → List Call → Type 0
AllFlagged flags sets [] = Unit {0}
AllFlagged flags sets (call ∷ calls) = Flagged flags sets call × AllFlagged flags sets calls

-- how often a row was released at a version
freed_now : (p : Change) (ps : List Change) (row k : ℕ) → 0 < row → p.row ≡ row → p.puts ≡ false → p.version ≡ k → 0 < total (λ x. one_if ((x.row == row) && not x.puts && (x.version == k))) (ats_of (p ∷ ps))
unfolding total ats_of
freed_now p ps row k some r b v = rw (lt-ltb 0 p.row (omega (arith, some, r)), eq-eqb p.row row r, b, eq-eqb p.version k v) (omega arith)

freed_later : (p : Change) (ps : List Change) (h : At → ℕ) → total h (ats_of ps) ≤ total h (ats_of (p ∷ ps))
unfolding total ats_of
freed_later p ps h = at (nat_lt 0 p.row) where
  at : (b : Bool) → total h (ats_of ps) ≤ total h (cond b (record { row = p.row; version = p.version; puts = p.puts } ∷ []) [] ++ ats_of ps)
  at true = omega arith
  at false = omega arith

freed_some : (row k : ℕ) → 0 < row → (log : List Change) → Some_of (λ (p : Change). (p.row ≡ row) × (p.puts ≡ false) × (p.version ≡ k)) log → 0 < total (λ x. one_if ((x.row == row) && not x.puts && (x.version == k))) (ats_of log)
freed_some row k some [] s = absurd s
freed_some row k some (p ∷ ps) (inl e) = freed_now p ps row k some e.0 e.1 e.2
freed_some row k some (p ∷ ps) (inr s) = omega (arith, freed_some row k some ps s, freed_later p ps (λ x. one_if ((x.row == row) && not x.puts && (x.version == k))))

not_opened : (b : Bool) → (b ≡ false → ⊥) → b ≡ true
not_opened true f = refl
not_opened false f = absurd (f refl)

opened_free : (k row : ℕ) → k ≡ 0 → opens_free row ≡ true → one_if ((k == 0) && opens_free row) ≡ 1
opened_free k row e f = rw (eq-eqb k 0 e, f) refl

pub freed_at : (start : List ℕ) (log : List Change) (row k : ℕ) → IsRunsBoard start → 0 < row → IsFreedAt start log row k → 0 < frees_at (ats_of log) row k
freed_at start log row k o some (inl s) = omega (arith, freed_some row k some log s)
freed_at start log row k o some (inr e) = omega (arith, opened_free k row e.0 (not_opened (opens_free row) (λ b. o.allocated row b e.1)))

-- of an actor's calls, whose seat's lists are among the root's
module _ (start words : List ℕ) (v : View) (h : History start words v) (o : IsRunsBoard start) (flags : List ℕ) (sets : List Setting) where
  abbrev content : ℕ → ℕ → List ℕ
  content = content_of start h.t.log

  abbrev log : List Change
  log = h.t.log

  abbrev Saying : Change → Type 0
  Saying p = Says start h.t.log p

  -- a row that is in hand has the content that its take found
  abbrev Owed : List Call → Type 0
  Owed calls = (row : ℕ) → 0 < row → (k : ℕ) → hand_in calls row ≡ Some k → (content row k ≡ last_found calls row) × (k ≤ version log row)

  put_is : (begun : Start) (action after r k : ℕ) (p : Change) → IsMade begun action after r k true p → Saying p → content r k ≡ p.put
  put_is begun action after r k p m s = sym (ap (λ z. content z p.version) m.row_is ∙ ap (content r) m.version_is) ∙ s.put m.puts_is

  next_is : (begun : Start) (action after r k : ℕ) (p : Change) → IsMade begun action after r k true p → (s : Saying p) → k ≡ s.n + 1
  next_is begun action after r k p m s = sym m.version_is ∙ s.next ∙ ap (λ z. s.n + z) (step_put p m.puts_is)

  same_is : (begun : Start) (action after r k : ℕ) (p : Change) → IsMade begun action after r k false p → (s : Saying p) → k ≡ s.n
  same_is begun action after r k p m s = sym m.version_is ∙ s.next ∙ ap (λ z. s.n + z) (step_release p m.puts_is) ∙ add-zero s.n

  found_is : (begun : Start) (action after r k : ℕ) (puts : Bool) (p : Change) → IsMade begun action after r k puts p → (s : Saying p) → content r s.n ≡ p.found
  found_is begun action after r k puts p m s = sym (ap (λ z. content z s.n) m.row_is) ∙ s.found

  low_is : (begun : Start) (action after r k : ℕ) (puts : Bool) (p : Change) → IsMade begun action after r k puts p → Saying p → k ≤ version log r
  low_is begun action after r k puts p m s = omega (arith, m.version_is, s.low, ap (version log) m.row_is)

  -- a read found the content at its version, and a free word was seen of a row that was released at it
  pub read_is : (begun : Start) (row k action after : ℕ) (f : Finished) → IsFinished begun row k action after f → IsRead start h.t f → (content row k ≡ f.content) × (k ≤ version log row)
  read_is begun row k action after f m r =
      let same : content f.row f.version ≡ f.content = whole_is start h.t.log f.row f.version f.content r.wide r.content_is in
      (sym (ap (λ z. content z f.version) m.row_is ∙ ap (content row) m.version_is) ∙ same, omega (arith, m.version_is, r.below, ap (version log) m.row_is))

  free_is : (begun : Start) (row n action after : ℕ) (x : Sight) → n % 4 ≡ 0 → 0 < row → IsSighted begun row n n action after x → IsSight start h.t x → 0 < frees_at (ats_of log) row (n / 4)
  free_is begun row n action after x zero some m s =
      let P : ℕ → Type 0 = λ z. IsFreedAt start log z (n / 4) in
      let Q : ℕ → Type 0 = λ z. z % 4 ≡ 0 → IsFreedAt start log x.row (z / 4) in
      freed_at start log row (n / 4) o some (subst P m.row_is (subst Q m.first_is s.one.known.free zero))

  older_is : (begun : Start) (row n : ℕ) (put : List ℕ) (action after : ℕ) → 0 < row → WasOlder begun v.reads v.sights row n put action after → (0 < frees_at (ats_of log) row n) ⊎ (slice_index (content row n) 15 ≤ slice_index put 15)
  older_is begun row n put action after some (inl s) =
      let P : Sight → Type 0 = IsSighted begun row (4 * n) (4 * n) action after in
      let Q : ℕ → Type 0 = λ z. 0 < frees_at (ats_of log) row z in
      let back : 4 * n / 4 ≡ n = omega arith in
      inl (subst Q back (some_each P (IsSight start h.t) (0 < frees_at (ats_of log) row (4 * n / 4)) (λ x m e. free_is begun row (4 * n) action after x (omega arith) some m e) v.sights s h.fits.sights))
  older_is begun row n put action after some (inr s) =
      let P : Finished → Type 0 = λ f. IsFinished begun row n action after f × (slice_index f.content 15 ≤ slice_index put 15) in
      inr (some_each P (IsRead start h.t) (slice_index (content row n) 15 ≤ slice_index put 15) (λ f m e. omega (arith, m.1, ap (λ z. slice_index z 15) (read_is begun row n action after f m.0 e).0)) v.reads s h.fits.reads)

  count_is : (row : ℕ) → 0 < row → count (ats_of log) row ≡ version log row
  count_is row some = counts start log row some

  owed_taken : (row k : ℕ) (found : List ℕ) (calls : List Call) → hand_in calls row ≡ None → Owed (Takes row k found ∷ calls) → Owed calls
  owed_taken row k found calls none w q some j e = elim (cases_eq q row) [
    | inl i ↦ absurd (none_some j (sym (ap (hand_in calls) i ∙ none) ∙ e))
    | inr n ↦ let d = w q some j (away_if row q (Some k) (hand_in calls q) n ∙ e) in (d.0 ∙ away_if row q found (last_found calls q) n, d.1)
  ]

  -- a row that was in hand and is no more
  owed_left : (row k : ℕ) (calls : List Call) → hand_in calls row ≡ Some k → content row k ≡ last_found calls row → k ≤ version log row
      → ((q : ℕ) → 0 < q → q ≢ row → (j : ℕ) → hand_in calls q ≡ Some j → (content q j ≡ last_found calls q) × (j ≤ version log q)) → Owed calls
  owed_left row k calls mine same low w q some j e = elim (cases_eq q row) [
    | inl i ↦ let is : k ≡ j = some_same k j (sym mine ∙ sym (ap (hand_in calls) i) ∙ e) in
        (ap (content q) (sym is) ∙ ap (λ z. content z k) i ∙ same ∙ sym (ap (last_found calls) i), omega (arith, low, is, ap (version log) i))
    | inr n ↦ w q some n j e
  ]

  -- beginning or ending an action leaves the other rows in hand
  owed_first : (calls : List Call) (x : Option ℕ) → ((row : ℕ) → 0 < row → (k : ℕ) → cond (0 == row) x (hand_in calls row) ≡ Some k → (content row k ≡ last_found calls row) × (k ≤ version log row)) → Owed calls
  owed_first calls x w q some j e = w q some j (away_if 0 q x (hand_in calls q) (λ z. absurd (omega (arith, some, z))) ∙ e)

  pub agree : (begun : Start) (calls : List Call) (made : List Change) → IsTied begun calls made → AreShown begun v.reads v.sights v.entered calls → Each Saying made → AllFlagged flags sets calls → Owed calls
      → AllAgree flags content (ats_of log) sets calls
  agree begun [] made t s y f w = tt
  agree begun (Adds row amount (Counted r k) ∷ calls) [] t s y f w = absurd t
  agree begun (Adds row amount (Counted r k) ∷ calls) (p ∷ made) t s y f w = (
    (y.0.n, (next_is begun _ _ r k p t.1 y.0, put_is begun _ _ r k p t.1 y.0 ∙ t.2 ∙ ap (λ z. merged z amount) (sym (found_is begun _ _ r k true p t.1 y.0)))),
    agree begun calls made t.3 s.1 y.1 f.1 w,
  )
  agree begun (Adds row amount (Held r first second) ∷ calls) made t s y f w = (tt, agree begun calls made t s.1 y f.1 w)
  agree begun (Rings row put (Done k) ∷ calls) [] t s y f w = absurd t
  agree begun (Rings row put (Done k) ∷ calls) (p ∷ made) t s y f w =
      let n : ℕ = y.0.n in
      let next : k ≡ n + 1 = next_is begun _ _ row k p t.1 y.0 in
      let newer : IsNewer row (content row n) put (frees_at (ats_of log) row n) = λ far.
      let old = s.0 far in
      let same : old.0 ≡ n = omega (arith, old.1, next) in
      let Q : ℕ → Type 0 = λ z. (0 < frees_at (ats_of log) row z) ⊎ (slice_index (content row z) 15 ≤ slice_index put 15) in
      subst Q same (older_is begun row old.0 put _ _ t.0 old.2) in
      ((n, (next, put_is begun _ _ row k p t.1 y.0 ∙ t.2, newer)), agree begun calls made t.3 s.1 y.1 f.1 w)
  agree begun (Rings row put (Busy first second) ∷ calls) made t s y f w = (tt, agree begun calls made t s.1 y f.1 w)
  agree begun (Rings row put (Late ticket k) ∷ calls) made t s y f w =
      let some : 0 < row = omega (arith, s.0.0) in
      let P : Finished → Type 0 = λ e. IsFinished begun row k (action_in calls) (after_in calls) e × (slice_index e.content 15 ≡ ticket + 1) in
      let R : Type 0 = (slice_index (content row k) 15 ≡ ticket + 1) × (k ≤ count (ats_of log) row) in
      (some_each P (IsRead start h.t) R (λ e m r. let d = read_is begun row k _ _ e m.0 r in (ap (λ z. slice_index z 15) d.0 ∙ m.1, omega (arith, d.1, count_is row some))) v.reads s.0.1 h.fits.reads, agree begun calls made t s.1 y f.1 w)
  agree begun (Reads row (Whole k found) ∷ calls) made t s y f w =
      let some : 0 < row = s.0.0.0 in
      let P : Finished → Type 0 = λ e. IsFinished begun row k (action_in calls) (after_in calls) e × (e.content ≡ found) in
      let R : Type 0 = (found ≡ content row k) × (k ≤ count (ats_of log) row) in
      (some_each P (IsRead start h.t) R (λ e m r. let d = read_is begun row k _ _ e m.0 r in (sym (d.0 ∙ m.1), omega (arith, d.1, count_is row some))) v.reads s.0.1 h.fits.reads, agree begun calls made t s.1 y f.1 w)
  agree begun (Reads row (Free n) ∷ calls) made t s y f w =
      let P : Sight → Type 0 = IsSighted begun row n n (action_in calls) (after_in calls) in
      let R : Type 0 = 0 < frees_at (ats_of log) row (n / 4) in
      ((n / 4, (omega (arith, s.0.1), some_each P (IsSight start h.t) R (λ x m e. free_is begun row n _ _ x s.0.1 s.0.0 m e) v.sights s.0.2 h.fits.sights)), agree begun calls made t s.1 y f.1 w)
  agree begun (Reads row (sees.Busy first second) ∷ calls) made t s y f w = (tt, agree begun calls made t s.1 y f.1 w)
  agree begun (Loads at k found ∷ calls) made t s y f w = (f.0, agree begun calls made t s.1 y f.1 w)
  agree begun (Draws kind ticket ∷ calls) made t s y f w = (tt, agree begun calls made t s.1 y f.1 w)
  agree begun (Meets versions ∷ calls) made t s y f w = (f.0, agree begun calls made t s.1 y f.1 w)
  agree begun (Takes row k found ∷ calls) made t s y f w =
      let d = w row t.0 k (here_if row (Some k) (hand_in calls row)) in
      ((sym (d.0 ∙ here_if row found (last_found calls row)), omega (arith, d.1, count_is row t.0)), agree begun calls made t.2 s.1 y f.1 (owed_taken row k found calls t.1 w))
  agree begun (Puts row put k ∷ calls) [] t s y f w = absurd t
  agree begun (Puts row put k ∷ calls) (p ∷ made) t s y f w =
      let n : ℕ = t.3.0 in
      let same : y.0.n ≡ n = omega (arith, next_is begun _ _ row k p t.1 y.0, t.3.2) in (
        put_is begun _ _ row k p t.1 y.0 ∙ t.2.0,
        agree begun calls made t.4 s.1 y.1 f.1 (owed_left row n calls t.3.1 (ap (content row) (sym same) ∙ found_is begun _ _ row k true p t.1 y.0 ∙ t.2.1) (omega (arith, low_is begun _ _ row k true p t.1 y.0, t.3.2))
            (λ q some apart j e. w q some j (away_if row q None (hand_in calls q) apart ∙ e))),
      )
  agree begun (Frees row k ∷ calls) [] t s y f w = absurd t
  agree begun (Frees row k ∷ calls) (p ∷ made) t s y f w =
      let same : y.0.n ≡ k = sym (same_is begun _ _ row k p t.1 y.0) in (
        tt,
        agree begun calls made t.4 s.1 y.1 f.1 (owed_left row k calls t.3 (ap (content row) (sym same) ∙ found_is begun _ _ row k false p t.1 y.0 ∙ t.2) (low_is begun _ _ row k false p t.1 y.0)
            (λ q some apart j e. w q some j (away_if row q None (hand_in calls q) apart ∙ e))),
      )
  agree begun (Sets at to k ∷ calls) made t s y f w = (f.0, agree begun calls made t.1 s.1 y f.1 w)
  agree begun (Enters label labels ∷ calls) made t s y f w = (tt, agree begun calls made t s.1 y f.1 (owed_first calls (Some (length labels)) w))
  agree begun (Leaves ∷ calls) [] t s y f w = absurd t
  agree begun (Leaves ∷ calls) (p ∷ made) t s y f w = (tt, agree begun calls made t.3 s.1 y.1 f.1 (owed_first calls None w))
