-- A session's puts of a kind go round the ten places of its thread's history, since each end is brought to the next one.
use Rattle.std.proofs.Common.{◌≡◌, refl, ℕ, suc, ◌+◌, ◌*◌, ◌%◌, ◌<◌, ◌≤◌, ◌==◌, ◌&&◌, Bool, true, false, cond, nat_le, nat_lt, List, [], ◌∷◌, ◌++◌, length, Option, Some, None, sym, ap, subst, ◌∙◌, inl, inr, arith}
use Rattle.std.specs.Prelude.{◌⊎◌}
use Rattle.std.proofs.lemmas.Bool.{eqb-true, leb-true, ltb-true, and_parts}
use Rattle.pfs_event.specs.Verdicts.{is_let_through}
use Rattle.pfs_event.specs.declared.entry.Entry.{Entry}
use Rattle.pfs_event.specs.declared.entry.Entry.TheVariants as says
use Rattle.pfs_model.specs.EntryAsks.{cell_row, digest_row, is_head}
use Rattle.pfs_model.specs.Chains.{Each, change_at}
use Rattle.pfs_model.specs.Contexts.{noted, subject_of}
use Rattle.pfs_model.specs.EntryPlaces.{Placed, by_session}
use Rattle.pfs_model.specs.Puts.{Adds, ArePaid, AreBroughtBehind, Due, IsBrought, Puts, PutsLong, behind_it, current_due, due_if, dues_at_end, dues_at_start, history_dues, history_place, in_slot, is_paid}
use Rattle.pfs_model.specs.Rings.{history_put, history_puts, history_row, is_history_row, place_of_start, ring_number}
use Rattle.pfs_model.specs.SetupFlags.{history_consumer, is_digested, is_offered_at_end, is_offered_current, long_consumer}
use Rattle.pfs_model.specs.Shapes.{counted_slot}
use Rattle.pfs_model.specs.declared.lines.Opened.{Opened}
use Rattle.pfs_law_summaries.proofs.RecentPuts.{GoRound, first_row}

abbrev pub is_ring : Entry → Bool
is_ring (says.Ring row version) = true
is_ring _ = false

abbrev pub is_event : Entry → Bool
is_event (says.Start event verdict consumers thread class table) = true
is_event (says.End event last consumers thread) = true
is_event _ = false

-- whose start or end stands before, where no line of another kind begins between
abbrev pub behind_event : Option ℕ → Placed → Option ℕ
behind_event before p = cond (is_head p.entry) (cond (is_event p.entry) (Some p.session) None) before

-- a put stands behind a start or an end of its own session
abbrev pub AreFollowing : Option ℕ → List Placed → Type 0
AreFollowing before [] = Unit {0}
AreFollowing before (p ∷ ps) = (is_ring p.entry ≡ true → before ≡ Some p.session) × AreFollowing (behind_event before p) ps

-- the histories of two kinds have no row in common
own_kind : (slot kind other n : ℕ) → is_history_row slot kind (history_row slot other n) ≡ true → other ≡ kind
own_kind slot kind other n q =
    let b : (nat_le (8450 + 56 * slot + 16 + 10 * kind) (history_row slot other n) ≡ true) × (nat_lt (history_row slot other n) (8450 + 56 * slot + 26 + 10 * kind) ≡ true) = and_parts (nat_le (8450 + 56 * slot + 16 + 10 * kind) (history_row slot other n)) (nat_lt (history_row slot other n) (8450 + 56 * slot + 26 + 10 * kind)) q in
    let l : 8450 + 56 * slot + 16 + 10 * kind ≤ history_row slot other n = leb-true (8450 + 56 * slot + 16 + 10 * kind) (history_row slot other n) b.0 in
    let h : history_row slot other n < 8450 + 56 * slot + 26 + 10 * kind = ltb-true (history_row slot other n) (8450 + 56 * slot + 26 + 10 * kind) b.1 in
    omega (arith, l, h)

module _ (flags : ℕ → ℕ → ℕ) (session slot kind : ℕ) where
  abbrev is_own : ℕ → Bool
  is_own row = is_history_row slot kind row

  -- how many puts of the kind the session has made, the last entries first
  abbrev count : List Placed → ℕ
  count earlier = length (history_puts slot kind (by_session session earlier))

  -- no put of the history is due, or one at most, to the next place
  abbrev NoneDue : List Due → Type 0
  NoneDue [] = Unit {0}
  NoneDue (Puts row ∷ dues) = (is_own row ≡ false) × NoneDue dues
  NoneDue (Adds row ∷ dues) = NoneDue dues
  NoneDue (PutsLong k ∷ dues) = NoneDue dues

  abbrev NextDue : ℕ → List Due → Type 0
  NextDue n [] = Unit {0}
  NextDue n (Puts row ∷ dues) = ((is_own row ≡ false) × NextDue n dues) ⊎ ((row ≡ first_row slot kind + n % 10) × NoneDue dues)
  NextDue n (Adds row ∷ dues) = NextDue n dues
  NextDue n (PutsLong k ∷ dues) = NextDue n dues

  none_next : (n : ℕ) (dues : List Due) → NoneDue dues → NextDue n dues
  none_next n [] d = tt
  none_next n (Puts row ∷ dues) d = inl (d.0, none_next n dues d.1)
  none_next n (Adds row ∷ dues) d = none_next n dues d
  none_next n (PutsLong k ∷ dues) d = none_next n dues d

  rest_next : (n : ℕ) (due : Due) (dues : List Due) → NextDue n (due ∷ dues) → NextDue n dues
  rest_next n (Puts row) dues (inl d) = d.1
  rest_next n (Puts row) dues (inr d) = none_next n dues d.1
  rest_next n (Adds row) dues d = d
  rest_next n (PutsLong k) dues d = d

  -- what is due at a start and an end
  abbrev pub IsShallow : Option ℕ → List Opened → Type 0
  IsShallow own [] = Unit {0}
  IsShallow own (event ∷ others) =
      (own ≡ Some slot) × (is_offered_current flags own event ≡ true → is_own (place_of_start slot event.subject.kind others) ≡ false)

  current_next : (n : ℕ) (event : Opened) (others : List Opened) (rest : List Due) → (is_offered_current flags (Some slot) event ≡ true → is_own (place_of_start slot event.subject.kind others) ≡ false)
      → NextDue n rest → NextDue n (current_due flags (Some slot) event others ++ rest)
  current_next n event others rest s r = on (is_offered_current flags (Some slot) event) refl where
    on : (b : Bool) → is_offered_current flags (Some slot) event ≡ b → NextDue n (due_if b (Puts (place_of_start slot event.subject.kind others)) ++ rest)
    on true q = inl (s q, r)
    on false q = r

  start_next : (n : ℕ) (own : Option ℕ) (opened : List Opened) → IsShallow own opened → NextDue n (dues_at_start flags own opened)
  start_next n own [] s = tt
  start_next n own (event ∷ others) s =
      subst (λ o. NextDue n (current_due flags o event others)) (sym s.0)
      (at (is_offered_current flags (Some slot) event) refl) where
        shallow : is_offered_current flags (Some slot) event ≡ true → is_own (place_of_start slot event.subject.kind others) ≡ false
        shallow = subst (λ o. is_offered_current flags o event ≡ true → is_own (place_of_start slot event.subject.kind others) ≡ false) s.0 s.1

        at : (b : Bool) → is_offered_current flags (Some slot) event ≡ b → NextDue n (due_if b (Puts (place_of_start slot event.subject.kind others)))
        at true q = inl (shallow q, tt)
        at false q = tt

  history_next : (earlier : List Placed) (p : Placed) (event : Opened) (c t : Option ℕ) → p.session ≡ session → p.context.slot ≡ Some slot → NextDue (count earlier) (history_dues flags earlier p event c t)
  history_next earlier p event c t e s =
      subst (λ o. NextDue (count earlier) (in_slot o dues)) (sym s) (at (is_offered_at_end history_consumer flags p.context.slot event c t)) where
        dues : ℕ → List Due
        dues own = due_if (is_offered_at_end history_consumer flags p.context.slot event c t) (Puts (history_place earlier p.session own (ring_number event.subject.kind)))
            ++ due_if (is_offered_at_end long_consumer flags p.context.slot event c t) (PutsLong (ring_number event.subject.kind))

        longs : List Due
        longs = due_if (is_offered_at_end long_consumer flags p.context.slot event c t) (PutsLong (ring_number event.subject.kind))

        long : (b : Bool) → NoneDue (due_if b (PutsLong (ring_number event.subject.kind)))
        long true = tt
        long false = tt

        place : ℕ
        place = history_place earlier p.session slot (ring_number event.subject.kind)

        is_next : is_own place ≡ true → place ≡ first_row slot kind + count earlier % 10
        is_next q =
            let k : ring_number event.subject.kind ≡ kind = own_kind slot kind (ring_number event.subject.kind) (length (history_puts slot (ring_number event.subject.kind) (by_session p.session earlier))) q in
            ap (λ z. history_place earlier z slot (ring_number event.subject.kind)) e ∙ ap (history_place earlier session slot) k

        put : (b : Bool) → is_own place ≡ b → (rest : List Due) → NoneDue rest → NextDue (count earlier) (Puts place ∷ rest)
        put true q rest n = inr (is_next q, n)
        put false q rest n = inl (q, none_next (count earlier) rest n)

        at : (b : Bool) → NextDue (count earlier) (due_if b (Puts place) ++ due_if (is_offered_at_end long_consumer flags p.context.slot event c t) (PutsLong (ring_number event.subject.kind)))
        at true = put (is_own place) refl longs (long (is_offered_at_end long_consumer flags p.context.slot event c t))
        at false = none_next (count earlier) longs (long (is_offered_at_end long_consumer flags p.context.slot event c t))

  end_next : (earlier : List Placed) (p : Placed) (opened : List Opened) (c t : Option ℕ) → p.session ≡ session → IsShallow p.context.slot opened
      → NextDue (count earlier) (dues_at_end flags earlier p opened c t)
  end_next earlier p [] c t e s = tt
  end_next earlier p (event ∷ others) c t e s = on (is_let_through event.verdict) where
    n : ℕ
    n = count earlier

    histories : NextDue n (history_dues flags earlier p event c t)
    histories = history_next earlier p event c t e s.0

    currents : NextDue n (current_due flags p.context.slot event others ++ history_dues flags earlier p event c t)
    currents =
        subst (λ o. NextDue n (current_due flags o event others ++ history_dues flags earlier p event c t)) (sym s.0)
        (current_next n event others (history_dues flags earlier p event c t)
        (subst (λ o. is_offered_current flags o event ≡ true → is_own (place_of_start slot event.subject.kind others) ≡ false) s.0 s.1) histories)

    digested : (b : Bool) → NextDue n (due_if b (Adds (digest_row event.subject.digest)) ++ (current_due flags p.context.slot event others ++ history_dues flags earlier p event c t))
    digested true = currents
    digested false = currents

    on : (b : Bool) → NextDue n (cond b (Adds (cell_row (counted_slot p.context.slot event.verdict) event.subject.cell)
        ∷ (due_if (is_digested flags p.context.slot event) (Adds (digest_row event.subject.digest)) ++ (current_due flags p.context.slot event others ++ history_dues flags earlier p event c t))) [])
    on true = digested (is_digested flags p.context.slot event)
    on false = tt

  -- a session's starts and ends stand in its slot, and their current places are no places of the history
  abbrev pub Fits : Placed → Entry → Type 0
  Fits p (says.Start event verdict consumers thread class table) = IsShallow p.context.slot (noted (subject_of p.line) p.context p.entry).opened
  Fits p (says.End event last consumers thread) = IsShallow p.context.slot p.context.opened
  Fits p _ = Unit {0}

  abbrev pub AllFit : List Placed → Type 0
  AllFit ps = Each (λ p. p.session ≡ session → Fits p p.entry) ps

  -- what is still to be paid, behind a start or an end of the session
  abbrev IsOwed : Option ℕ → ℕ → List Due → List Placed → Type 0
  IsOwed before n dues ps = before ≡ Some session → ArePaid dues (behind_it ps) × NextDue n dues

  abbrev Goes : List Placed → List Placed → Type 0
  Goes earlier ps = GoRound (first_row slot kind) (count earlier) (history_puts slot kind (by_session session ps))

  no_put : (o : Option ℕ) (e : Entry) → is_ring e ≡ false → history_put slot kind o e ≡ []
  no_put None e r = refl
  no_put (Some own) (says.Ring row version) r = absurd (cc)
  no_put (Some own) _ r = refl

  head_no_ring : (e : Entry) → is_head e ≡ true → is_ring e ≡ false
  head_no_ring (says.Ring row version) h = absurd (cc)
  head_no_ring _ h = refl

  -- entries of other sessions, and those that are no puts, count nothing
  same_count : (p : Placed) (earlier : List Placed) → ((p.session == session) ≡ true → history_put slot kind p.context.slot p.entry ≡ []) → count (p ∷ earlier) ≡ count earlier
  same_count p earlier h = on (p.session == session) refl where
    on : (b : Bool) → (p.session == session) ≡ b → length (history_puts slot kind (cond b (p ∷ []) [] ++ by_session session earlier)) ≡ count earlier
    on true q = ap (λ z. length (z ++ history_puts slot kind (by_session session earlier))) (h q)
    on false q = refl

  same_puts : (p : Placed) (ps : List Placed) → ((p.session == session) ≡ true → history_put slot kind p.context.slot p.entry ≡ []) → history_puts slot kind (by_session session (p ∷ ps)) ≡ history_puts slot kind (by_session session ps)
  same_puts p ps h = on (p.session == session) refl where
    on : (b : Bool) → (p.session == session) ≡ b → history_puts slot kind (cond b (p ∷ []) [] ++ by_session session ps) ≡ history_puts slot kind (by_session session ps)
    on true q = ap (λ z. z ++ history_puts slot kind (by_session session ps)) (h q)
    on false q = refl

  passes : (p : Placed) (earlier ps : List Placed) → ((p.session == session) ≡ true → history_put slot kind p.context.slot p.entry ≡ []) → Goes (p ∷ earlier) ps → Goes earlier (p ∷ ps)
  passes p earlier ps h g =
      subst (λ xs. GoRound (first_row slot kind) (count earlier) xs) (sym (same_puts p ps h))
      (subst (λ n. GoRound (first_row slot kind) n (history_puts slot kind (by_session session ps))) (same_count p earlier h) g)

  same_session : (a b : ℕ) → (a == b) ≡ true → a ≡ b
  same_session a b q = eqb-true a b q

  some_same : (m n : ℕ) → Some m ≡ Some n → m ≡ n
  some_same m n q = ap or_zero q where
    or_zero : Option ℕ → ℕ
    or_zero None = 0
    or_zero (Some n) = n

  -- what is owed behind a head
  owed_at : (earlier : List Placed) (p : Placed) (ps : List Placed) (e : Entry) → p.entry ≡ e → IsBrought flags earlier p e (behind_it ps) → (p.session ≡ session → Fits p e)
      → (dues : List Due) × IsOwed (cond (is_event e) (Some p.session) None) (count earlier) dues ps
  owed_at earlier p ps (says.Start event verdict consumers thread class table) is b f = (
    dues_at_start flags p.context.slot (noted (subject_of p.line) p.context p.entry).opened,
    λ o. (b, start_next (count earlier) p.context.slot (noted (subject_of p.line) p.context p.entry).opened (f (some_same p.session session o))),
  )
  owed_at earlier p ps (says.End event last consumers thread) is b f = (
    dues_at_end flags earlier p p.context.opened consumers thread,
    λ o. (b, end_next earlier p p.context.opened consumers thread (some_same p.session session o) (f (some_same p.session session o))),
  )
  owed_at earlier p ps _ is b f = ([], λ o. absurd (cc))

  -- a put of the session pays what is due
  paid_put : (n : ℕ) (due : Due) (dues : List Due) (row version : ℕ) → is_paid due (says.Ring row version) ≡ true → NextDue n (due ∷ dues) → is_own row ≡ true
      → (row ≡ first_row slot kind + n % 10) × NoneDue dues
  paid_put n (Puts at) dues row version q d own = on d where
    same : row ≡ at
    same = eqb-true row at q

    on : ((is_own at ≡ false) × NextDue n dues) ⊎ ((at ≡ first_row slot kind + n % 10) × NoneDue dues) → (row ≡ first_row slot kind + n % 10) × NoneDue dues
    on (inl x) = absurd (let f : true ≡ false = sym own ∙ (ap is_own same ∙ x.0) in cc)
    on (inr x) = (same ∙ x.0, x.1)
  paid_put n (Adds at) dues row version q d own = absurd (cc)
  paid_put n (PutsLong k) dues row version q d own = absurd (cc)

  -- one entry more
  round_more : (earlier : List Placed) (p : Placed) (ps : List Placed) (before : Option ℕ) (dues : List Due) → AreBroughtBehind flags earlier (p ∷ ps) → AreFollowing before (p ∷ ps) → AllFit (p ∷ ps) → IsOwed before (count earlier) dues (p ∷ ps)
      → ((left : List Due) → IsOwed (behind_event before p) (count (p ∷ earlier)) left ps → Goes (p ∷ earlier) ps) → Goes earlier (p ∷ ps)
  round_more earlier p ps before dues b f a o go = on (is_head p.entry) refl where
    Next : Option ℕ → Type 0
    Next now = (left : List Due) × IsOwed now (count (p ∷ earlier)) left ps

    goes_on : Next (behind_event before p) → Goes (p ∷ earlier) ps
    goes_on (left, owed) = go left owed

    quiet : ((p.session == session) ≡ true → history_put slot kind p.context.slot p.entry ≡ []) → Next (behind_event before p) → Goes earlier (p ∷ ps)
    quiet h n = passes p earlier ps h (goes_on n)

    recount : (now : Option ℕ) → count (p ∷ earlier) ≡ count earlier → (left : List Due) × IsOwed now (count earlier) left ps → Next now
    recount now e (left, owed) = (left, subst (λ n. IsOwed now n left ps) (sym e) owed)

    on : (h : Bool) → is_head p.entry ≡ h → Goes earlier (p ∷ ps)
    on true h =
        let none : (p.session == session) ≡ true → history_put slot kind p.context.slot p.entry ≡ [] = λ q. no_put p.context.slot p.entry (head_no_ring p.entry h) in
        let now : behind_event before p ≡ cond (is_event p.entry) (Some p.session) None = ap (λ z. cond z (cond (is_event p.entry) (Some p.session) None) before) h in
        quiet none (subst Next (sym now) (recount (cond (is_event p.entry) (Some p.session) None) (same_count p earlier none) (owed_at earlier p ps p.entry refl b.0 a.0)))
    on false h = behind (is_ring p.entry) refl where
      now : behind_event before p ≡ before
      now = ap (λ z. cond z (cond (is_event p.entry) (Some p.session) None) before) h

      entries : behind_it (p ∷ ps) ≡ p.entry ∷ behind_it ps
      entries = ap (λ z. cond z [] (p.entry ∷ behind_it ps)) h

      owed : before ≡ Some session → ArePaid dues (p.entry ∷ behind_it ps) × NextDue (count earlier) dues
      owed e = let x : ArePaid dues (behind_it (p ∷ ps)) × NextDue (count earlier) dues = o e in (subst (ArePaid dues) entries x.0, x.1)

      left_of : (xs : List Due) → (before ≡ Some session → ArePaid xs (p.entry ∷ behind_it ps) × NextDue (count earlier) xs) → (left : List Due) × IsOwed before (count earlier) left ps
      left_of [] w = ([], λ e. absurd ((w e).0))
      left_of (due ∷ rest) w = (rest, λ e. let x : ArePaid (due ∷ rest) (p.entry ∷ behind_it ps) × NextDue (count earlier) (due ∷ rest) = w e in (x.0.1, rest_next (count earlier) due rest x.1))

      silent : ((p.session == session) ≡ true → history_put slot kind p.context.slot p.entry ≡ []) → Goes earlier (p ∷ ps)
      silent none = quiet none (subst Next (sym now) (recount before (same_count p earlier none) (left_of dues owed)))

      behind : (r : Bool) → is_ring p.entry ≡ r → Goes earlier (p ∷ ps)
      behind false r = silent (λ q. no_put p.context.slot p.entry r)
      behind true r = at (p.session == session) refl where
        put_at : (e : Entry) → p.entry ≡ e → is_ring e ≡ true → (q : (p.session == session) ≡ true) → Goes earlier (p ∷ ps)
        put_at (says.Ring row version) is t q = test (p.context.slot) refl where
          own : before ≡ Some session
          own = f.0 r ∙ ap Some (same_session p.session session q)

          put : (xs : List Due) → ArePaid xs (p.entry ∷ behind_it ps) × NextDue (count earlier) xs → is_own row ≡ true → history_put slot kind p.context.slot p.entry ≡ change_at row version ∷ [] → Goes earlier (p ∷ ps)
          put [] x k m = absurd x.0
          put (due ∷ rest) x k m =
              let paid : is_paid due (says.Ring row version) ≡ true = subst (λ z. is_paid due z ≡ true) is x.0.0 in
              let g : (row ≡ first_row slot kind + count earlier % 10) × NoneDue rest = paid_put (count earlier) due rest row version paid x.1 k in
              subst (λ b. GoRound (first_row slot kind) (count earlier) (history_puts slot kind (cond b (p ∷ []) [] ++ by_session session ps))) (sym q)
              (subst (λ z. GoRound (first_row slot kind) (count earlier) (z ++ history_puts slot kind (by_session session ps))) (sym m) (
                g.0,
                subst (λ n. GoRound (first_row slot kind) n (history_puts slot kind (by_session session ps))) (more m)
                    (goes_on (subst Next (sym now) (rest, λ e. (x.0.1, none_next (count (p ∷ earlier)) rest g.1)))),
              )) where
                more : history_put slot kind p.context.slot p.entry ≡ change_at row version ∷ [] → count (p ∷ earlier) ≡ count earlier + 1
                more m = ap (λ b. length (history_puts slot kind (cond b (p ∷ []) [] ++ by_session session earlier))) q ∙ (ap (λ z. length (z ++ history_puts slot kind (by_session session earlier))) m ∙ one (count earlier)) where
                  one : (n : ℕ) → suc n ≡ n + 1
                  one n = omega arith

          test : (s : Option ℕ) → p.context.slot ≡ s → Goes earlier (p ∷ ps)
          test None s = silent (λ q. ap (λ o. history_put slot kind o p.entry) s)
          test (Some there) s = by (there == slot) refl (is_own row) refl where
            it_is : history_put slot kind p.context.slot p.entry ≡ cond ((there == slot) && is_own row) (change_at row version ∷ []) []
            it_is = ap (λ o. history_put slot kind o p.entry) s ∙ ap (history_put slot kind (Some there)) is

            by : (x : Bool) → (there == slot) ≡ x → (y : Bool) → is_own row ≡ y → Goes earlier (p ∷ ps)
            by true u true v = put dues (owed own) v (it_is ∙ (ap (λ z. cond (z && is_own row) (change_at row version ∷ []) []) u ∙ ap (λ z. cond z (change_at row version ∷ []) []) v))
            by true u false v = silent (λ q. it_is ∙ (ap (λ z. cond (z && is_own row) (change_at row version ∷ []) []) u ∙ ap (λ z. cond z (change_at row version ∷ []) []) v))
            by false u y v = silent (λ q. it_is ∙ ap (λ z. cond (z && is_own row) (change_at row version ∷ []) []) u)
        put_at _ is t q = absurd (cc)

        at : (b : Bool) → (p.session == session) ≡ b → Goes earlier (p ∷ ps)
        at true q = put_at p.entry refl r q
        at false q = silent (λ z. absurd (let k : true ≡ false = sym z ∙ q in cc))

  go_round : (earlier ps : List Placed) (before : Option ℕ) (dues : List Due) → AreBroughtBehind flags earlier ps → AreFollowing before ps → AllFit ps → IsOwed before (count earlier) dues ps → Goes earlier ps
  go_round earlier [] before dues b f a o = tt
  go_round earlier (p ∷ ps) before dues b f a o = round_more earlier p ps before dues b f a o (λ left owed. go_round (p ∷ earlier) ps (behind_event before p) left b.1 f.1 a.1 owed)

pub round_puts : (flags : ℕ → ℕ → ℕ) (session slot kind : ℕ) (all : List Placed) → AreBroughtBehind flags [] all → AreFollowing None all → AllFit flags session slot kind all
    → GoRound (first_row slot kind) 0 (history_puts slot kind (by_session session all))
round_puts flags session slot kind all b f a = go_round flags session slot kind [] all None [] b f a (λ e. absurd (cc))
