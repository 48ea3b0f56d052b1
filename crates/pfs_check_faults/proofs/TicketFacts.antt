-- The tickets of the long history, as a fact of each put.
use Rattle.std.proofs.Common.{◌≡◌, refl, ℕ, ◌+◌, ◌<◌, ◌≤◌, inl, inr, ◌==◌, Bool, true, false, cond, List, [], ◌∷◌, ◌++◌, length, Option, Some, None, sym, ◌∙◌, ap, subst, arith}
use Rattle.std.specs.Prelude.{filter}
use Rattle.pfs_model.proofs.ChainGrowth.{times_append}
use Rattle.pfs_model.proofs.EachLists.{each_behind, each_join}
use Rattle.pfs_model.specs.Actions.{IsAmong}
use Rattle.pfs_model.specs.Causes.{kind_of_row}
use Rattle.pfs_model.specs.Chains.{Each, times}
use Rattle.pfs_model.specs.EntryPlaces.{Placed, before_phase, by_session, in_phase}
use Rattle.pfs_model.specs.Rings.{AreRisingTickets, AreTickets, IsAtOwn, LongPut, long_put, long_puts, ticket_shown, tickets_of_row, tickets_shown}
use Rattle.pfs_check_faults.proofs.MemberCounts.{among_left, among_right, each_among, each_at, filtered, self_is, some_times}
use Rattle.pfs_check_faults.specs.ReportCases.{AllHave}
use Rattle.pfs_check_faults.specs.RingFaults.{IsTicketed, TicketsAt}

-- the puts of a kind at one line
abbrev puts_at : ℕ → Placed → List LongPut
puts_at kind p = filter (λ (put : LongPut). kind_of_row put.row == kind) (long_put p.line p.entry)

-- the puts of a kind in a phase, and their tickets
abbrev pub phase_puts : ℕ → ℕ → List Placed → List LongPut
phase_puts phase kind ps = long_puts kind (in_phase phase ps)

shown_append : (xs ys : List LongPut) → tickets_shown (xs ++ ys) ≡ tickets_shown xs ++ tickets_shown ys
shown_append [] ys = refl
shown_append (x ∷ xs) ys = at x.ticket (shown_append xs ys) where
  at : (t : Option ℕ) → tickets_shown (xs ++ ys) ≡ tickets_shown xs ++ tickets_shown ys
      → ticket_shown t ++ tickets_shown (xs ++ ys) ≡ (ticket_shown t ++ tickets_shown xs) ++ tickets_shown ys
  at None more = more
  at (Some ticket) more = ap (λ z. ticket ∷ z) more

-- how many puts of a row, and how often a ticket
pub rows_in : ℕ → ℕ → ℕ → List Placed → ℕ
rows_in phase kind row ps = times (λ (put : LongPut). put.row == row) (phase_puts phase kind ps)

pub shows_in : ℕ → ℕ → ℕ → List Placed → ℕ
shows_in phase kind ticket ps = times (λ other. other == ticket) (tickets_shown (phase_puts phase kind ps))

-- those of a session, in a phase
pub tickets_by : ℕ → ℕ → ℕ → List Placed → List ℕ
tickets_by session phase kind ps = tickets_shown (long_puts kind (by_session session (in_phase phase ps)))

-- one line more
rows_here : ℕ → ℕ → ℕ → Placed → ℕ
rows_here phase kind row p = cond (p.phase == phase) (times (λ (put : LongPut). put.row == row) (puts_at kind p)) 0

rows_one : (phase kind row : ℕ) (p : Placed) (ps : List Placed)
    → rows_in phase kind row (p ∷ ps) ≡ rows_here phase kind row p + rows_in phase kind row ps
unfolding rows_in rows_here
rows_one phase kind row p ps = at (p.phase == phase) where
  at : (b : Bool) → times (λ (put : LongPut). put.row == row) (long_puts kind (cond b (p ∷ []) [] ++ in_phase phase ps))
      ≡ cond b (times (λ (put : LongPut). put.row == row) (puts_at kind p)) 0 + times (λ (put : LongPut). put.row == row) (phase_puts phase kind ps)
  at true = times_append (λ (put : LongPut). put.row == row) (puts_at kind p) (phase_puts phase kind ps)
  at false = omega arith

shows_here : ℕ → ℕ → ℕ → Placed → ℕ
shows_here phase kind ticket p = cond (p.phase == phase) (times (λ other. other == ticket) (tickets_shown (puts_at kind p))) 0

shows_one : (phase kind ticket : ℕ) (p : Placed) (ps : List Placed)
    → shows_in phase kind ticket (p ∷ ps) ≡ shows_here phase kind ticket p + shows_in phase kind ticket ps
unfolding shows_in shows_here
shows_one phase kind ticket p ps = at (p.phase == phase) where
  at : (b : Bool) → times (λ other. other == ticket) (tickets_shown (long_puts kind (cond b (p ∷ []) [] ++ in_phase phase ps)))
      ≡ cond b (times (λ other. other == ticket) (tickets_shown (puts_at kind p))) 0 + times (λ other. other == ticket) (tickets_shown (phase_puts phase kind ps))
  at true =
      ap (times (λ other. other == ticket)) (shown_append (puts_at kind p) (phase_puts phase kind ps))
      ∙ times_append (λ other. other == ticket) (tickets_shown (puts_at kind p)) (tickets_shown (phase_puts phase kind ps))
  at false = omega arith

by_here : ℕ → ℕ → ℕ → Placed → List ℕ
by_here session phase kind p = cond (p.phase == phase) (cond (p.session == session) (tickets_shown (puts_at kind p)) []) []

by_one : (session phase kind : ℕ) (p : Placed) (ps : List Placed)
    → tickets_by session phase kind (p ∷ ps) ≡ by_here session phase kind p ++ tickets_by session phase kind ps
unfolding tickets_by by_here
by_one session phase kind p ps = at (p.phase == phase) (inner (p.session == session)) where
  inner : (b : Bool) → tickets_shown (long_puts kind (cond b (p ∷ []) [] ++ by_session session (in_phase phase ps)))
      ≡ cond b (tickets_shown (puts_at kind p)) [] ++ tickets_shown (long_puts kind (by_session session (in_phase phase ps)))
  inner true = shown_append (puts_at kind p) (long_puts kind (by_session session (in_phase phase ps)))
  inner false = refl

  at : (a : Bool) → tickets_shown (long_puts kind (cond (p.session == session) (p ∷ []) [] ++ by_session session (in_phase phase ps)))
      ≡ cond (p.session == session) (tickets_shown (puts_at kind p)) [] ++ tickets_shown (long_puts kind (by_session session (in_phase phase ps)))
      → tickets_shown (long_puts kind (by_session session (cond a (p ∷ []) [] ++ in_phase phase ps)))
      ≡ cond a (cond (p.session == session) (tickets_shown (puts_at kind p)) []) [] ++ tickets_shown (long_puts kind (by_session session (in_phase phase ps)))
  at true h = h
  at false h = refl

-- what a line here has
rows_own : (kind row : ℕ) (p : Placed) → rows_here p.phase kind row p ≡ times (λ (put : LongPut). put.row == row) (puts_at kind p)
unfolding rows_here
rows_own kind row p = rw (self_is p.phase) refl

shows_own : (kind ticket : ℕ) (p : Placed) → shows_here p.phase kind ticket p ≡ times (λ other. other == ticket) (tickets_shown (puts_at kind p))
unfolding shows_here
shows_own kind ticket p = rw (self_is p.phase) refl

by_own : (kind : ℕ) (p : Placed) → by_here p.session p.phase kind p ≡ tickets_shown (puts_at kind p)
unfolding by_here
by_own kind p = rw (self_is p.phase, self_is p.session) refl

-- each below those behind it
abbrev pub Rises : List ℕ → Type 0
Rises [] = Unit {0}
Rises (ticket ∷ tickets) = Each (λ other. ticket < other) tickets × Rises tickets

rises_all : (tickets : List ℕ) → AreRisingTickets tickets → Rises tickets
rises_all [] h = tt
rises_all (ticket ∷ []) h = (tt, tt)
rises_all (ticket ∷ (next ∷ tickets)) h = at (rises_all (next ∷ tickets) h.1) where
  more : (others : List ℕ) → Each (λ other. next < other) others → Each (λ other. ticket < other) others
  more [] e = tt
  more (other ∷ others) e = let l : ticket < next = h.0 in let m : next < other = e.0 in (omega (arith, l, m), more others e.1)

  at : Rises (next ∷ tickets) → Rises (ticket ∷ (next ∷ tickets))
  at r = ((h.0, more tickets r.0), r)

-- each of the first is below each of the others
abbrev pub Below : List ℕ → List ℕ → Type 0
Below befores tickets = Each (λ before. Each (λ ticket. before < ticket) tickets) befores

rises_behind : (xs ys : List ℕ) → Rises (xs ++ ys) → Rises ys
rises_behind [] ys r = r
rises_behind (x ∷ xs) ys r = rises_behind xs ys r.1

rises_below : (xs ys : List ℕ) → Rises (xs ++ ys) → Below xs ys
rises_below [] ys r = tt
rises_below (x ∷ xs) ys r = (each_behind _ xs ys r.0, rises_below xs ys r.1)

below_right : (befores xs ys : List ℕ) → Below befores (xs ++ ys) → Below befores ys
below_right [] xs ys b = tt
below_right (before ∷ befores) xs ys b = (each_behind _ xs ys b.0, below_right befores xs ys b.1)

below_one : (befores tickets : List ℕ) (ticket : ℕ) → Below befores tickets → IsAmong ticket tickets → Each (λ before. before < ticket) befores
below_one [] tickets ticket b i = tt
below_one (before ∷ befores) tickets ticket b i =
    (each_at (λ other. before < other) ticket tickets b.0 i, below_one befores tickets ticket b.1 i)

shown_among : (put : LongPut) (puts : List LongPut) (ticket : ℕ) → IsAmong put puts → put.ticket ≡ Some ticket
    → IsAmong ticket (tickets_shown puts)
shown_among put [] ticket i e = absurd i
shown_among put (other ∷ puts) ticket (inl s) e =
    subst (λ z. IsAmong ticket (ticket_shown z ++ tickets_shown puts)) (sym (ap (λ (z : LongPut). z.ticket) s ∙ e)) (inl refl)
shown_among put (other ∷ puts) ticket (inr i) e =
    among_right ticket (ticket_shown other.ticket) (tickets_shown puts) (shown_among put puts ticket i e)

-- the puts of a phase from one line on have those of its own
own_puts : (kind : ℕ) (p : Placed) (ps : List Placed) (put : LongPut) → IsAmong put (puts_at kind p) → IsAmong put (phase_puts p.phase kind (p ∷ ps))
own_puts kind p ps put i = at (p.phase == p.phase) (self_is p.phase) where
  at : (b : Bool) → b ≡ true → IsAmong put (long_puts kind (cond b (p ∷ []) [] ++ in_phase p.phase ps))
  at true e = among_left put (puts_at kind p) (phase_puts p.phase kind ps) i
  at false e = absurd (cc)

later_puts : (phase kind : ℕ) (p : Placed) (ps : List Placed) (put : LongPut) → IsAmong put (phase_puts phase kind ps)
    → IsAmong put (phase_puts phase kind (p ∷ ps))
later_puts phase kind p ps put i = at (p.phase == phase) where
  at : (b : Bool) → IsAmong put (long_puts kind (cond b (p ∷ []) [] ++ in_phase phase ps))
  at true = among_right put (puts_at kind p) (phase_puts phase kind ps) i
  at false = i

-- what is known of the lines from here on
pub record Splits (all earlier ps : List Placed) : Type 0 where
  pub rows : (phase kind row : ℕ) → rows_in phase kind row all ≡ rows_in phase kind row earlier + rows_in phase kind row ps
  pub shown : (phase kind ticket : ℕ) → shows_in phase kind ticket all ≡ shows_in phase kind ticket earlier + shows_in phase kind ticket ps
  pub among : (phase kind : ℕ) (put : LongPut) → IsAmong put (phase_puts phase kind ps) → IsAmong put (phase_puts phase kind all)
  pub rising : (session phase kind : ℕ) → kind < 4 → Rises (tickets_by session phase kind ps)
  pub behind : (session phase kind : ℕ) → kind < 4 → Below (tickets_by session phase kind earlier) (tickets_by session phase kind ps)

splits_more : (all earlier ps : List Placed) (p : Placed) → Splits all earlier (p ∷ ps) → Splits all (p ∷ earlier) ps
splits_more all earlier ps p s = record {
  rows = λ phase kind row. omega (arith, s.rows phase kind row, rows_one phase kind row p earlier, rows_one phase kind row p ps);
  shown = λ phase kind ticket. omega (arith, s.shown phase kind ticket, shows_one phase kind ticket p earlier, shows_one phase kind ticket p ps);
  among = λ phase kind put i. s.among phase kind put (later_puts phase kind p ps put i);
  rising = λ session phase kind k. rises_behind (by_here session phase kind p) (tickets_by session phase kind ps) (whole session phase kind k);
  behind = λ session phase kind k.
      subst (λ z. Below z (tickets_by session phase kind ps)) (sym (by_one session phase kind p earlier))
      (each_join _ (by_here session phase kind p) (tickets_by session phase kind earlier)
      (rises_below (by_here session phase kind p) (tickets_by session phase kind ps) (whole session phase kind k))
      (below_right (tickets_by session phase kind earlier) (by_here session phase kind p) (tickets_by session phase kind ps)
      (subst (Below (tickets_by session phase kind earlier)) (by_one session phase kind p ps) (s.behind session phase kind k))));
} where
  whole : (session phase kind : ℕ) → kind < 4 → Rises (by_here session phase kind p ++ tickets_by session phase kind ps)
  whole session phase kind k = subst Rises (by_one session phase kind p ps) (s.rising session phase kind k)

-- a put here is as it must be
ticketed_here : (all earlier ps : List Placed) (p : Placed) → ((phase kind : ℕ) → kind < 4 → AreTickets all phase kind)
    → Splits all earlier (p ∷ ps) → (put : LongPut) → IsAmong put (long_put p.line p.entry) → kind_of_row put.row < 4
    → IsTicketed all earlier p put
unfolding rows_in shows_in tickets_by
ticketed_here all earlier ps p tickets s put i k = record {
  own = each_at (IsAtOwn (kind_of_row put.row)) put (phase_puts p.phase (kind_of_row put.row) all) (tickets p.phase (kind_of_row put.row) k).own (s.among p.phase (kind_of_row put.row) put stands);
  shown = λ ticket e. record {
    low = ((tickets p.phase (kind_of_row put.row) k).drawn ticket (shown_among put (phase_puts p.phase (kind_of_row put.row) all) ticket (s.among p.phase (kind_of_row put.row) put stands) e)).0;
    high = ((tickets p.phase (kind_of_row put.row) k).drawn ticket (shown_among put (phase_puts p.phase (kind_of_row put.row) all) ticket (s.among p.phase (kind_of_row put.row) put stands) e)).1;
    once = none ticket e;
    rises = below_one (tickets_by p.session p.phase (kind_of_row put.row) earlier) (tickets_by p.session p.phase (kind_of_row put.row) (p ∷ ps)) ticket
        (s.behind p.session p.phase (kind_of_row put.row) k)
        (subst (IsAmong ticket) (sym (by_one p.session p.phase (kind_of_row put.row) p ps))
        (among_left ticket (by_here p.session p.phase (kind_of_row put.row) p) (tickets_by p.session p.phase (kind_of_row put.row) ps)
        (subst (IsAmong ticket) (sym (by_own (kind_of_row put.row) p)) (shown_among put (puts_at (kind_of_row put.row) p) ticket here e))));
  };
  placed = room;
} where
  kind : ℕ
  kind = kind_of_row put.row

  here : IsAmong put (puts_at (kind_of_row put.row) p)
  here = filtered (λ (other : LongPut). kind_of_row other.row == kind_of_row put.row) put (long_put p.line p.entry) i (self_is (kind_of_row put.row))

  stands : IsAmong put (phase_puts p.phase (kind_of_row put.row) (p ∷ ps))
  stands = own_puts (kind_of_row put.row) p ps put here

  none : (ticket : ℕ) → put.ticket ≡ Some ticket → shows_in p.phase (kind_of_row put.row) ticket earlier ≡ 0
  none ticket e =
      let some : 0 < times (λ other. other == ticket) (tickets_shown (puts_at (kind_of_row put.row) p)) =
      some_times (λ other. other == ticket) ticket (tickets_shown (puts_at (kind_of_row put.row) p)) (shown_among put (puts_at (kind_of_row put.row) p) ticket here e) (self_is ticket) in
      let most : shows_in p.phase (kind_of_row put.row) ticket all ≤ 1 = (tickets p.phase (kind_of_row put.row) k).once ticket in
      omega (arith, some, most, s.shown p.phase (kind_of_row put.row) ticket, shows_one p.phase (kind_of_row put.row) ticket p ps, shows_own (kind_of_row put.row) ticket p)

  room : rows_in p.phase (kind_of_row put.row) put.row earlier
      < tickets_of_row (kind_of_row put.row) put.row (length (long_puts (kind_of_row put.row) (before_phase p.phase all)))
      (length (long_puts (kind_of_row put.row) (in_phase p.phase all)))
  room =
      let some : 0 < times (λ (other : LongPut). other.row == put.row) (puts_at (kind_of_row put.row) p) =
      some_times (λ (other : LongPut). other.row == put.row) put (puts_at (kind_of_row put.row) p) here (self_is put.row) in
      let is : rows_in p.phase (kind_of_row put.row) put.row all
      ≡ tickets_of_row (kind_of_row put.row) put.row (length (long_puts (kind_of_row put.row) (before_phase p.phase all)))
      (length (long_puts (kind_of_row put.row) (in_phase p.phase all))) = (tickets p.phase (kind_of_row put.row) k).placed put.row in
      omega (arith, some, is, s.rows p.phase (kind_of_row put.row) put.row, rows_one p.phase (kind_of_row put.row) put.row p ps, rows_own (kind_of_row put.row) put.row p)

ticketed_all : (all earlier ps : List Placed) → ((phase kind : ℕ) → kind < 4 → AreTickets all phase kind) → Splits all earlier ps
    → AllHave (TicketsAt all) earlier ps
ticketed_all all earlier [] tickets s = tt
ticketed_all all earlier (p ∷ ps) tickets s = (
  each_among _ (long_put p.line p.entry) (λ put i k. ticketed_here all earlier ps p tickets s put i k),
  ticketed_all all (p ∷ earlier) ps tickets (splits_more all earlier ps p s),
)

pub tickets_have : (all : List Placed) → ((phase kind : ℕ) → kind < 4 → AreTickets all phase kind) → AllHave (TicketsAt all) [] all
unfolding rows_in shows_in tickets_by
tickets_have all tickets = ticketed_all all [] all tickets (record {
  rows = λ phase kind row. omega arith;
  shown = λ phase kind ticket. omega arith;
  among = λ phase kind put i. i;
  rising = λ session phase kind k. rises_all (tickets_shown (long_puts kind (by_session session (in_phase phase all)))) ((tickets phase kind k).rising session);
  behind = λ session phase kind k. tt;
})
