-- The tickets of a kind in a phase are right where each put's is.
use Rattle.std.proofs.Common.{◌≡◌, refl, ℕ, zero, suc, ◌+◌, ◌*◌, ◌-◌, ◌/◌, ◌%◌, ◌<◌, ◌≤◌, ◌==◌, inl, inr, Bool, true, false, ◌&&◌, not, cond, nat_le, nat_lt, List, [], ◌∷◌, ◌++◌, length, Option, Some, None, sym, ◌∙◌, ap, subst, arith}
use Rattle.std.specs.Prelude.{◌⊎◌, filter}
use Rattle.std.proofs.lemmas.Bool.{eqb-true, leb-true}
use Rattle.pfs_event.specs.declared.entry.Entry.{Entry}
use Rattle.pfs_event.specs.declared.entry.Entry.TheVariants as says
use Rattle.pfs_model.proofs.ChainGrowth.{times_append}
use Rattle.pfs_model.proofs.EachLists.{each_behind, each_join}
use Rattle.pfs_model.specs.declared.lines.Line.{Line}
use Rattle.pfs_model.specs.Actions.{IsAmong}
use Rattle.pfs_model.specs.Causes.{kind_of_row, long_row}
use Rattle.pfs_model.specs.Chains.{Each, times}
use Rattle.pfs_model.specs.EntryPlaces.{Placed, before_phase, by_session, in_phase, up_to_phase}
use Rattle.pfs_model.specs.Rings.{AreRisingTickets, AreTickets, IsAtOwn, LongPut, is_reading_line, long_put, long_puts, ticket_shown, tickets_of_row, tickets_shown}
use Rattle.pfs_check_faults.specs.ReportCases.{AllHave}
use Rattle.pfs_check_faults.specs.RingFaults.{IsTicketed, TicketsAt}
use Rattle.pfs_check_tickets.proofs.PlaceSums.{IsWithin, puts_placed}

-- the puts of a kind in a phase, of entries and of one
abbrev pub phase_puts : ℕ → ℕ → List Placed → List LongPut
phase_puts phase kind ps = long_puts kind (in_phase phase ps)

abbrev pub puts_at : ℕ → Placed → List LongPut
puts_at kind p = filter (λ (put : LongPut). kind_of_row put.row == kind) (long_put p.line p.entry)

abbrev pub puts_here : ℕ → ℕ → Placed → List LongPut
puts_here phase kind p = cond (p.phase == phase) (puts_at kind p) []

pub puts_one : (phase kind : ℕ) (p : Placed) (ps : List Placed)
    → phase_puts phase kind (p ∷ ps) ≡ puts_here phase kind p ++ phase_puts phase kind ps
puts_one phase kind p ps = at (p.phase == phase) where
  at : (b : Bool) → long_puts kind (cond b (p ∷ []) [] ++ in_phase phase ps) ≡ cond b (puts_at kind p) [] ++ phase_puts phase kind ps
  at true = refl
  at false = refl

-- those of a session
abbrev pub tickets_by : ℕ → ℕ → ℕ → List Placed → List ℕ
tickets_by session phase kind ps = tickets_shown (long_puts kind (by_session session (in_phase phase ps)))

abbrev pub tickets_here : ℕ → ℕ → ℕ → Placed → List ℕ
tickets_here session phase kind p = cond (p.session == session) (tickets_shown (puts_here phase kind p)) []

pub shown_append : (xs ys : List LongPut) → tickets_shown (xs ++ ys) ≡ tickets_shown xs ++ tickets_shown ys
shown_append [] ys = refl
shown_append (x ∷ xs) ys = at x.ticket (shown_append xs ys) where
  at : (t : Option ℕ) → tickets_shown (xs ++ ys) ≡ tickets_shown xs ++ tickets_shown ys
      → ticket_shown t ++ tickets_shown (xs ++ ys) ≡ (ticket_shown t ++ tickets_shown xs) ++ tickets_shown ys
  at None more = more
  at (Some ticket) more = ap (λ z. ticket ∷ z) more

pub tickets_one : (session phase kind : ℕ) (p : Placed) (ps : List Placed)
    → tickets_by session phase kind (p ∷ ps) ≡ tickets_here session phase kind p ++ tickets_by session phase kind ps
tickets_one session phase kind p ps = at (p.phase == phase) (p.session == session) refl where
  inner : (b : Bool) → tickets_shown (long_puts kind (cond b (p ∷ []) [] ++ by_session session (in_phase phase ps)))
      ≡ cond b (tickets_shown (puts_at kind p)) [] ++ tickets_by session phase kind ps
  inner true = shown_append (puts_at kind p) (long_puts kind (by_session session (in_phase phase ps)))
  inner false = refl

  none : (b : Bool) → tickets_by session phase kind ps ≡ cond b [] [] ++ tickets_by session phase kind ps
  none true = refl
  none false = refl

  at : (a b : Bool) → (p.session == session) ≡ b → tickets_shown (long_puts kind (by_session session (cond a (p ∷ []) [] ++ in_phase phase ps)))
      ≡ cond b (tickets_shown (cond a (puts_at kind p) [])) [] ++ tickets_by session phase kind ps
  at true b e =
      inner (p.session == session) ∙ ap (λ z. cond z (tickets_shown (puts_at kind p)) [] ++ tickets_by session phase kind ps) e
  at false b e = none b

-- what is asked of a put of a kind in a phase
pub record IsPut (all earlier : List Placed) (phase kind session : ℕ) (put : LongPut) : Type 0 where
  pub own : IsAtOwn kind put
  pub low : (ticket : ℕ) → put.ticket ≡ Some ticket → length (long_puts kind (before_phase phase all)) ≤ ticket
  pub high : (ticket : ℕ) → put.ticket ≡ Some ticket → ticket < length (long_puts kind (up_to_phase phase all))
  pub once : (ticket : ℕ) → put.ticket ≡ Some ticket
      → times (λ other. other == ticket) (tickets_shown (phase_puts phase kind earlier)) ≡ 0
  pub rises : (ticket : ℕ) → put.ticket ≡ Some ticket → Each (λ other. other < ticket) (tickets_by session phase kind earlier)
  pub placed : times (λ (other : LongPut). other.row == put.row) (phase_puts phase kind earlier)
      < tickets_of_row kind put.row (length (long_puts kind (before_phase phase all))) (length (phase_puts phase kind all))
  pub within : IsWithin (10242 + 1000 * kind) 1000 put

-- a busy place is one of the long history
long_within : (line : Line) (entry : Entry) → Each (λ (put : LongPut). put.ticket ≡ None → 10242 ≤ put.row) (long_put line entry)
long_within line (says.Long row version ticket) = (λ e. absurd (cc), tt)
long_within line (says.Late row ticket greater) = (λ e. absurd (cc), tt)
long_within line (says.Busy row first second) = at (is_reading_line line) (nat_le 10242 row) refl where
  at : (a b : Bool) → nat_le 10242 row ≡ b
      → Each (λ (put : LongPut). put.ticket ≡ None → 10242 ≤ put.row)
      (cond (not a && b) (record { row = row; ticket = None } ∷ []) [])
  at true b e = tt
  at false true e = (λ n. leb-true 10242 row e, tt)
  at false false e = tt
long_within line _ = tt

-- so it stands at a place of its kind
within_of : (kind : ℕ) (put : LongPut) → kind_of_row put.row ≡ kind → IsAtOwn kind put → (put.ticket ≡ None → 10242 ≤ put.row)
    → IsWithin (10242 + 1000 * kind) 1000 put
within_of kind put k own busy = at put.ticket refl where
  low : (n : ℕ) → n % 1000 < 1000
  low n = grind arith

  at : (t : Option ℕ) → put.ticket ≡ t → IsWithin (10242 + 1000 * kind) 1000 put
  at None e =
      let from : 10242 ≤ put.row = busy e in
      let is : (put.row - 10242) / 1000 ≡ kind = k in
      record { place = (put.row - 10242) % 1000; low = low (put.row - 10242); row_is = split (put.row - 10242) from is }
    where
      split : (n : ℕ) → 10242 ≤ put.row → (put.row - 10242) / 1000 ≡ kind → put.row ≡ 10242 + 1000 * kind + (put.row - 10242) % 1000
      split n from is = omega (arith, from, is)
  at (Some ticket) e = record { place = ticket % 1000; low = low ticket; row_is = own ticket e }

put_is : (all earlier : List Placed) (p : Placed) (phase kind : ℕ) (put : LongPut) → p.phase ≡ phase → kind_of_row put.row ≡ kind
    → (put.ticket ≡ None → 10242 ≤ put.row) → IsTicketed all earlier p put → IsPut all earlier phase kind p.session put
put_is all earlier p phase kind put e k busy t =
    subst (λ z. IsPut all earlier z kind p.session put) e (subst (λ z. IsPut all earlier p.phase z p.session put) k (record {
      own = t.own;
      low = λ ticket f. (t.shown ticket f).low;
      high = λ ticket f. (t.shown ticket f).high;
      once = λ ticket f. (t.shown ticket f).once;
      rises = λ ticket f. (t.shown ticket f).rises;
      placed = t.placed;
      within = within_of (kind_of_row put.row) put refl t.own busy;
    }))

-- an entry has none of them, or one
pub data Hit (all earlier : List Placed) (phase kind session : ℕ) : List LongPut → Type 0 where
  Misses : Hit all earlier phase kind session []
  Hits : (put : LongPut) → IsPut all earlier phase kind session put → Hit all earlier phase kind session (put ∷ [])

short : (line : Line) (entry : Entry) → length (long_put line entry) ≤ 1
short line (says.Long row version ticket) = omega arith
short line (says.Late row ticket greater) = omega arith
short line (says.Busy row first second) = at (not (is_reading_line line) && nat_le 10242 row) where
  at : (b : Bool) → length (cond {A = List LongPut} b (record { row = row; ticket = None } ∷ []) []) ≤ 1
  at true = omega arith
  at false = omega arith
short line _ = omega arith

hit_is : (all earlier : List Placed) (p : Placed) (phase kind : ℕ) → kind < 4 → TicketsAt all earlier p
    → Hit all earlier phase kind p.session (puts_here phase kind p)
hit_is all earlier p phase kind k t = at (p.phase == phase) refl where
  list : p.phase ≡ phase → (puts : List LongPut) → length puts ≤ 1 → Each (λ (put : LongPut). put.ticket ≡ None → 10242 ≤ put.row) puts
      → Each (λ (put : LongPut). kind_of_row put.row < 4 → IsTicketed all earlier p put) puts
      → Hit all earlier phase kind p.session (filter (λ (put : LongPut). kind_of_row put.row == kind) puts)
  list e [] s b h = Misses
  list e (put ∷ []) s b h = on (kind_of_row put.row == kind) refl where
    on : (c : Bool) → (kind_of_row put.row == kind) ≡ c → Hit all earlier phase kind p.session (cond c (put ∷ []) [])
    on true f =
        let is : kind_of_row put.row ≡ kind = eqb-true (kind_of_row put.row) kind f in
        Hits put (put_is all earlier p phase kind put e is b.0 (h.0 (omega (arith, is, k))))
    on false f = Misses
  list e (put ∷ (other ∷ puts)) s b h = absurd (omega (arith, s))

  at : (b : Bool) → (p.phase == phase) ≡ b → Hit all earlier phase kind p.session (cond b (puts_at kind p) [])
  at true e = list (eqb-true p.phase phase e) (long_put p.line p.entry) (short p.line p.entry) (long_within p.line p.entry) t
  at false e = Misses

-- a fact of each of them
each_put : (Q : LongPut → Type 0) (all earlier : List Placed) (phase kind : ℕ)
    → ((earlier : List Placed) (session : ℕ) (put : LongPut) → IsPut all earlier phase kind session put → Q put)
    → (ps : List Placed) → kind < 4 → AllHave (TicketsAt all) earlier ps → Each Q (phase_puts phase kind ps)
each_put Q all earlier phase kind q [] k h = tt
each_put Q all earlier phase kind q (p ∷ ps) k h =
    subst (Each Q) (sym (puts_one phase kind p ps))
    (each_join Q (puts_here phase kind p) (phase_puts phase kind ps) (one (puts_here phase kind p) (hit_is all earlier p phase kind k h.0))
    (each_put Q all (p ∷ earlier) phase kind q ps k h.1)) where
      one : (xs : List LongPut) → Hit all earlier phase kind p.session xs → Each Q xs
      one _ Misses = tt
      one _ (Hits put i) = (q earlier p.session put i, tt)

each_shown : (Q : ℕ → Type 0) (puts : List LongPut) → Each (λ (put : LongPut). (ticket : ℕ) → put.ticket ≡ Some ticket → Q ticket) puts
    → (ticket : ℕ) → IsAmong ticket (tickets_shown puts) → Q ticket
each_shown Q [] e ticket i = absurd i
each_shown Q (put ∷ puts) e ticket i = at put.ticket refl i (each_shown Q puts e.1 ticket) where
  at : (t : Option ℕ) → put.ticket ≡ t → IsAmong ticket (ticket_shown t ++ tickets_shown puts)
      → (IsAmong ticket (tickets_shown puts) → Q ticket) → Q ticket
  at None f j rest = rest j
  at (Some other) f (inl s) rest = subst Q s (e.0 other f)
  at (Some other) f (inr j) rest = rest j

-- no ticket twice
shows : ℕ → ℕ → ℕ → List Placed → ℕ
shows phase kind ticket ps = times (λ other. other == ticket) (tickets_shown (phase_puts phase kind ps))

abbrev shows_of : ℕ → List LongPut → ℕ
shows_of ticket puts = times (λ other. other == ticket) (tickets_shown puts)

shows_one : (phase kind ticket : ℕ) (p : Placed) (ps : List Placed)
    → shows phase kind ticket (p ∷ ps) ≡ shows_of ticket (puts_here phase kind p) + shows phase kind ticket ps
unfolding shows
shows_one phase kind ticket p ps =
    ap (shows_of ticket) (puts_one phase kind p ps)
    ∙ ap (times (λ other. other == ticket)) (shown_append (puts_here phase kind p) (phase_puts phase kind ps))
    ∙ times_append (λ other. other == ticket) (tickets_shown (puts_here phase kind p)) (tickets_shown (phase_puts phase kind ps))

once_all : (all earlier ps : List Placed) (phase kind ticket : ℕ) → kind < 4 → AllHave (TicketsAt all) earlier ps
    → shows phase kind ticket earlier ≤ 1 → shows phase kind ticket earlier + shows phase kind ticket ps ≤ 1
unfolding shows
once_all all earlier [] phase kind ticket k h less = omega (arith, less)
once_all all earlier (p ∷ ps) phase kind ticket k h less =
    let here : shows_of ticket (puts_here phase kind p) + shows phase kind ticket earlier ≤ 1 =
    one (puts_here phase kind p) (hit_is all earlier p phase kind k h.0) in
    let more : shows phase kind ticket (p ∷ earlier) + shows phase kind ticket ps ≤ 1 =
    once_all all (p ∷ earlier) ps phase kind ticket k h.1 (omega (arith, here, shows_one phase kind ticket p earlier)) in
    omega (arith, more, shows_one phase kind ticket p earlier, shows_one phase kind ticket p ps) where
      one : (xs : List LongPut) → Hit all earlier phase kind p.session xs → shows_of ticket xs + shows phase kind ticket earlier ≤ 1
      one _ Misses = omega (arith, less)
      one _ (Hits put i) = at put.ticket refl where
        at : (t : Option ℕ) → put.ticket ≡ t → times (λ other. other == ticket) (ticket_shown t ++ []) + shows phase kind ticket earlier ≤ 1
        at None e = omega (arith, less)
        at (Some other) e = same (other == ticket) refl where
          same : (b : Bool) → (other == ticket) ≡ b → (cond b 1 0 + 0) + shows phase kind ticket earlier ≤ 1
          same true f =
              let none : shows phase kind ticket earlier ≡ 0 =
              subst (λ z. shows phase kind z earlier ≡ 0) (eqb-true other ticket f) (i.once other e) in
              omega (arith, none)
          same false f = omega (arith, less)

-- no place has too many
rows : ℕ → ℕ → ℕ → List Placed → ℕ
rows phase kind row ps = times (λ (put : LongPut). put.row == row) (phase_puts phase kind ps)

abbrev rows_of : ℕ → List LongPut → ℕ
rows_of row puts = times (λ (put : LongPut). put.row == row) puts

rows_one : (phase kind row : ℕ) (p : Placed) (ps : List Placed)
    → rows phase kind row (p ∷ ps) ≡ rows_of row (puts_here phase kind p) + rows phase kind row ps
unfolding rows
rows_one phase kind row p ps =
    ap (rows_of row) (puts_one phase kind p ps)
    ∙ times_append (λ (put : LongPut). put.row == row) (puts_here phase kind p) (phase_puts phase kind ps)

abbrev room : List Placed → ℕ → ℕ → ℕ → ℕ
room all phase kind row = tickets_of_row kind row (length (long_puts kind (before_phase phase all))) (length (phase_puts phase kind all))

most_all : (all earlier ps : List Placed) (phase kind row : ℕ) → kind < 4 → AllHave (TicketsAt all) earlier ps
    → rows phase kind row earlier ≤ room all phase kind row → rows phase kind row earlier + rows phase kind row ps ≤ room all phase kind row
unfolding rows
most_all all earlier [] phase kind row k h less = omega (arith, less)
most_all all earlier (p ∷ ps) phase kind row k h less =
    let here : rows_of row (puts_here phase kind p) + rows phase kind row earlier ≤ room all phase kind row =
    one (puts_here phase kind p) (hit_is all earlier p phase kind k h.0) in
    let more : rows phase kind row (p ∷ earlier) + rows phase kind row ps ≤ room all phase kind row =
    most_all all (p ∷ earlier) ps phase kind row k h.1 (omega (arith, here, rows_one phase kind row p earlier)) in
    omega (arith, more, rows_one phase kind row p earlier, rows_one phase kind row p ps) where
      one : (xs : List LongPut) → Hit all earlier phase kind p.session xs → rows_of row xs + rows phase kind row earlier ≤ room all phase kind row
      one _ Misses = omega (arith, less)
      one _ (Hits put i) = same (put.row == row) refl where
        same : (b : Bool) → (put.row == row) ≡ b → (cond b 1 0 + 0) + rows phase kind row earlier ≤ room all phase kind row
        same true f =
            let low : rows phase kind row earlier < room all phase kind row =
            subst (λ z. rows phase kind z earlier < room all phase kind z) (eqb-true put.row row f) i.placed in
            omega (arith, low)
        same false f = omega (arith, less)

-- along a session they rise
abbrev Below : List ℕ → List ℕ → Type 0
Below befores tickets = Each (λ before. Each (λ ticket. before < ticket) tickets) befores

abbrev Rises : List ℕ → Type 0
Rises [] = Unit {0}
Rises (ticket ∷ tickets) = Each (λ other. ticket < other) tickets × Rises tickets

rising_of : (tickets : List ℕ) → Rises tickets → AreRisingTickets tickets
rising_of [] r = tt
rising_of (ticket ∷ []) r = tt
rising_of (ticket ∷ (next ∷ tickets)) r = (r.0.0, rising_of (next ∷ tickets) r.1)

below_more : (befores tickets : List ℕ) (ticket : ℕ) → Each (λ before. before < ticket) befores → Below befores tickets → Below befores (ticket ∷ tickets)
below_more [] tickets ticket e b = tt
below_more (before ∷ befores) tickets ticket e b = ((e.0, b.0), below_more befores tickets ticket e.1 b.1)

below_none : (befores : List ℕ) → Below befores []
below_none [] = tt
below_none (before ∷ befores) = (tt, below_none befores)

record Rise (session phase kind : ℕ) (earlier ps : List Placed) : Type 0 where
  below : Below (tickets_by session phase kind earlier) (tickets_by session phase kind ps)
  rises : Rises (tickets_by session phase kind ps)

rise_all : (all earlier ps : List Placed) (session phase kind : ℕ) → kind < 4 → AllHave (TicketsAt all) earlier ps → Rise session phase kind earlier ps
rise_all all earlier [] session phase kind k h = record { below = below_none (tickets_by session phase kind earlier); rises = tt }
rise_all all earlier (p ∷ ps) session phase kind k h =
    on (p.session == session) refl (rise_all all (p ∷ earlier) ps session phase kind k h.1) where
      more : (here : List ℕ) → tickets_here session phase kind p ≡ here → Rise session phase kind (p ∷ earlier) ps
          → Below (here ++ tickets_by session phase kind earlier) (tickets_by session phase kind ps)
      more here e r = subst (λ z. Below z (tickets_by session phase kind ps)) (tickets_one session phase kind p earlier ∙ ap (λ z. z ++ tickets_by session phase kind earlier) e) r.below

      back : (here : List ℕ) → tickets_here session phase kind p ≡ here
          → Below (tickets_by session phase kind earlier) (here ++ tickets_by session phase kind ps) → Rises (here ++ tickets_by session phase kind ps)
          → Rise session phase kind earlier (p ∷ ps)
      back here e b r = record {
        below = subst (Below (tickets_by session phase kind earlier)) (sym (tickets_one session phase kind p ps ∙ ap (λ z. z ++ tickets_by session phase kind ps) e)) b;
        rises = subst Rises (sym (tickets_one session phase kind p ps ∙ ap (λ z. z ++ tickets_by session phase kind ps) e)) r;
      }

      nothing : tickets_here session phase kind p ≡ [] → Rise session phase kind (p ∷ earlier) ps → Rise session phase kind earlier (p ∷ ps)
      nothing e r = back [] e (more [] e r) r.rises

      one : (xs : List LongPut) → puts_here phase kind p ≡ xs → Hit all earlier phase kind p.session xs → p.session ≡ session
          → tickets_here session phase kind p ≡ tickets_shown xs → Rise session phase kind (p ∷ earlier) ps → Rise session phase kind earlier (p ∷ ps)
      one _ same Misses s e r = nothing e r
      one _ same (Hits put i) s e r = at put.ticket refl where
        at : (t : Option ℕ) → put.ticket ≡ t → Rise session phase kind earlier (p ∷ ps)
        at None f = nothing (e ∙ ap (λ z. ticket_shown z ++ []) f) r
        at (Some ticket) f =
            let is : tickets_here session phase kind p ≡ ticket ∷ [] = e ∙ ap (λ z. ticket_shown z ++ []) f in
            let low : Below (ticket ∷ tickets_by session phase kind earlier) (tickets_by session phase kind ps) = more (ticket ∷ []) is r in
            back (ticket ∷ []) is
            (below_more (tickets_by session phase kind earlier) (tickets_by session phase kind ps) ticket
            (subst (λ z. Each (λ other. other < ticket) (tickets_by z phase kind earlier)) s (i.rises ticket f)) low.1)
            (low.0, r.rises)

      on : (b : Bool) → (p.session == session) ≡ b → Rise session phase kind (p ∷ earlier) ps → Rise session phase kind earlier (p ∷ ps)
      on true e r =
          one (puts_here phase kind p) refl (hit_is all earlier p phase kind k h.0) (eqb-true p.session session e)
          (ap (λ z. cond z (tickets_shown (puts_here phase kind p)) []) e) r
      on false e r = nothing (ap (λ z. cond z (tickets_shown (puts_here phase kind p)) []) e) r

pub tickets_back : (all : List Placed) → AllHave (TicketsAt all) [] all → (phase kind : ℕ) → kind < 4 → AreTickets all phase kind
unfolding shows rows
tickets_back all h phase kind k = record {
  placed = puts_placed kind (length (long_puts kind (before_phase phase all))) (phase_puts phase kind all)
      (each_put (IsWithin (10242 + 1000 * kind) 1000) all [] phase kind (λ earlier session put i. i.within) all k h)
      (λ row. plus (rows phase kind row all) (room all phase kind row) (most_all all [] all phase kind row k h (omega arith)));
  own = each_put (IsAtOwn kind) all [] phase kind (λ earlier session put i. i.own) all k h;
  once = λ ticket. plus (shows phase kind ticket all) 1 (once_all all [] all phase kind ticket k h (omega arith));
  drawn = λ ticket i. (
    each_shown (λ t. length (long_puts kind (before_phase phase all)) ≤ t) (phase_puts phase kind all)
        (each_put (λ (put : LongPut). (t : ℕ) → put.ticket ≡ Some t → length (long_puts kind (before_phase phase all)) ≤ t) all [] phase kind
        (λ earlier session put i. i.low) all k h) ticket i,
    each_shown (λ t. t < length (long_puts kind (up_to_phase phase all))) (phase_puts phase kind all)
        (each_put (λ (put : LongPut). (t : ℕ) → put.ticket ≡ Some t → t < length (long_puts kind (up_to_phase phase all))) all [] phase kind
        (λ earlier session put i. i.high) all k h) ticket i,
  );
  rising = λ session. rising_of (tickets_by session phase kind all) (rise_all all [] all session phase kind k h).rises;
} where
  plus : (m n : ℕ) → 0 + m ≤ n → m ≤ n
  plus m n h = omega (arith, h)
