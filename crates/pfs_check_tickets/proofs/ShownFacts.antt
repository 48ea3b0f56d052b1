-- What puts showed, along the entries.
use Rattle.std.proofs.Common.{◌≡◌, refl, ℕ, ◌+◌, ◌<◌, ◌≤◌, ◌==◌, max, inl, inr, Bool, true, false, ◌&&◌, not, cond, nat_le, nat_lt, List, [], ◌∷◌, ◌++◌, Option, Some, None, sym, ◌∙◌, ap, subst, arith}
use Rattle.std.specs.Prelude.{filter, ◌⊎◌, OnOk, Result, Ok, Err}
use Rattle.std.specs.BTreeMap.{BTreeMap, get}
use Rattle.std.specs.BTreeSet.{contains}
use Rattle.std.proofs.lemmas.Bool.{eqb-true, ltb-false, ltb-true}
use Rattle.std.proofs.lemmas.Bool.Decides.{nat_tests}
use Rattle.pfs_model.proofs.ChainGrowth.{times_append}
use Rattle.pfs_model.specs.Causes.{kind_of_row}
use Rattle.pfs_model.specs.Chains.{Each, times}
use Rattle.pfs_model.specs.EntryPlaces.{Placed, by_session, in_phase}
use Rattle.pfs_model.specs.Rings.{LongPut, long_put, long_puts, ticket_shown, tickets_shown}
use Rattle.pfs_check_walk.specs.NumberTests.{Tells}
use Rattle.pfs_check_tickets.specs.declared.puts.Put.{Put}
use Rattle.pfs_check_tickets.specs.declared.showing.PhaseRow.{PhaseRow}
use Rattle.pfs_check_tickets.specs.declared.showing.PhaseTicket.{PhaseTicket}
use Rattle.pfs_check_tickets.specs.declared.showing.SessionKind.{SessionKind}
use Rattle.pfs_check_tickets.specs.declared.showing.ShownPuts.{ShownPuts}
use Rattle.pfs_check_tickets.specs.PrintedPuts.{long_of, long_of_put, put_of}
use Rattle.pfs_check_tickets.specs.ShownPuts.{AreShown, greater_of, greatest_of, is_above, is_same_row, is_same_session, is_same_shown, row_count, rows_put, session_cmp, session_tickets, shown_cmp, shows_ticket}
use Rattle.pfs_check_tickets.proofs.CountFacts.{long_is}
use Rattle.pfs_check_tickets.proofs.TicketLaws.{phase_puts, puts_at, puts_here, puts_one, shown_append, tickets_by, tickets_here, tickets_one}

-- what an entry puts that is this put
abbrev puts_of : ℕ → Bool → Put → List LongPut
puts_of kind there put = cond there (cond (kind_of_row put.row == kind) (long_of_put put ∷ []) []) []

here_is : (phase kind : ℕ) (p : Placed) (put : Put) → put_of p.line p.entry ≡ Some put → puts_here phase kind p ≡ puts_of kind (p.phase == phase) put
here_is phase kind p put e =
    ap (λ z. cond (p.phase == phase) (filter (λ (other : LongPut). kind_of_row other.row == kind) z) []) (long_is p.line p.entry ∙ ap long_of e)
    ∙ at (p.phase == phase) (kind_of_row put.row == kind) where
      at : (a b : Bool) → cond {A = List LongPut} a (cond b (long_of_put put ∷ []) []) [] ≡ cond a (cond b (long_of_put put ∷ []) []) []
      at a b = refl

-- numbers that differ
not_same : (a b : ℕ) → (a == b) ≡ false → a ≡ b → ⊥
not_same a b e s = absurd (grind arith)

-- the puts of a row
abbrev rows_of : ℕ → List LongPut → ℕ
rows_of row puts = times (λ (put : LongPut). put.row == row) puts

rows_more : (key : PhaseRow) (p : Placed) (ps : List Placed) (put : Put) → put_of p.line p.entry ≡ Some put
    → rows_put key (p ∷ ps) ≡ cond ((p.phase == key.phase) && (put.row == key.row)) 1 0 + rows_put key ps
rows_more key p ps put e =
    ap (rows_of key.row) (puts_one key.phase (kind_of_row key.row) p ps)
    ∙ times_append (λ (other : LongPut). other.row == key.row) (puts_here key.phase (kind_of_row key.row) p) (phase_puts key.phase (kind_of_row key.row) ps)
    ∙ ap (λ z. z + rows_put key ps) (ap (rows_of key.row) (here_is key.phase (kind_of_row key.row) p put e)
    ∙ at (p.phase == key.phase) (kind_of_row put.row == kind_of_row key.row) (put.row == key.row) refl refl) where
      at : (a b c : Bool) → (kind_of_row put.row == kind_of_row key.row) ≡ b → (put.row == key.row) ≡ c
          → rows_of key.row (cond a (cond b (long_of_put put ∷ []) []) []) ≡ cond (a && c) 1 0
      at false b c f g = refl
      at true true c f g = ap (λ z. cond {A = ℕ} z 1 0 + 0) g ∙ bit c where
        bit : (z : Bool) → cond {A = ℕ} z 1 0 + 0 ≡ cond z 1 0
        bit true = refl
        bit false = refl
      at true false false f g = refl
      at true false true f g = absurd (same (ap kind_of_row (eqb-true put.row key.row g))) where
        same : kind_of_row put.row ≡ kind_of_row key.row → ⊥
        same s = not_same (kind_of_row put.row) (kind_of_row key.row) f s

-- whether a ticket was shown
abbrev shows_of : ℕ → List LongPut → ℕ
shows_of ticket puts = times (λ other. other == ticket) (tickets_shown puts)

shows_one : (key : PhaseTicket) (p : Placed) (ps : List Placed)
    → shows_of key.ticket (phase_puts key.phase key.kind (p ∷ ps))
    ≡ shows_of key.ticket (puts_here key.phase key.kind p) + shows_of key.ticket (phase_puts key.phase key.kind ps)
shows_one key p ps =
    ap (shows_of key.ticket) (puts_one key.phase key.kind p ps)
    ∙ ap (times (λ other. other == key.ticket)) (shown_append (puts_here key.phase key.kind p) (phase_puts key.phase key.kind ps))
    ∙ times_append (λ other. other == key.ticket) (tickets_shown (puts_here key.phase key.kind p)) (tickets_shown (phase_puts key.phase key.kind ps))

some_or : (b : Bool) (n : ℕ) → nat_lt 0 (cond b 1 0 + n) ≡ cond b true (nat_lt 0 n)
some_or true n = grind (arith, nat_tests)
some_or false n = ap (nat_lt 0) (zero_plus n) where
  zero_plus : (n : ℕ) → 0 + n ≡ n
  zero_plus n = omega arith

abbrev is_ticket : Option ℕ → ℕ → Bool
is_ticket None ticket = false
is_ticket (Some other) ticket = other == ticket

shows_more : (key : PhaseTicket) (p : Placed) (ps : List Placed) (put : Put) → put_of p.line p.entry ≡ Some put
    → shows_ticket key (p ∷ ps)
    ≡ cond ((p.phase == key.phase) && ((kind_of_row put.row == key.kind) && is_ticket put.ticket key.ticket)) true (shows_ticket key ps)
shows_more key p ps put e =
    ap (nat_lt 0) (shows_one key p ps ∙ ap (λ z. z + shows_of key.ticket (phase_puts key.phase key.kind ps))
    (ap (shows_of key.ticket) (here_is key.phase key.kind p put e)
    ∙ at (p.phase == key.phase) (kind_of_row put.row == key.kind) put.ticket))
    ∙ some_or ((p.phase == key.phase) && ((kind_of_row put.row == key.kind) && is_ticket put.ticket key.ticket))
    (shows_of key.ticket (phase_puts key.phase key.kind ps)) where
      at : (a b : Bool) (t : Option ℕ)
          → shows_of key.ticket (cond a (cond b (record { row = put.row; ticket = t } ∷ []) []) []) ≡ cond (a && (b && is_ticket t key.ticket)) 1 0
      at false b t = refl
      at true false t = refl
      at true true None = refl
      at true true (Some other) = bit (other == key.ticket) where
        bit : (z : Bool) → cond {A = ℕ} z 1 0 + 0 ≡ cond z 1 0
        bit true = refl
        bit false = refl

-- the greatest ticket of a session
abbrev greatest_more : Option ℕ → Bool → Option ℕ → Option ℕ
greatest_more None here greatest = greatest
greatest_more (Some ticket) here greatest = cond here (Some (greater_of ticket greatest)) greatest

session_more : (key : SessionKind) (p : Placed) (ps : List Placed) (put : Put) → put_of p.line p.entry ≡ Some put
    → greatest_of (session_tickets key (p ∷ ps))
    ≡ greatest_more put.ticket ((p.phase == key.phase) && ((p.session == key.session) && (kind_of_row put.row == key.kind)))
    (greatest_of (session_tickets key ps))
session_more key p ps put e =
    ap greatest_of (tickets_one key.session key.phase key.kind p ps
    ∙ ap (λ z. cond (p.session == key.session) (tickets_shown z) [] ++ session_tickets key ps) (here_is key.phase key.kind p put e))
    ∙ at (p.phase == key.phase) (p.session == key.session) (kind_of_row put.row == key.kind) put.ticket where
      at : (a b c : Bool) (t : Option ℕ)
          → greatest_of (cond b (tickets_shown (cond a (cond c (record { row = put.row; ticket = t } ∷ []) []) [])) [] ++ session_tickets key ps)
          ≡ greatest_more t (a && (b && c)) (greatest_of (session_tickets key ps))
      at true true true None = refl
      at true true true (Some ticket) = refl
      at true true false None = refl
      at true true false (Some ticket) = refl
      at true false c None = refl
      at true false c (Some ticket) = refl
      at false true c None = refl
      at false true c (Some ticket) = refl
      at false false c None = refl
      at false false c (Some ticket) = refl

abbrev session_at : ℕ → ℕ → ℕ → SessionKind
session_at phase session kind = record { phase = phase; session = session; kind = kind }

same_session : (one other : SessionKind) → is_same_session one other ≡ true → one ≡ other
same_session one other = at (one.phase == other.phase) (one.session == other.session) (one.kind == other.kind) refl refl refl where
  at : (a b c : Bool) → (one.phase == other.phase) ≡ a → (one.session == other.session) ≡ b → (one.kind == other.kind) ≡ c
      → (a && (b && c)) ≡ true → one ≡ other
  at true true true e f g h =
      ap (λ z. session_at z one.session one.kind) (eqb-true one.phase other.phase e)
      ∙ ap (λ z. session_at other.phase z one.kind) (eqb-true one.session other.session f)
      ∙ ap (λ z. session_at other.phase other.session z) (eqb-true one.kind other.kind g)
  at true true false e f g h = absurd (cc)
  at true false c e f g h = absurd (cc)
  at false b c e f g h = absurd (cc)

-- one put more
pub record IsShownMore (old new : ShownPuts) (phase session row kind : ℕ) (ticket : Option ℕ) : Type 0 where
  pub rows : (other : PhaseRow) → row_count new.rows other
      ≡ cond ((phase == other.phase) && (row == other.row)) (row_count old.rows other + 1) (row_count old.rows other)
  pub tickets : (other : PhaseTicket) → contains shown_cmp new.tickets other
      ≡ cond ((phase == other.phase) && ((kind == other.kind) && is_ticket ticket other.ticket)) true
      (contains shown_cmp old.tickets other)
  pub sessions : (other : SessionKind) → get session_cmp new.sessions other
      ≡ greatest_more ticket ((phase == other.phase) && ((session == other.session) && (kind == other.kind)))
      (get session_cmp old.sessions other)

shown_more : (old new : ShownPuts) (earlier : List Placed) (place : Placed) (put : Put) → put_of place.line place.entry ≡ Some put
    → IsShownMore old new place.phase place.session put.row (kind_of_row put.row) put.ticket → AreShown earlier old
    → AreShown (place ∷ earlier) new
shown_more old new earlier place put e more h = record {
  rows = λ key. more.rows key ∙ count ((place.phase == key.phase) && (put.row == key.row)) (row_count old.rows key) (rows_put key earlier) (h.rows key)
      ∙ sym (rows_more key place earlier put e);
  tickets = λ key. more.tickets key
      ∙ ap (cond ((place.phase == key.phase) && ((kind_of_row put.row == key.kind) && is_ticket put.ticket key.ticket)) true) (h.tickets key)
      ∙ sym (shows_more key place earlier put e);
  sessions = λ key. more.sessions key
      ∙ ap (greatest_more put.ticket ((place.phase == key.phase) && ((place.session == key.session) && (kind_of_row put.row == key.kind)))) (h.sessions key)
      ∙ sym (session_more key place earlier put e);
} where
  count : (b : Bool) (m n : ℕ) → m ≡ n → cond b (m + 1) m ≡ cond b 1 0 + n
  count true m n s = omega (arith, s)
  count false m n s = omega (arith, s)

shown_by : (old new : ShownPuts) (phase session kind : ℕ) (ticket : Option ℕ) (put : Put) → kind ≡ kind_of_row put.row → put.ticket ≡ ticket
    → IsShownMore old new phase session put.row kind ticket → (earlier : List Placed) (place : Placed) → place.phase ≡ phase
    → place.session ≡ session → put_of place.line place.entry ≡ Some put → AreShown earlier old → AreShown (place ∷ earlier) new
shown_by old new phase session kind ticket put k t more earlier place at by e h =
    shown_more old new earlier place put e
    (subst (λ z. IsShownMore old new z place.session put.row (kind_of_row put.row) put.ticket) (sym at)
    (subst (λ z. IsShownMore old new phase z put.row (kind_of_row put.row) put.ticket) (sym by)
    (subst (λ z. IsShownMore old new phase session put.row z put.ticket) k
    (subst (IsShownMore old new phase session put.row kind) (sym t) more)))) h

abbrev RowStep : BTreeMap PhaseRow ℕ → BTreeMap PhaseRow ℕ → ℕ → ℕ → Type 0
RowStep old new phase row = (other : PhaseRow) → row_count new other
    ≡ cond (is_same_row (record { phase = phase; row = row }) other) (row_count old other + 1) (row_count old other)

pub shown_ticket : {T E : Type 0} (old new : ShownPuts) (rows : BTreeMap PhaseRow ℕ) (phase session kind ticket : ℕ) (put : Put) (r : Result T E)
    → kind ≡ kind_of_row put.row → put.ticket ≡ Some ticket → RowStep old.rows rows phase put.row → OnOk r (new.rows ≡ rows)
    → OnOk r ((other : PhaseTicket) → contains shown_cmp new.tickets other
    ≡ cond (is_same_shown (record { phase = phase; kind = kind; ticket = ticket }) other) true (contains shown_cmp old.tickets other))
    → OnOk r ((other : SessionKind) → get session_cmp new.sessions other
    ≡ cond (is_same_session (record { phase = phase; session = session; kind = kind }) other)
    (Some (greater_of ticket (get session_cmp old.sessions (record { phase = phase; session = session; kind = kind }))))
    (get session_cmp old.sessions other))
    → OnOk r ((earlier : List Placed) (place : Placed) → place.phase ≡ phase → place.session ≡ session → put_of place.line place.entry ≡ Some put
    → AreShown earlier old → AreShown (place ∷ earlier) new)
shown_ticket old new rows phase session kind ticket put (Ok x) k t step same tickets sessions =
    shown_by old new phase session kind (Some ticket) put k t (record {
      rows = λ other. ap (λ z. row_count z other) same ∙ step other;
      tickets = tickets;
      sessions = λ other. sessions other ∙ own other (is_same_session (record { phase = phase; session = session; kind = kind }) other) refl;
    }) where
      own : (other : SessionKind) (b : Bool) → is_same_session (record { phase = phase; session = session; kind = kind }) other ≡ b
          → cond b (Some (greater_of ticket (get session_cmp old.sessions (record { phase = phase; session = session; kind = kind }))))
          (get session_cmp old.sessions other)
          ≡ cond b (Some (greater_of ticket (get session_cmp old.sessions other))) (get session_cmp old.sessions other)
      own other true e =
          ap (λ z. Some (greater_of ticket (get session_cmp old.sessions z)))
          (same_session (record { phase = phase; session = session; kind = kind }) other e)
      own other false e = refl
shown_ticket old new rows phase session kind ticket put (Err x) k t step same tickets sessions = tt

pub shown_busy : (old new : ShownPuts) (rows : BTreeMap PhaseRow ℕ) (phase session : ℕ) (put : Put) → put.ticket ≡ None
    → RowStep old.rows rows phase put.row → new.rows ≡ rows → new.tickets ≡ old.tickets → new.sessions ≡ old.sessions
    → (earlier : List Placed) (place : Placed) → place.phase ≡ phase → place.session ≡ session → put_of place.line place.entry ≡ Some put
    → AreShown earlier old → AreShown (place ∷ earlier) new
shown_busy old new rows phase session put t step same tickets sessions =
    shown_by old new phase session (kind_of_row put.row) None put refl t (record {
      rows = λ other. ap (λ z. row_count z other) same ∙ step other;
      tickets = λ other. ap (λ z. contains shown_cmp z other) tickets ∙ none (phase == other.phase) (kind_of_row put.row == other.kind) (contains shown_cmp old.tickets other);
      sessions = λ other. ap (λ z. get session_cmp z other) sessions;
    }) where
      none : (a b c : Bool) → c ≡ cond (a && (b && false)) true c
      none true true c = refl
      none true false c = refl
      none false b c = refl

pub shown_same : (shown : ShownPuts) (earlier : List Placed) (place : Placed) → put_of place.line place.entry ≡ None
    → AreShown earlier shown → AreShown (place ∷ earlier) shown
shown_same shown earlier place e h = record {
  rows = λ key. h.rows key ∙ sym (ap (rows_of key.row) (puts_one key.phase (kind_of_row key.row) place earlier ∙ ap (λ z. z ++ phase_puts key.phase (kind_of_row key.row) earlier) (none key.phase (kind_of_row key.row))));
  tickets = λ key. h.tickets key ∙ sym (ap (λ z. nat_lt 0 (shows_of key.ticket z)) (puts_one key.phase key.kind place earlier ∙ ap (λ z. z ++ phase_puts key.phase key.kind earlier) (none key.phase key.kind)));
  sessions = λ key. h.sessions key ∙ sym (ap greatest_of (tickets_one key.session key.phase key.kind place earlier
      ∙ ap (λ z. cond (place.session == key.session) (tickets_shown z) [] ++ session_tickets key earlier) (none key.phase key.kind)
      ∙ nothing (place.session == key.session) (session_tickets key earlier)));
} where
  none : (phase kind : ℕ) → puts_here phase kind place ≡ []
  none phase kind =
      ap (λ z. cond (place.phase == phase) (filter (λ (other : LongPut). kind_of_row other.row == kind) z) []) (long_is place.line place.entry ∙ ap long_of e)
      ∙ both (place.phase == phase) where
        both : (b : Bool) → cond {A = List LongPut} b [] [] ≡ []
        both true = refl
        both false = refl

  nothing : (b : Bool) (tickets : List ℕ) → cond b [] [] ++ tickets ≡ tickets
  nothing true tickets = refl
  nothing false tickets = refl

-- above the greatest, above all
pub above_tells : (tickets : List ℕ) (ticket : ℕ) → Tells (Each (λ other. other < ticket) tickets) (is_above (greatest_of tickets) ticket)
above_tells [] ticket = tt
above_tells (first ∷ tickets) ticket = at (greatest_of tickets) (above_tells tickets ticket) where
  at : (o : Option ℕ) → Tells (Each (λ other. other < ticket) tickets) (is_above o ticket)
      → Tells (Each (λ other. other < ticket) (first ∷ tickets)) (is_above (Some (greater_of first o)) ticket)
  at None h = on (nat_lt first ticket) refl where
    on : (b : Bool) → nat_lt first ticket ≡ b → Tells ((first < ticket) × Each (λ other. other < ticket) tickets) b
    on true e = (ltb-true first ticket e, h)
    on false e = λ s. let low : first < ticket = s.0 in omega (arith, ltb-false first ticket e, low)
  at (Some greatest) h = on (nat_lt (max first greatest) ticket) (nat_lt greatest ticket) refl refl h where
    on : (b c : Bool) → nat_lt (max first greatest) ticket ≡ b → nat_lt greatest ticket ≡ c
        → Tells (Each (λ other. other < ticket) tickets) c → Tells ((first < ticket) × Each (λ other. other < ticket) tickets) b
    on true true e f k = (omega (arith, ltb-true (max first greatest) ticket e), k)
    on true false e f k = absurd (omega (arith, ltb-true (max first greatest) ticket e, ltb-false greatest ticket f))
    on false true e f k = λ s. let low : first < ticket = s.0 in omega (arith, ltb-false (max first greatest) ticket e, ltb-true greatest ticket f, low)
    on false false e f k = λ s. k s.1
