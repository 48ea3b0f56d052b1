-- What is asked of one put.
use Rattle.std.proofs.Common.{◌≡◌, refl, ℕ, zero, suc, ◌+◌, ◌*◌, ◌-◌, ◌/◌, ◌%◌, ◌<◌, ◌≤◌, ◌==◌, ◌≢◌, inl, Bool, true, false, ◌&&◌, ◌||◌, not, cond, nat_le, nat_lt, List, [], ◌∷◌, length, Option, Some, None, sym, ◌∙◌, ap, subst, arith}
use Rattle.std.specs.BTreeMap.{get}
use Rattle.std.specs.BTreeSet.{contains}
use Rattle.std.proofs.lemmas.Bool.{eqb-true, leb-false, leb-true, lt-ltb, ltb-false, ltb-true}
use Rattle.std.proofs.lemmas.Bool.Decides.{nat_tests}
use Rattle.pfs_lemmas.proofs.Options.{some_same}
use Rattle.pfs_model.specs.Causes.{kind_of_row, long_row}
use Rattle.pfs_model.specs.Chains.{Each, times}
use Rattle.pfs_model.specs.EntryPlaces.{Placed, before_phase, in_phase, up_to_phase}
use Rattle.pfs_model.specs.Rings.{IsAtOwn, LongPut, long_put, long_puts, tickets_of_row, tickets_shown}
use Rattle.pfs_check_faults.specs.RingFaults.{IsTicket, IsTicketed, LongRisesAt, TicketsAt}
use Rattle.pfs_check_walk.specs.NumberTests.{Tells}
use Rattle.pfs_check_tickets.specs.declared.counting.KindCounts.{KindCounts}
use Rattle.pfs_check_tickets.specs.declared.puts.Put.{Put}
use Rattle.pfs_check_tickets.specs.declared.showing.ShownPuts.{ShownPuts}
use Rattle.pfs_check_tickets.specs.PrintedPuts.{long_of, long_of_put, put_of}
use Rattle.pfs_check_tickets.specs.PutCounts.{HasPuts, kind_at, puts_in}
use Rattle.pfs_check_tickets.specs.ShownPuts.{AreShown, due_test, greatest_of, is_above, row_count, session_cmp, session_tickets, shown_cmp, shows_ticket, ticket_test, tickets_below}
use Rattle.pfs_check_tickets.specs.TicketRules.{LongsAt}
use Rattle.pfs_check_tickets.proofs.CountFacts.{long_is, up_to_is}
use Rattle.pfs_check_tickets.proofs.PlaceSums.{none_elsewhere}
use Rattle.pfs_check_tickets.proofs.ShownFacts.{above_tells}

not_same : (a b : ℕ) → (a == b) ≡ false → a ≡ b → ⊥
not_same a b e s = absurd (grind arith)

same_test : (a b : ℕ) → a ≡ b → (a == b) ≡ true
same_test a b e = grind arith

-- one ticket more
below_one : (place number : ℕ) → place < 1000 → tickets_below place (number + 1) ≡ cond (number % 1000 == place) 1 0 + tickets_below place number
below_one place number h = at (number % 1000 == place) refl where
  at : (b : Bool) → (number % 1000 == place) ≡ b → tickets_below place (number + 1) ≡ cond b 1 0 + tickets_below place number
  at true e =
      let is : number % 1000 ≡ place = eqb-true (number % 1000) place e in
      omega (arith, h, is)
  at false e =
      let ne : number % 1000 ≢ place = not_same (number % 1000) place e in
      omega (arith, h, ne)

-- the tickets of a row, by how many stand below
rows_below : (kind row place from more : ℕ) → row ≡ 10242 + 1000 * kind + place → place < 1000
    → tickets_of_row kind row from more + tickets_below place from ≡ tickets_below place (from + more)
rows_below kind row place from zero e h = zero_plus (tickets_below place from) ∙ ap (tickets_below place) (plus from) where
  zero_plus : (n : ℕ) → 0 + n ≡ n
  zero_plus n = omega arith

  plus : (n : ℕ) → n ≡ n + 0
  plus n = omega arith
rows_below kind row place from (suc more) e h =
    let one : tickets_below place (from + more + 1) ≡ cond ((from + more) % 1000 == place) 1 0 + tickets_below place (from + more) =
    below_one place (from + more) h in
    let same : (long_row kind (from + more) == row) ≡ ((from + more) % 1000 == place) = tests in
    let here : cond (long_row kind (from + more) == row) 1 0 ≡ cond ((from + more) % 1000 == place) 1 0 = ap (λ z. cond z 1 0) same in
    let next : tickets_below place (from + suc more) ≡ tickets_below place (from + more + 1) = ap (tickets_below place) (plus from more) in
    sums (cond (long_row kind (from + more) == row) 1 0) (cond ((from + more) % 1000 == place) 1 0) (tickets_of_row kind row from more)
    (tickets_below place from) (tickets_below place (from + more)) (tickets_below place (from + more + 1)) (tickets_below place (from + suc more))
    (rows_below kind row place from more e h) one here next where
      plus : (m n : ℕ) → m + suc n ≡ m + n + 1
      plus m n = omega arith

      sums : (a b t l m n o : ℕ) → t + l ≡ m → n ≡ b + m → a ≡ b → o ≡ n → (a + t) + l ≡ o
      sums a b t l m n o x y z w = omega (arith, x, y, z, w)

      tests : (long_row kind (from + more) == row) ≡ ((from + more) % 1000 == place)
      tests = at ((from + more) % 1000 == place) refl where
        at : (b : Bool) → ((from + more) % 1000 == place) ≡ b → (long_row kind (from + more) == row) ≡ b
        at true f =
            let is : (from + more) % 1000 ≡ place = eqb-true ((from + more) % 1000) place f in
            same_test (long_row kind (from + more)) row (omega (arith, is, e))
        at false f = other (long_row kind (from + more) == row) refl where
          other : (b : Bool) → (long_row kind (from + more) == row) ≡ b → b ≡ false
          other true g =
              let is : long_row kind (from + more) ≡ row = eqb-true (long_row kind (from + more)) row g in
              let ne : (from + more) % 1000 ≢ place = not_same ((from + more) % 1000) place f in
              absurd (omega (arith, is, ne, e))
          other false g = refl

pub tickets_are : (row before puts : ℕ) → 10242 ≤ row
    → tickets_below ((row - 10242) % 1000) (before + puts) - tickets_below ((row - 10242) % 1000) before
    ≡ tickets_of_row (kind_of_row row) row before puts
tickets_are row before puts h =
    let low : (row - 10242) % 1000 < 1000 = grind arith in
    let is : row ≡ 10242 + 1000 * kind_of_row row + (row - 10242) % 1000 = omega (arith, h) in
    minus (tickets_of_row (kind_of_row row) row before puts) (tickets_below ((row - 10242) % 1000) before)
    (tickets_below ((row - 10242) % 1000) (before + puts)) (rows_below (kind_of_row row) row ((row - 10242) % 1000) before puts is low) where
      minus : (t l m : ℕ) → t + l ≡ m → m - l ≡ t
      minus t l m e = omega (arith, e)

pub no_tickets : (row before puts : ℕ) → row < 10242 → 0 ≡ tickets_of_row (kind_of_row row) row before puts
no_tickets row before puts h = sym (none_elsewhere (kind_of_row row) row before puts (inl (omega (arith, h))))

pub below_rises : (place before puts : ℕ) → place < 1000 → tickets_below place before ≤ tickets_below place (before + puts)
below_rises place before puts h = omega (arith, h)

-- the ticket that a put shows
ticket_tells : (all earlier : List Placed) (place : Placed) (kind ticket : ℕ) (counts : KindCounts) (shown : Bool) (greatest : Option ℕ)
    → HasPuts all (kind_at place.phase kind) counts
    → shown ≡ shows_ticket (record { phase = place.phase; kind = kind; ticket = ticket }) earlier
    → greatest ≡ greatest_of (session_tickets (record { phase = place.phase; session = place.session; kind = kind }) earlier)
    → Tells (IsTicket all earlier place kind ticket) (ticket_test counts.before counts.puts shown greatest ticket)
ticket_tells all earlier place kind ticket counts shown greatest has s g =
    on (nat_le counts.before ticket) (nat_lt ticket (counts.before + counts.puts)) shown (is_above greatest ticket) refl refl s
    (subst (λ z. Tells (Each (λ other. other < ticket) (session_tickets (record { phase = place.phase; session = place.session; kind = kind }) earlier)) (is_above z ticket))
    (sym g) (above_tells (session_tickets (record { phase = place.phase; session = place.session; kind = kind }) earlier) ticket)) where
      upper : length (long_puts kind (up_to_phase place.phase all)) ≡ counts.before + counts.puts
      upper = omega (arith, up_to_is kind place.phase all, has.before, has.puts)

      on : (a b c d : Bool) → nat_le counts.before ticket ≡ a → nat_lt ticket (counts.before + counts.puts) ≡ b
          → c ≡ shows_ticket (record { phase = place.phase; kind = kind; ticket = ticket }) earlier
          → Tells (Each (λ other. other < ticket) (session_tickets (record { phase = place.phase; session = place.session; kind = kind }) earlier)) d
          → Tells (IsTicket all earlier place kind ticket) (a && (b && (not c && d)))
      on true true false true e f u v = record {
        low = omega (arith, leb-true counts.before ticket e, has.before);
        high = omega (arith, ltb-true ticket (counts.before + counts.puts) f, upper);
        once = none (times (λ other. other == ticket) (tickets_shown (long_puts kind (in_phase place.phase earlier)))) (sym u);
        rises = v;
      } where
        none : (n : ℕ) → nat_lt 0 n ≡ false → n ≡ 0
        none n h = omega (arith, ltb-false 0 n h)
      on true true false false e f u v = λ t. v t.rises
      on true true true d e f u v = λ t. some (times (λ other. other == ticket) (tickets_shown (long_puts kind (in_phase place.phase earlier)))) (sym u) t.once where
        some : (n : ℕ) → nat_lt 0 n ≡ true → n ≡ 0 → ⊥
        some n h z = omega (arith, ltb-true 0 n h, z)
      on true false c d e f u v = λ t. let high : ticket < length (long_puts kind (up_to_phase place.phase all)) = t.high in
          omega (arith, high, upper, ltb-false ticket (counts.before + counts.puts) f)
      on false b c d e f u v = λ t. let low : length (long_puts kind (before_phase place.phase all)) ≤ ticket = t.low in
          omega (arith, low, has.before, leb-false counts.before ticket e)

-- how many puts its row may have
room_tells : (all earlier : List Placed) (place : Placed) (put : Put) (counts : KindCounts) (shown : ShownPuts)
    → HasPuts all (kind_at place.phase (kind_of_row put.row)) counts → AreShown earlier shown
    → Tells (times (λ (other : LongPut). other.row == put.row) (long_puts (kind_of_row put.row) (in_phase place.phase earlier))
    < tickets_of_row (kind_of_row put.row) put.row (length (long_puts (kind_of_row put.row) (before_phase place.phase all)))
    (length (long_puts (kind_of_row put.row) (in_phase place.phase all))))
    (nat_lt (row_count shown.rows (record { phase = place.phase; row = put.row }))
    (tickets_of_row (kind_of_row put.row) put.row counts.before counts.puts))
room_tells all earlier place put counts shown has known =
    subst (λ z. Tells (times (λ (other : LongPut). other.row == put.row) (long_puts (kind_of_row put.row) (in_phase place.phase earlier))
    < tickets_of_row (kind_of_row put.row) put.row z (length (long_puts (kind_of_row put.row) (in_phase place.phase all))))
    (nat_lt (row_count shown.rows (record { phase = place.phase; row = put.row })) (tickets_of_row (kind_of_row put.row) put.row counts.before counts.puts))) has.before
    (subst (λ z. Tells (times (λ (other : LongPut). other.row == put.row) (long_puts (kind_of_row put.row) (in_phase place.phase earlier))
    < tickets_of_row (kind_of_row put.row) put.row counts.before z)
    (nat_lt (row_count shown.rows (record { phase = place.phase; row = put.row })) (tickets_of_row (kind_of_row put.row) put.row counts.before counts.puts))) has.puts
    (subst (λ z. Tells (z < tickets_of_row (kind_of_row put.row) put.row counts.before counts.puts)
    (nat_lt (row_count shown.rows (record { phase = place.phase; row = put.row })) (tickets_of_row (kind_of_row put.row) put.row counts.before counts.puts)))
    (known.rows (record { phase = place.phase; row = put.row }))
    (less (row_count shown.rows (record { phase = place.phase; row = put.row })) (tickets_of_row (kind_of_row put.row) put.row counts.before counts.puts)))) where
      less : (m n : ℕ) → Tells (m < n) (nat_lt m n)
      less m n = at (nat_lt m n) refl where
        at : (b : Bool) → nat_lt m n ≡ b → Tells (m < n) b
        at true e = ltb-true m n e
        at false e = λ l. omega (arith, l, ltb-false m n e)

-- a put with a ticket, and one without
pub ticketed_some : (all earlier : List Placed) (place : Placed) (put : Put) (ticket : ℕ) (counts : KindCounts) (shown : ShownPuts) (phase session : ℕ)
    → place.phase ≡ phase → place.session ≡ session → put.ticket ≡ Some ticket
    → HasPuts all (kind_at phase (kind_of_row put.row)) counts → AreShown earlier shown
    → Tells (IsTicketed all earlier place (long_of_put put)) (due_test shown phase session counts put.row ticket
    && nat_lt (row_count shown.rows (record { phase = phase; row = put.row })) (tickets_of_row (kind_of_row put.row) put.row counts.before counts.puts))
ticketed_some all earlier place put ticket counts shown phase session at by e has known =
    subst (λ z. Tells (IsTicketed all earlier place (long_of_put put)) (due_test shown z session counts put.row ticket
    && nat_lt (row_count shown.rows (record { phase = z; row = put.row })) (tickets_of_row (kind_of_row put.row) put.row counts.before counts.puts))) at
    (subst (λ z. Tells (IsTicketed all earlier place (long_of_put put)) (due_test shown place.phase z counts put.row ticket
    && nat_lt (row_count shown.rows (record { phase = place.phase; row = put.row })) (tickets_of_row (kind_of_row put.row) put.row counts.before counts.puts))) by
    (on (put.row == long_row (kind_of_row put.row) ticket)
    (ticket_test counts.before counts.puts (contains shown_cmp shown.tickets (record { phase = place.phase; kind = kind_of_row put.row; ticket = ticket }))
    (get session_cmp shown.sessions (record { phase = place.phase; session = place.session; kind = kind_of_row put.row })) ticket)
    (nat_lt (row_count shown.rows (record { phase = place.phase; row = put.row })) (tickets_of_row (kind_of_row put.row) put.row counts.before counts.puts)) refl
    (ticket_tells all earlier place (kind_of_row put.row) ticket counts
    (contains shown_cmp shown.tickets (record { phase = place.phase; kind = kind_of_row put.row; ticket = ticket }))
    (get session_cmp shown.sessions (record { phase = place.phase; session = place.session; kind = kind_of_row put.row })) here
    (known.tickets (record { phase = place.phase; kind = kind_of_row put.row; ticket = ticket }))
    (known.sessions (record { phase = place.phase; session = place.session; kind = kind_of_row put.row })))
    (room_tells all earlier place put counts shown here known))) where
      here : HasPuts all (kind_at place.phase (kind_of_row put.row)) counts
      here = subst (λ z. HasPuts all (kind_at z (kind_of_row put.row)) counts) (sym at) has

      on : (a b c : Bool) → (put.row == long_row (kind_of_row put.row) ticket) ≡ a
          → Tells (IsTicket all earlier place (kind_of_row put.row) ticket) b
          → Tells (times (λ (other : LongPut). other.row == put.row) (long_puts (kind_of_row put.row) (in_phase place.phase earlier))
          < tickets_of_row (kind_of_row put.row) put.row (length (long_puts (kind_of_row put.row) (before_phase place.phase all)))
          (length (long_puts (kind_of_row put.row) (in_phase place.phase all)))) c
          → Tells (IsTicketed all earlier place (long_of_put put)) ((a && b) && c)
      on true true true f t r = record {
        own = λ other g. eqb-true put.row (long_row (kind_of_row put.row) ticket) f ∙ ap (long_row (kind_of_row put.row)) (some_same ticket other (sym e ∙ g));
        shown = λ other g. subst (IsTicket all earlier place (kind_of_row put.row)) (some_same ticket other (sym e ∙ g)) t;
        placed = r;
      }
      on true true false f t r = λ i. r i.placed
      on true false c f t r = λ i. t (i.shown ticket e)
      on false b c f t r = λ i. not_same put.row (long_row (kind_of_row put.row) ticket) f (i.own ticket e)

pub ticketed_none : (all earlier : List Placed) (place : Placed) (put : Put) (counts : KindCounts) (shown : ShownPuts) (phase : ℕ)
    → place.phase ≡ phase → put.ticket ≡ None → HasPuts all (kind_at phase (kind_of_row put.row)) counts → AreShown earlier shown
    → Tells (IsTicketed all earlier place (long_of_put put))
    (nat_lt (row_count shown.rows (record { phase = phase; row = put.row })) (tickets_of_row (kind_of_row put.row) put.row counts.before counts.puts))
ticketed_none all earlier place put counts shown phase at e has known =
    subst (λ z. Tells (IsTicketed all earlier place (long_of_put put))
    (nat_lt (row_count shown.rows (record { phase = z; row = put.row })) (tickets_of_row (kind_of_row put.row) put.row counts.before counts.puts))) at
    (on (nat_lt (row_count shown.rows (record { phase = place.phase; row = put.row })) (tickets_of_row (kind_of_row put.row) put.row counts.before counts.puts))
    (room_tells all earlier place put counts shown (subst (λ z. HasPuts all (kind_at z (kind_of_row put.row)) counts) (sym at) has) known)) where
      on : (c : Bool) → Tells (times (λ (other : LongPut). other.row == put.row) (long_puts (kind_of_row put.row) (in_phase place.phase earlier))
          < tickets_of_row (kind_of_row put.row) put.row (length (long_puts (kind_of_row put.row) (before_phase place.phase all)))
          (length (long_puts (kind_of_row put.row) (in_phase place.phase all)))) c
          → Tells (IsTicketed all earlier place (long_of_put put)) c
      on true r = record { own = λ other g. absurd (none other g); shown = λ other g. absurd (none other g); placed = r } where
        none : (other : ℕ) → put.ticket ≡ Some other → ⊥
        none other g = no_some other (sym e ∙ g) where
          no_some : (x : ℕ) → ◌≡◌ {A = Option ℕ} None (Some x) → ⊥
          no_some x h = absurd (cc)
      on false r = λ i. r i.placed

-- a phase without puts of the kind has no room
pub no_room : (all earlier : List Placed) (place : Placed) (put : Put) (phase : ℕ) → place.phase ≡ phase
    → puts_in (kind_at phase (kind_of_row put.row)) all ≡ 0 → IsTicketed all earlier place (long_of_put put) → ⊥
no_room all earlier place put phase at none t = absurd (nothing (length (long_puts (kind_of_row put.row) (in_phase place.phase all))) here t.placed) where
  here : length (long_puts (kind_of_row put.row) (in_phase place.phase all)) ≡ 0
  here = ap (λ z. length (long_puts (kind_of_row put.row) (in_phase z all))) at ∙ none

  nothing : (n : ℕ) → n ≡ 0
      → times (λ (other : LongPut). other.row == put.row) (long_puts (kind_of_row put.row) (in_phase place.phase earlier))
      < tickets_of_row (kind_of_row put.row) put.row (length (long_puts (kind_of_row put.row) (before_phase place.phase all))) n → ⊥
  nothing zero e l = omega (arith, l)
  nothing (suc n) e l = absurd (omega (arith, e))

-- of the entry
pub tickets_some : (all earlier : List Placed) (place : Placed) (put : Put) (due : Bool) → put_of place.line place.entry ≡ Some put
    → Tells (IsTicketed all earlier place (long_of_put put)) due → Tells (TicketsAt all earlier place) (due || nat_lt 3 (kind_of_row put.row))
tickets_some all earlier place put due e t =
    subst (λ z. Tells (Each (λ (other : LongPut). kind_of_row other.row < 4 → IsTicketed all earlier place other) z) (due || nat_lt 3 (kind_of_row put.row)))
    (sym (long_is place.line place.entry ∙ ap long_of e)) (on due (nat_lt 3 (kind_of_row put.row)) refl t) where
      on : (a b : Bool) → nat_lt 3 (kind_of_row put.row) ≡ b → Tells (IsTicketed all earlier place (long_of_put put)) a
          → Tells ((kind_of_row put.row < 4 → IsTicketed all earlier place (long_of_put put)) × Unit {0}) (a || b)
      on true b f h = (λ k. h, tt)
      on false true f h = (λ k. absurd (omega (arith, ltb-true 3 (kind_of_row put.row) f, k)), tt)
      on false false f h = λ each. h (each.0 (omega (arith, ltb-false 3 (kind_of_row put.row) f)))

pub tickets_none : (all earlier : List Placed) (place : Placed) → put_of place.line place.entry ≡ None → TicketsAt all earlier place
tickets_none all earlier place e =
    subst (Each (λ (other : LongPut). kind_of_row other.row < 4 → IsTicketed all earlier place other)) (sym (long_is place.line place.entry ∙ ap long_of e)) tt

pub longs_tell : (all earlier : List Placed) (place : Placed) (a b c : Bool) → Tells (TicketsAt all earlier place) a → Tells (LongRisesAt all earlier place) b
    → c ≡ (a && b) → Tells (LongsAt all earlier place) c
longs_tell all earlier place a b c t r e = subst (Tells (LongsAt all earlier place)) (sym e) (on a b t r) where
  on : (a b : Bool) → Tells (TicketsAt all earlier place) a → Tells (LongRisesAt all earlier place) b → Tells (LongsAt all earlier place) (a && b)
  on true true t r = record { ticketed = t; rises = r }
  on true false t r = λ l. r l.rises
  on false b t r = λ l. t l.ticketed

pub tells_true : (fact : Type 0) (b : Bool) → Tells fact b → b ≡ true → fact
tells_true fact true t e = t
tells_true fact false t e = absurd (cc)

pub tells_false : (fact : Type 0) (b : Bool) → Tells fact b → b ≡ false → fact → ⊥
tells_false fact true t e = absurd (cc)
tells_false fact false t e = t
