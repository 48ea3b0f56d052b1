-- What a session prints of the long history: one put for each ticket that it drew, in their order, each at its place.
use Rattle.std.proofs.Common.{ℕ, ◌≡◌, ◌+◌, ◌<◌, ◌==◌, Bool, true, false, not, cond, ◌&&◌, List, [], ◌∷◌, ◌++◌, length, slice_index, Option, Some, None, inl, inr, refl, ap, sym, ◌∙◌, subst, arith, append_assoc, append-nil, le-leb, ne_eqb}
use Rattle.std.specs.Prelude.{nat_le, ◌⊎◌}
use Rattle.pfs_admin.specs.AdministrationStates.{seat_at}
use Rattle.pfs_admin.specs.ConnectionAsks.{connect_entry, work_of_connect, work_of_quit}
use Rattle.pfs_admin.specs.SetupStatements.{work_of_statement}
use Rattle.pfs_admin.specs.Truncations.{work_of_truncation}
use Rattle.pfs_admin.specs.Works.{Sign, Releases, Tags, Made, Flagging, Work, signs_of, signs_calls, made_calls, flagging_calls}
use Rattle.pfs_containers.specs.declared.containers.Seated.{Seated}
use Rattle.pfs_event.specs.Verdicts.{is_let_through}
use Rattle.pfs_event.specs.declared.entry.Entry.{Entry}
use Rattle.pfs_event.specs.declared.entry.Entry.TheVariants as says
use Rattle.pfs_event.specs.declared.event.Event.{Event}
use Rattle.pfs_event.specs.declared.open.Open.{Open}
use Rattle.pfs_event.specs.declared.verdict.Verdict.{Verdict}
use Rattle.pfs_levels.specs.Calls.{Call, Adds, Rings, Reads, Loads, Draws, Takes, Puts, Frees, Sets, Enters, Leaves, Meets, IsRing}
use Rattle.pfs_levels.specs.JointCalls.{one_if, Draw, draws_by}
use Rattle.pfs_levels.specs.Moves.{Gift, Move, gift_calls, move_calls, moves_calls}
use Rattle.pfs_levels.specs.declared.answers.Added.{Added}
use Rattle.pfs_levels.specs.declared.answers.Added.TheVariants.{Counted, Held}
use Rattle.pfs_levels.specs.declared.answers.RingPut.{RingPut}
use Rattle.pfs_levels.specs.declared.answers.RingPut.TheVariants as told
use Rattle.pfs_levels.specs.declared.answers.Word.{Word}
use Rattle.pfs_model.proofs.EachLists.{each_join, each_front, each_behind}
use Rattle.pfs_model.specs.Causes.{long_row, kind_of_row}
use Rattle.pfs_model.specs.Chains.{Each}
use Rattle.pfs_model.specs.Rings.{LongPut, long_put, is_reading_line, ring_number, current_row, history_row}
use Rattle.pfs_model.specs.Shapes.{is_stage}
use Rattle.pfs_model.specs.declared.lines.Line.{Line}
use Rattle.pfs_model.specs.declared.lines.Subject.{Subject}
use Rattle.pfs_stat.specs.declared.Stat.{Stat}
use Rattle.pfs_rings.specs.Offers.{Says, offered, put_entry}
use Rattle.pfs_rings.specs.declared.puts.Put.{Put}
use Rattle.pfs_rings.specs.declared.rings.Ring.{Ring}
use Rattle.pfs_rings.specs.declared.rings.Ring.TheVariants.{Current, History, Long}
use Rattle.pfs_rows.specs.declared.table.Reading.{Reading}
use Rattle.pfs_rows.specs.declared.table.Reading.TheVariants as readings
use Rattle.pfs_rows.specs.declared.table.Seen.TheVariants as seen
use Rattle.pfs_session.specs.Ends.{EndsIn, EndsThrough, DigestsIn, PutsAtEnd, added_entry, no_numbers}
use Rattle.pfs_session.specs.EventPuts.{PutAt, PutLong, PutIf, PutIn, put_entries}
use Rattle.pfs_session.specs.Inquiries.{Inquiry, Looks, Remarks, inquiry_calls, inquiry_entry}
use Rattle.pfs_session.specs.SessionStates.{State, Owed}
use Rattle.pfs_session.specs.Settlements.{Paid, paid_calls, paid_entries, pay_calls, settle_head, owed_by_state}
use Rattle.pfs_session.specs.Starts.{Starts, start_entry, load_calls, table_calls}
use Rattle.pfs_session.specs.Turns.{Step, StartsEvent, EndsEvent, Spends, SettlesHeld, Connects, Quits, Truncates, Changes, Inquires, Does, Works, Turn, AreTurns, state_after, steps_of, turns_calls, turns_entries, stage_ends}
use Rattle.pfs_session.specs.declared.events.Numbers.{Numbers}
use Rattle.pfs_session.specs.declared.remarks.Remark.TheVariants.{Query, Rows, Refused}
use Rattle.pfs_session.specs.declared.setup.Setup.{Setup}
use Rattle.pfs_law_session.specs.Deeds.{Deed, Connecting, Starting, Staging, StageEnding, Ending, Spending, Quitting, Truncating, Changing, Showing, Querying, Refusing, Closing, Part, IsPart, looks, remark, steps_for, line_of, part_calls, part_entries}
use Rattle.pfs_law_plain.proofs.InnerEntries.{IsInner, AreInner, paid_same}
use Rattle.pfs_law_plain.proofs.StepNotes.{IsActed, acted, truncated_acted, changed_acted}
use Rattle.pfs_law_shared.specs.Tickets.{IsPlaced}
use Rattle.pfs_law_shared.proofs.TicketedPuts.{word_of, rungs, rungs_then, AreTicketed, ticketed_then, IsBlank, kind_is}
use Rattle.pfs_law_shared.proofs.UnticketedSigns.{IsUnticketed, connect_unticketed, quit_unticketed, truncation_unticketed}

-- the puts that entries of a line print, and the tickets that calls draw, in order
abbrev pub puts_in : Line → List Entry → List LongPut
puts_in line [] = []
puts_in line (e ∷ es) = long_put line e ++ puts_in line es

abbrev pub drawn_in : List Call → List Draw
drawn_in [] = []
drawn_in (call ∷ calls) = drawn_in calls ++ draws_by call

pub puts_then : (line : Line) (xs ys : List Entry) → puts_in line (xs ++ ys) ≡ puts_in line xs ++ puts_in line ys
puts_then line [] ys = refl
puts_then line (x ∷ xs) ys = ap (λ z. long_put line x ++ z) (puts_then line xs ys) ∙ sym (append_assoc (long_put line x) (puts_in line xs) (puts_in line ys))

pub drawn_then : (xs ys : List Call) → drawn_in (xs ++ ys) ≡ drawn_in ys ++ drawn_in xs
drawn_then [] ys = sym (append-nil (drawn_in ys))
drawn_then (x ∷ xs) ys = ap (λ z. z ++ draws_by x) (drawn_then xs ys) ∙ append_assoc (drawn_in ys) (drawn_in xs) (draws_by x)

-- a put stands at the place of a ticket, which it shows where it was done or came late
abbrev pub IsPutOf : LongPut → Draw → Type 0
IsPutOf put draw = (put.row ≡ long_row draw.kind draw.ticket) × ((put.ticket ≡ None) ⊎ (put.ticket ≡ Some draw.ticket))

abbrev pub Match : List LongPut → List Draw → Type 0
Match [] [] = Unit {0}
Match [] (draw ∷ draws) = ⊥
Match (put ∷ puts) [] = ⊥
Match (put ∷ puts) (draw ∷ draws) = IsPutOf put draw × Match puts draws

pub match_then : (ps qs : List LongPut) (ds es : List Draw) → Match ps ds → Match qs es → Match (ps ++ qs) (ds ++ es)
match_then [] qs [] es a b = b
match_then [] qs (d ∷ ds) es a b = absurd a
match_then (p ∷ ps) qs [] es a b = absurd a
match_then (p ∷ ps) qs (d ∷ ds) es a b = (a.0, match_then ps qs ds es a.1 b)

-- how often entries print this ticket at a row, at versions that pass
abbrev pub long_by : ℕ → ℕ → (ℕ → Bool) → Entry → ℕ
long_by row ticket test (says.Long at version own) = one_if ((at == row) && (test version && (own == ticket)))
long_by row ticket test _ = 0

abbrev pub longs_in : ℕ → ℕ → (ℕ → Bool) → List Entry → ℕ
longs_in row ticket test [] = 0
longs_in row ticket test (e ∷ es) = long_by row ticket test e + longs_in row ticket test es

longs_then : (row ticket : ℕ) (test : ℕ → Bool) (xs ys : List Entry) → longs_in row ticket test (xs ++ ys) ≡ longs_in row ticket test xs + longs_in row ticket test ys
longs_then row ticket test [] ys = omega arith
longs_then row ticket test (x ∷ xs) ys = omega (arith, longs_then row ticket test xs ys)

-- what came late stands at the place of its ticket, which held a greater one
abbrev pub IsAhead : Entry → Type 0
IsAhead (says.Late row ticket greater) = (ticket < greater) × (row ≡ long_row (kind_of_row row) ticket)
IsAhead _ = Unit {0}

-- of a step's entries and calls
pub record IsDrawn (line : Line) (calls : List Call) (entries : List Entry) : Type 0 where
  pub match : Each IsPlaced calls → Match (puts_in line entries) (drawn_in calls)
  pub ticketed : AreTicketed calls
  pub blank : Each IsBlank calls
  pub rung : (row ticket : ℕ) (test : ℕ → Bool) → longs_in row ticket test entries ≡ rungs row ticket test calls
  pub ahead : Each IsAhead entries

drawn_as : (line : Line) (calls cs : List Call) (entries es : List Entry) → calls ≡ cs → entries ≡ es → IsDrawn line cs es → IsDrawn line calls entries
drawn_as line calls cs entries es p q d = subst (λ z. IsDrawn line z entries) (sym p) (subst (IsDrawn line cs) (sym q) d)

drawn_both : (line : Line) (c1 c2 : List Call) (e1 e2 : List Entry) → IsDrawn line c1 e1 → IsDrawn line c2 e2 → IsDrawn line (c2 ++ c1) (e1 ++ e2)
drawn_both line c1 c2 e1 e2 a b = record {
  match = λ placed. subst (λ z. Match z (drawn_in (c2 ++ c1))) (sym (puts_then line e1 e2))
      (subst (λ z. Match (puts_in line e1 ++ puts_in line e2) z) (sym (drawn_then c2 c1))
      (match_then (puts_in line e1) (puts_in line e2) (drawn_in c1) (drawn_in c2) (a.match (each_behind IsPlaced c2 c1 placed)) (b.match (each_front IsPlaced c2 c1 placed))));
  ticketed = ticketed_then c2 c1 b.ticketed a.ticketed;
  blank = each_join IsBlank c2 c1 b.blank a.blank;
  rung = λ row ticket test. omega (arith, longs_then row ticket test e1 e2, rungs_then row ticket test c2 c1, a.rung row ticket test, b.rung row ticket test);
  ahead = each_join IsAhead e1 e2 a.ahead b.ahead;
}

nothing_drawn : (line : Line) → IsDrawn line [] []
nothing_drawn line = record { match = λ placed. tt; ticketed = tt; blank = tt; rung = λ row ticket test. refl; ahead = tt }

-- calls that draw nothing and put no ticket, and entries that print no put of the long history
abbrev IsStill : Call → Type 0
IsStill (Draws kind ticket) = ⊥
IsStill (Rings row content answer) = ⊥
IsStill (Puts row content version) = word_of content ≡ 0
IsStill (Adds row amount answer) = Unit {0}
IsStill (Reads row seen) = Unit {0}
IsStill (Loads at version found) = Unit {0}
IsStill (Takes row version found) = Unit {0}
IsStill (Frees row version) = Unit {0}
IsStill (Sets at found version) = Unit {0}
IsStill (Enters label labels) = Unit {0}
IsStill Leaves = Unit {0}
IsStill (Meets versions) = Unit {0}

still_by : (call : Call) → IsStill call → draws_by call ≡ []
still_by (Draws kind ticket) s = absurd s
still_by (Adds row amount answer) s = refl
still_by (Rings row content answer) s = absurd s
still_by (Reads row seen) s = refl
still_by (Loads at version found) s = refl
still_by (Takes row version found) s = refl
still_by (Puts row content version) s = refl
still_by (Frees row version) s = refl
still_by (Sets at found version) s = refl
still_by (Enters label labels) s = refl
still_by Leaves s = refl
still_by (Meets versions) s = refl

still_drawn : (calls : List Call) → Each IsStill calls → drawn_in calls ≡ []
still_drawn [] s = refl
still_drawn (call ∷ calls) s = ap (λ z. z ++ draws_by call) (still_drawn calls s.1) ∙ still_by call s.0

still_then : (xs ys : List Call) → Each IsStill xs → Each IsStill ys → Each IsStill (xs ++ ys)
still_then [] ys a b = b
still_then (x ∷ xs) ys a b = (a.0, still_then xs ys a.1 b)

inner_put : (line : Line) (e : Entry) → IsInner e → long_put line e ≡ []
inner_put line (says.Add row version) i = refl
inner_put line (says.Take row version) i = refl
inner_put line (says.Give row version from) i = refl
inner_put line (says.Tag row version) i = refl
inner_put line (says.Free row version) i = refl
inner_put line (says.Set word version flags) i = refl
inner_put line (says.Reply number) i = refl
inner_put line (says.Error number) i = refl
inner_put line _ i = absurd i

inner_puts : (line : Line) (es : List Entry) → AreInner es → puts_in line es ≡ []
inner_puts line [] i = refl
inner_puts line (e ∷ es) i = ap (λ z. z ++ puts_in line es) (inner_put line e i.0) ∙ inner_puts line es i.1

still_ticketed : (calls : List Call) → Each IsStill calls → AreTicketed calls
still_ticketed [] s = tt
still_ticketed (Rings row content answer ∷ calls) s = absurd s.0
still_ticketed (_ ∷ calls) s = (tt, still_ticketed calls s.1)

still_blank : (calls : List Call) → Each IsStill calls → Each IsBlank calls
still_blank [] s = tt
still_blank (Puts row content version ∷ calls) s = (s.0, still_blank calls s.1)
still_blank (_ ∷ calls) s = (tt, still_blank calls s.1)

still_rung : (row ticket : ℕ) (test : ℕ → Bool) (calls : List Call) → Each IsStill calls → rungs row ticket test calls ≡ 0
still_rung row ticket test [] s = refl
still_rung row ticket test (Rings at content answer ∷ calls) s = absurd s.0
still_rung row ticket test (_ ∷ calls) s = omega (arith, still_rung row ticket test calls s.1)

-- an entry that prints none
none_put : {A : Type 0} (x : A) (xs : List A) → x ∷ xs ≡ [] → ⊥
none_put x xs e = absurd (omega (arith, ap length e))

none_long : (row ticket : ℕ) (test : ℕ → Bool) (line : Line) (e : Entry) → long_put line e ≡ [] → long_by row ticket test e ≡ 0
none_long row ticket test line (says.Long at version own) none = absurd (none_put _ _ none)
none_long row ticket test line _ none = refl

none_late : (line : Line) (e : Entry) → long_put line e ≡ [] → IsAhead e
none_late line (says.Late row ticket greater) none = absurd (none_put _ _ none)
none_late line _ none = tt

first_none : {A : Type 0} (xs ys : List A) → xs ++ ys ≡ [] → xs ≡ []
first_none [] ys e = refl
first_none (x ∷ xs) ys e = absurd (none_put x (xs ++ ys) e)

rest_none : {A : Type 0} (xs ys : List A) → xs ++ ys ≡ [] → ys ≡ []
rest_none [] ys e = e
rest_none (x ∷ xs) ys e = absurd (none_put x (xs ++ ys) e)

none_longs : (row ticket : ℕ) (test : ℕ → Bool) (line : Line) (es : List Entry) → puts_in line es ≡ [] → longs_in row ticket test es ≡ 0
none_longs row ticket test line [] none = refl
none_longs row ticket test line (e ∷ es) none =
    omega (arith, none_long row ticket test line e (first_none (long_put line e) (puts_in line es) none), none_longs row ticket test line es (rest_none (long_put line e) (puts_in line es) none))

none_lates : (line : Line) (es : List Entry) → puts_in line es ≡ [] → Each IsAhead es
none_lates line [] none = tt
none_lates line (e ∷ es) none =
    (none_late line e (first_none (long_put line e) (puts_in line es) none), none_lates line es (rest_none (long_put line e) (puts_in line es) none))

quietly : (line : Line) (calls : List Call) (entries : List Entry) → puts_in line entries ≡ [] → Each IsStill calls → IsDrawn line calls entries
quietly line calls entries none s = record {
  match = λ placed. subst (λ z. Match z (drawn_in calls)) (sym none) (subst (λ z. Match [] z) (sym (still_drawn calls s)) tt);
  ticketed = still_ticketed calls s;
  blank = still_blank calls s;
  rung = λ row ticket test. omega (arith, none_longs row ticket test line entries none, still_rung row ticket test calls s);
  ahead = none_lates line entries none;
}

-- a word that is none of a ticket, and one that is
no_ticket : (a b : Bool) (ticket : ℕ) → one_if (a && (b && (0 == ticket + 1))) ≡ 0
no_ticket false b ticket = refl
no_ticket true false ticket = refl
no_ticket true true ticket = ap one_if (ne_eqb 0 (ticket + 1) (λ e. omega (arith, e)))

same_ticket : (own ticket : ℕ) → (own == ticket) ≡ (own + 1 == ticket + 1)
same_ticket own ticket = grind arith

-- puts: a place of a thread is none of the long history
short_drawn : (line : Line) → is_reading_line line ≡ false → (row : ℕ) (event : Event) (put : Put) (calls : List Call) → PutAt row None [] event put calls → IsDrawn line calls (put_entry put ∷ [])
short_drawn line other row event put calls x = by_answer x.answer x.says x.calls_are where
  by_answer : (answer : RingPut) → Says row None answer put → calls ≡ Rings row (offered event None) answer ∷ [] → IsDrawn line calls (put_entry put ∷ [])
  by_answer (told.Done version) e c = drawn_as line calls _ _ (says.Ring row version ∷ []) c (ap (λ z. put_entry z ∷ []) e) (record {
    match = λ placed. tt;
    ticketed = ((λ up. absurd (omega (arith, up))), tt);
    blank = (tt, tt);
    rung = λ at ticket test. (let none = no_ticket (row == at) (test version) ticket in omega (arith, none));
    ahead = (tt, tt);
  })
  by_answer (told.Busy first second) e c = drawn_as line calls _ _ (says.Busy row first second ∷ []) c (ap (λ z. put_entry z ∷ []) e) (record {
    match = λ placed. low (nat_le 10242 row) refl placed.0;
    ticketed = (tt, tt);
    blank = (tt, tt);
    rung = λ at ticket test. refl;
    ahead = (tt, tt);
  }) where
    low : (b : Bool) → nat_le 10242 row ≡ b → IsRing row (offered event None) → Match (cond (not (is_reading_line line) && nat_le 10242 row) (record { row = row; ticket = None } ∷ []) [] ++ []) []
    low true q (inl r) = absurd (high row q r.1) where
      high : (n : ℕ) → nat_le 10242 n ≡ true → n < 10242 → ⊥
      high n q less = grind (arith, q, less)
    low true q (inr r) = absurd (none r.2) where
      none : 0 < slice_index (offered event None) 15 → ⊥
      none up = absurd (omega (arith, up))
    low false q r = subst (λ b. Match (cond (not (is_reading_line line) && b) (record { row = row; ticket = None } ∷ []) [] ++ []) []) (sym q) (empty (not (is_reading_line line))) where
      empty : (b : Bool) → Match (cond (b && false) (record { row = row; ticket = None } ∷ []) [] ++ []) []
      empty true = tt
      empty false = tt
  by_answer (told.Late greater version) e c = absurd e

far_drawn : (line : Line) → is_reading_line line ≡ false → (kind : ℕ) (event : Event) (put : Put) (calls : List Call) → PutLong kind event put calls → IsDrawn line calls (put_entry put ∷ [])
far_drawn line other kind event put calls x = by_answer x.at.answer x.at.says x.at.calls_are where
  row : ℕ
  row = long_row kind x.ticket

  by_answer : (answer : RingPut) → Says row (Some x.ticket) answer put → calls ≡ Rings row (offered event (Some x.ticket)) answer ∷ Draws kind x.ticket ∷ [] → IsDrawn line calls (put_entry put ∷ [])
  by_answer (told.Done version) e c = drawn_as line calls _ _ (says.Long row version x.ticket ∷ []) c (ap (λ z. put_entry z ∷ []) e) (record {
    match = λ placed. ((refl, inr refl), tt);
    ticketed = ((λ up. (refl, refl)), (tt, tt));
    blank = (tt, (tt, tt));
    rung = λ at ticket test. (let same = ap (λ b. one_if ((row == at) && (test version && b))) (same_ticket x.ticket ticket) in omega (arith, same));
    ahead = (tt, tt);
  })
  by_answer (told.Busy first second) e c = drawn_as line calls _ _ (says.Busy row first second ∷ []) c (ap (λ z. put_entry z ∷ []) e) (record {
    match = λ placed. subst (λ b. Match (cond (not b && nat_le 10242 row) (record { row = row; ticket = None } ∷ []) [] ++ []) (record { kind = kind; ticket = x.ticket } ∷ [])) (sym other)
        (subst (λ b. Match (cond (true && b) (record { row = row; ticket = None } ∷ []) [] ++ []) (record { kind = kind; ticket = x.ticket } ∷ [])) (sym (le-leb 10242 row (omega arith))) ((refl, inl refl), tt));
    ticketed = (tt, (tt, tt));
    blank = (tt, (tt, tt));
    rung = λ at ticket test. refl;
    ahead = (tt, tt);
  })
  by_answer (told.Late greater version) e c = drawn_as line calls _ _ (says.Late row x.ticket greater ∷ []) c (ap (λ z. put_entry z ∷ []) e.0) (record {
    match = λ placed. ((refl, inr refl), tt);
    ticketed = (((refl, refl), omega (arith, e.1)), (tt, tt));
    blank = (tt, (tt, tt));
    rung = λ at ticket test. refl;
    ahead = ((e.1, ap (λ k. long_row k x.ticket) (sym (kind_is kind x.ticket))), tt);
  })

none_drawn : (line : Line) (put : Option Put) (calls : List Call) → (put ≡ None) × (calls ≡ []) → IsDrawn line calls (put_entries put)
none_drawn line put calls x = drawn_as line calls [] (put_entries put) [] x.1 (ap put_entries x.0) (nothing_drawn line)

module _ (line : Line) (other : is_reading_line line ≡ false) where
  put_drawn : (due : Bool) (ring : Ring) (event : Event) (put : Option Put) (calls : List Call) → PutIf due ring event put calls → IsDrawn line calls (put_entries put)
  put_drawn false ring event put calls x = none_drawn line put calls x
  put_drawn true ring event None calls x = absurd x
  put_drawn true (Current thread kind depth) event (Some put) calls x = short_drawn line other (current_row thread kind depth) event put calls x
  put_drawn true (History thread kind place) event (Some put) calls x = short_drawn line other (history_row thread (ring_number kind) place) event put calls x
  put_drawn true (Long kind) event (Some put) calls x = far_drawn line other (ring_number kind) event put calls x

  place_drawn : (slot : Option ℕ) (what : Open) (depth : ℕ) (event : Event) (put : Option Put) (calls : List Call) → PutIn slot what depth event put calls → IsDrawn line calls (put_entries put)
  place_drawn None what depth event put calls x = none_drawn line put calls x
  place_drawn (Some slot) what depth event put calls x = put_drawn what.placed (Current slot what.kind depth) event put calls x

  puts_drawn : (s : State) (slot : ℕ) (what : Open) (numbers : Numbers) (consumers thread : ℕ) (calls : List Call) (entries : List Entry) (after : State)
      → PutsAtEnd s slot what numbers consumers thread calls entries after → IsDrawn line calls entries
  puts_drawn s slot what numbers consumers thread calls entries after x =
      let a = put_drawn _ _ _ x.current x.current_calls x.current_is in
      let b = put_drawn _ _ _ x.history x.history_calls x.history_is in
      let c = put_drawn _ _ _ x.long x.long_calls x.long_is in
      let two = drawn_both line x.current_calls x.history_calls (put_entries x.current) (put_entries x.history) a b in
      let three = drawn_both line (x.history_calls ++ x.current_calls) x.long_calls (put_entries x.current ++ put_entries x.history) (put_entries x.long) two c in
      drawn_as line calls _ entries _ x.calls_are (x.entries_are ∙ sym (append_assoc (put_entries x.current) (put_entries x.history) (put_entries x.long))) three

  tables_still : (table : Option ℕ) (word : Option Word) → Each IsStill (table_calls table word)
  tables_still (Some table) (Some word) = (tt, tt)
  tables_still (Some table) None = tt
  tables_still None word = tt

  loads_still : (slot class table : Option ℕ) (seen : Option Setup) → Each IsStill (load_calls slot class table seen)
  loads_still (Some slot) (Some class) table (Some seen) = still_then (table_calls table seen.table) _ (tables_still table seen.table) (tt, (tt, (tt, tt)))
  loads_still (Some slot) (Some class) table None = tt
  loads_still (Some slot) None table seen = tt
  loads_still None class table seen = tt

  start_put : (v : Verdict) (n : ℕ) (seen : Option Setup) → puts_in line (start_entry v n seen ∷ []) ≡ []
  start_put v n None = refl
  start_put v n (Some seen) = refl

  starts_drawn : (s : State) (subject : Subject) (calls : List Call) (entries : List Entry) (after : State) → Starts s subject calls entries after → IsDrawn line calls entries
  starts_drawn s subject calls entries after x =
      let b = x.begins in
      let first : IsDrawn line x.begun_calls x.begun_entries =
      quietly line x.begun_calls x.begun_entries (ap (puts_in line) b.entries_are ∙ start_put _ _ b.seen) (subst (Each IsStill) (sym b.calls_are) (loads_still s.place.thread subject.class subject.table b.seen)) in
      drawn_as line calls _ entries _ x.calls_are x.entries_are
      (drawn_both line x.begun_calls x.put_calls x.begun_entries (put_entries x.current) first (place_drawn s.place.thread b.what _ b.what.event x.current x.put_calls x.put_is))

  added_put : (answer : Added) → puts_in line (added_entry answer ∷ []) ≡ []
  added_put (Counted r v) = refl
  added_put (Held r v w) = refl

  digest_drawn : (b : Bool) (s : State) (slot : ℕ) (what : Open) (numbers : Numbers) (calls : List Call) (entries : List Entry) (after : State) → DigestsIn b s slot what numbers calls entries after → IsDrawn line calls entries
  digest_drawn false s slot what numbers calls entries after x = drawn_as line calls [] entries [] x.calls_are x.entries_are (nothing_drawn line)
  digest_drawn true s slot what numbers calls entries after x = quietly line calls entries (ap (puts_in line) x.entries_are ∙ added_put x.answer) (subst (Each IsStill) (sym x.calls_are) (tt, tt))

  through_drawn : (s : State) (slot : ℕ) (what : Open) (others : List Open) (numbers : Numbers) (calls : List Call) (entries : List Entry) (after : State) → EndsThrough s slot what others numbers calls entries after → IsDrawn line calls entries
  through_drawn s slot what others numbers calls entries after x =
      let e = x.adds in
      let a : IsDrawn line e.counted_calls e.counted_entries =
      quietly line e.counted_calls e.counted_entries (ap (puts_in line) e.counts.entries_are ∙ added_put e.counts.answer) (subst (Each IsStill) (sym e.counts.calls_are) (tt, (tt, (tt, tt)))) in
      let b = digest_drawn what.digested e.between slot what numbers e.digested_calls e.digested_entries x.among e.digests in
      let both = drawn_as line x.added_calls _ x.added_entries _ e.calls_are e.entries_are (drawn_both line e.counted_calls e.digested_calls e.counted_entries e.digested_entries a b) in
      drawn_as line calls _ entries _ x.calls_are x.entries_are
      (drawn_both line x.added_calls x.ring_calls x.added_entries x.ring_entries both (puts_drawn x.among slot what numbers _ _ x.ring_calls x.ring_entries after x.puts))

  ends_drawn : (s : State) (slot : Option ℕ) (b : Bool) (what : Open) (others : List Open) (numbers : Numbers) (calls : List Call) (entries : List Entry) (after : State) → EndsIn s slot b what others numbers calls entries after
      → IsDrawn line calls entries
  ends_drawn s slot false what others numbers calls entries after x = quietly line calls entries (ap (puts_in line) x.entries_are) (subst (Each IsStill) (sym x.calls_are) tt)
  ends_drawn s None true what others numbers calls entries after x = absurd x
  ends_drawn s (Some slot) true what others numbers calls entries after x = through_drawn s slot what others numbers calls entries after x

-- actions
gifts_still : (amount : Stat) (gs : List Gift) → Each IsStill (gift_calls amount gs)
gifts_still amount [] = tt
gifts_still amount (g ∷ gs) = still_then (gift_calls amount gs) _ (gifts_still amount gs) (refl, (tt, tt))

moves_still : (ms : List Move) → Each IsStill (moves_calls ms)
moves_still [] = tt
moves_still (m ∷ ms) = still_then (move_calls m) (moves_calls ms) (still_then (gift_calls _ m.gifts) _ (gifts_still _ m.gifts) (refl, (tt, tt))) (moves_still ms)

made_still : (sign : Sign) (version : ℕ) (found : List ℕ) → IsUnticketed sign → Each IsStill (made_calls (record { sign = sign; version = version; found = found }))
made_still (Releases row) version found b = (tt, (tt, tt))
made_still (Tags row content) version found b = (b, (tt, tt))

signs_still : (ms : List Made) → Each IsUnticketed (signs_of ms) → Each IsStill (signs_calls ms)
signs_still [] b = tt
signs_still (m ∷ ms) b =
    still_then (made_calls m) (signs_calls ms) (made_still m.sign m.version m.found (each_behind IsUnticketed (signs_of ms) (m.sign ∷ []) b).0) (signs_still ms (each_front IsUnticketed (signs_of ms) (m.sign ∷ []) b))

sets_still : (words : List Word) (fs : List Flagging) → Each IsStill (flagging_calls words fs)
sets_still words [] = tt
sets_still words (f ∷ fs) = still_then (flagging_calls words fs) (Sets f.word f.flags _ ∷ []) (sets_still words fs) (tt, tt)

works_still : (work : Work) (words : List Word) (head : List Entry) (calls : List Call) (entries : List Entry) → Each IsUnticketed work.signs → Works work words head calls entries → Each IsStill calls
works_still work words head calls entries b w =
    subst (Each IsStill) (sym w.calls_are)
    (still_then (flagging_calls words work.flags) (signs_calls w.made ++ moves_calls w.moves) (sets_still words work.flags) (still_then (signs_calls w.made) (moves_calls w.moves) (signs_still w.made (subst (Each IsUnticketed) (sym w.signs_are) b)) (moves_still w.moves)))

paid_still : (ps : List Paid) → Each IsStill (paid_calls ps)
paid_still [] = tt
paid_still (p ∷ ps) = still_then (pay_calls p) (paid_calls ps) (refl, (tt, tt)) (paid_still ps)

settle_puts : (line : Line) (owed : List Owed) (ps : List Paid) → puts_in line (settle_head owed ++ paid_entries ps) ≡ []
settle_puts line [] ps = inner_puts line (paid_entries ps) (paid_same ps).inner
settle_puts line (o ∷ os) ps = inner_puts line (paid_entries ps) (paid_same ps).inner

acted_puts : (line : Line) (head : Entry) (calls : List Call) (entries : List Entry) → long_put line head ≡ [] → IsActed head calls entries → puts_in line entries ≡ []
acted_puts line head calls entries none a = ap (puts_in line) a.entries_are ∙ (ap (λ z. z ++ puts_in line a.rest) none ∙ inner_puts line a.rest a.same.inner)

connect_put : (line : Line) (action : ℕ) (seat : Option Seated) → long_put line (connect_entry action seat) ≡ []
connect_put line action None = refl
connect_put line action (Some seat) = refl

-- a step of its line: events start and end at lines that read nothing, and rows are looked at at those that read
abbrev IsAt : Line → Step → Type 0
IsAt line (StartsEvent what) = is_reading_line line ≡ false
IsAt line (EndsEvent numbers) = is_reading_line line ≡ false
IsAt line (Inquires (Looks reading)) = is_reading_line line ≡ true
IsAt line (Inquires (Remarks what)) = Unit {0}
IsAt line (Spends time) = Unit {0}
IsAt line SettlesHeld = Unit {0}
IsAt line (Connects admin user host) = Unit {0}
IsAt line (Quits admin) = Unit {0}
IsAt line (Truncates admin what) = Unit {0}
IsAt line (Changes admin what) = Unit {0}

abbrev AreAt : Line → List Step → Type 0
AreAt line steps = Each (IsAt line) steps

inquiry_still : (what : Inquiry) → Each IsStill (inquiry_calls what)
inquiry_still (Looks (readings.Slot row found)) = (tt, tt)
inquiry_still (Looks (readings.Word word version flags)) = (tt, tt)
inquiry_still (Remarks what) = tt

inquiry_puts : (line : Line) (what : Inquiry) → IsAt line (Inquires what) → puts_in line (inquiry_entry what ∷ []) ≡ []
inquiry_puts line (Looks (readings.Slot row (seen.Whole version content))) at = refl
inquiry_puts line (Looks (readings.Slot row (seen.Free word))) at = refl
inquiry_puts line (Looks (readings.Slot row (seen.Busy first second))) at = ap (λ b. cond (not b && nat_le 10242 row) (record { row = row; ticket = None } ∷ []) [] ++ []) at
inquiry_puts line (Looks (readings.Word word version flags)) at = refl
inquiry_puts line (Remarks Query) at = refl
inquiry_puts line (Remarks (Rows count)) at = refl
inquiry_puts line (Remarks (Refused error)) at = refl

does_drawn : (line : Line) (s : State) (step : Step) (calls : List Call) (entries : List Entry) (after : State) → IsAt line step → Does s step calls entries after → IsDrawn line calls entries
does_drawn line s (StartsEvent what) calls entries after at d = starts_drawn line at s what calls entries after d
does_drawn line s (EndsEvent numbers) calls entries after at d = ends_drawn line at s s.place.thread (is_let_through d.what.verdict) d.what d.others numbers calls entries after d.ends
does_drawn line s (Spends time) calls entries after at d = drawn_as line calls [] entries [] d.0 d.1 (nothing_drawn line)
does_drawn line s SettlesHeld calls entries after at d = quietly line calls entries (ap (puts_in line) d.entries_are ∙ settle_puts line (owed_by_state s) d.paid) (subst (Each IsStill) (sym d.calls_are) (paid_still d.paid))
does_drawn line s (Connects admin user host) calls entries after at d =
    let head : Entry = connect_entry (admin.actions + 1) (seat_at admin s.number user host) in
    quietly line calls entries (acted_puts line head calls entries (connect_put line (admin.actions + 1) (seat_at admin s.number user host)) (acted (work_of_connect admin s.number user host) admin.words head calls entries d.0))
    (works_still (work_of_connect admin s.number user host) admin.words (head ∷ []) calls entries (connect_unticketed admin s.number user host) d.0)
does_drawn line s (Quits admin) calls entries after at d =
    quietly line calls entries (acted_puts line (says.Act (admin.actions + 1)) calls entries refl (acted (work_of_quit admin s.number) admin.words (says.Act (admin.actions + 1)) calls entries d.0))
    (works_still (work_of_quit admin s.number) admin.words (says.Act (admin.actions + 1) ∷ []) calls entries (quit_unticketed admin s.number) d.0)
does_drawn line s (Truncates admin what) calls entries after at d =
    quietly line calls entries (acted_puts line (says.Act (admin.actions + 1)) calls entries refl (truncated_acted s admin what calls entries after d))
    (works_still (work_of_truncation admin what) admin.words (says.Act (admin.actions + 1) ∷ []) calls d.changes (truncation_unticketed admin what) d.works)
does_drawn line s (Changes admin what) calls entries after at d =
    quietly line calls entries (acted_puts line (says.Act (admin.actions + 1)) calls entries refl (changed_acted s admin what calls entries after d))
    (works_still (work_of_statement admin what) admin.words (says.Act (admin.actions + 1) ∷ []) calls d.changes tt d.works)
does_drawn line s (Inquires what) calls entries after at d =
    quietly line calls entries (ap (puts_in line) d.entries_are ∙ inquiry_puts line what at) (subst (Each IsStill) (sym d.calls_are) (inquiry_still what))

turns_drawn : (line : Line) (s : State) (turns : List Turn) → AreTurns s turns → AreAt line (steps_of turns) → IsDrawn line (turns_calls turns) (turns_entries turns)
turns_drawn line s [] are at = nothing_drawn line
turns_drawn line s (t ∷ ts) are at =
    drawn_both line (turns_calls ts) t.calls (turns_entries ts) t.entries (turns_drawn line s ts are.1 (each_front (IsAt line) (steps_of ts) (t.step ∷ []) at))
    (does_drawn line (state_after s ts) t.step t.calls t.entries t.after (each_behind (IsAt line) (steps_of ts) (t.step ∷ []) at).0 are.0)

-- the steps of a line
at_then : (line : Line) (xs ys : List Step) → AreAt line xs → AreAt line ys → AreAt line (xs ++ ys)
at_then line [] ys a b = b
at_then line (x ∷ xs) ys a b = (a.0, at_then line xs ys a.1 b)

stage_at : (line : Line) → is_reading_line line ≡ false → (events : List Open) → AreAt line (stage_ends events)
stage_at line other [] = tt
stage_at line other (what ∷ events) = by_test (is_stage what.kind) where
  by_test : (b : Bool) → AreAt line (cond b (EndsEvent no_numbers ∷ []) [])
  by_test true = (other, tt)
  by_test false = tt

looks_at : (line : Line) → is_reading_line line ≡ true → (found : List Reading) → AreAt line (looks found)
looks_at line reads [] = tt
looks_at line reads (reading ∷ found) = (reads, looks_at line reads found)

deed_at : (s : State) (deed : Deed) → AreAt (line_of deed) (steps_for s deed)
deed_at s (Connecting admin user host) = (tt, tt)
deed_at s (Starting subject) = (refl, tt)
deed_at s (Staging subject) = at_then (line_of (Staging subject)) (stage_ends s.opened.events) (StartsEvent subject ∷ []) (stage_at (line_of (Staging subject)) refl s.opened.events) (refl, tt)
deed_at s StageEnding = at_then (line_of StageEnding) (stage_ends s.opened.events) [] (stage_at (line_of StageEnding) refl s.opened.events) tt
deed_at s (Ending numbers) = at_then (line_of (Ending numbers)) (stage_ends s.opened.events) (EndsEvent numbers ∷ []) (stage_at (line_of (Ending numbers)) refl s.opened.events) (refl, tt)
deed_at s (Spending time) = (tt, tt)
deed_at s (Quitting admin) = (tt, (tt, tt))
deed_at s (Truncating admin what) = (tt, (tt, tt))
deed_at s (Changing admin what) = (tt, (tt, tt))
deed_at s (Showing admin count) = (tt, (tt, (tt, tt)))
deed_at s (Querying found count) = (tt, at_then (line_of (Querying found count)) (looks found) (remark (Rows count) ∷ []) (looks_at (line_of (Querying found count)) refl found) (tt, tt))
deed_at s (Refusing error) = (tt, tt)
deed_at s Closing = (tt, tt)

pub part_drawn : (s : State) (p : Part) → IsPart s p → IsDrawn (line_of p.deed) (part_calls p) (part_entries p)
part_drawn s p is = turns_drawn (line_of p.deed) s p.turns is.are_turns (subst (AreAt (line_of p.deed)) (sym is.steps_are) (deed_at s p.deed))
