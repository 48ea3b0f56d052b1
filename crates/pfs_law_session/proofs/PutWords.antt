-- The words of an event that is put to a ring are those that its session's entries and the script's facts give.
use Rattle.std.proofs.Common.{ℕ, ◌≡◌, ◌+◌, ◌-◌, ◌*◌, ◌%◌, ◌^◌, Bool, true, false, cond, List, [], ◌∷◌, ◌++◌, Option, Some, None, refl, ap, sym, ◌∙◌, subst}
use Rattle.std.specs.Prelude.{if◌then◌else◌}
use Rattle.std.proofs.lemmas.Bool.{false≢true}
use Rattle.pfs_admin.specs.ConnectionAsks.{connect_entry}
use Rattle.pfs_containers.specs.declared.containers.Seated.{Seated}
use Rattle.pfs_event.specs.EventForm.{bit_of}
use Rattle.pfs_event.specs.NestingKinds.{nesting_number}
use Rattle.pfs_event.specs.Verdicts.{is_let_through}
use Rattle.pfs_event.specs.declared.entry.Entry.{Entry}
use Rattle.pfs_event.specs.declared.entry.Entry.TheVariants as says
use Rattle.pfs_event.specs.declared.event.Event.{Event}
use Rattle.pfs_event.specs.declared.open.Open.{Open}
use Rattle.pfs_levels.specs.Calls.{Call, Rings, Draws}
use Rattle.pfs_levels.specs.declared.answers.RingPut.{RingPut}
use Rattle.pfs_levels.specs.declared.answers.RingPut.TheVariants as told
use Rattle.pfs_model.specs.Causes.{long_row}
use Rattle.pfs_model.specs.Contents.{Facts, Written, or_zero, plus_one, link_of, is_read_only, nesting_type, nesting_id, if_ended, words_at, written_at}
use Rattle.pfs_model.specs.Contexts.{Context, noted, after_entries}
use Rattle.pfs_model.specs.EventNumbers.{nesting_of}
use Rattle.pfs_model.specs.Rings.{ring_number, current_row, history_row}
use Rattle.pfs_model.specs.SetupFlags.{is_digested, is_timed, history_consumer, long_consumer}
use Rattle.pfs_model.specs.declared.lines.Opened.{Opened}
use Rattle.pfs_model.specs.declared.lines.Subject.{Subject}
use Rattle.pfs_rings.specs.Offers.{Says, offered, ticket_word, put_entry}
use Rattle.pfs_rings.specs.declared.puts.Put.{Put}
use Rattle.pfs_rings.specs.declared.rings.Ring.{Ring}
use Rattle.pfs_rings.specs.declared.rings.Ring.TheVariants.{Current, History, Long}
use Rattle.pfs_session.specs.Ends.{PutsAtEnd, ended_event}
use Rattle.pfs_session.specs.EventPuts.{PutAt, PutIf, PutIn, put_entries, depth_of, goes_on}
use Rattle.pfs_session.specs.Settlements.{Paid, paid_entries, settle_head}
use Rattle.pfs_session.specs.SessionStates.{State, Owed, around, next_of}
use Rattle.pfs_session.specs.declared.events.Numbers.{Numbers}
use Rattle.pfs_session.specs.declared.opening.Outer.{Outer}
use Rattle.pfs_law_session.proofs.ActionShapes.{AreAll, is_quiet}
use Rattle.pfs_law_session.proofs.EndEntries.{first_of_three}
use Rattle.pfs_law_session.proofs.RingPuts.{rings_keep, put_ring}
use Rattle.pfs_law_session.specs.Agreement.{AreAlike}
use Rattle.pfs_law_session.specs.Amounts.{IsMeasured, IsWorded, AreWorded, ContentAgrees, ContentsAgree, IsPut, words_put}

-- what words say of an event
record Saying (flags : ℕ → ℕ → ℕ) (session : ℕ) (slot : Option ℕ) (facts : Facts) (written : Written) (e : Event) : Type 0 where
  session_is : session ≡ e.session
  number : or_zero written.event.number ≡ e.number
  last : or_zero written.last ≡ e.last
  class : or_zero written.event.subject.class ≡ e.class
  link : link_of (is_digested flags slot written.event) written.event ≡ e.link
  timed : is_timed flags slot written.event ≡ e.timed
  read_only : is_read_only written.event.subject.kind written.event.subject.cell ≡ e.read_only
  nesting : nesting_type (nesting_of written.around) ≡ e.nesting
  parent : nesting_id (nesting_of written.around) ≡ e.parent
  start : facts.start ≡ e.start
  duration : if_ended written.last facts.duration ≡ e.duration
  lock : if_ended written.last facts.lock ≡ e.lock
  errors : if_ended written.last facts.errors ≡ e.errors
  warnings : if_ended written.last facts.warnings ≡ e.warnings
  affected : if_ended written.last facts.affected ≡ e.affected
  sent : if_ended written.last facts.sent ≡ e.sent
  examined : if_ended written.last facts.examined ≡ e.examined

cons : {A : Type 0} (x y : A) (xs ys : List A) → x ≡ y → xs ≡ ys → (x ∷ xs) ≡ (y ∷ ys)
cons x y xs ys p q = ap (λ z. z ∷ xs) p ∙ ap (λ z. y ∷ z) q

packed : (a b c d : ℕ) → a ≡ c → b ≡ d → a + 64 * b ≡ c + 64 * d
packed a b c d p q = ap (λ z. z + 64 * b) p ∙ ap (λ z. c + 64 * z) q

bits : (a b c d : Bool) (m n : ℕ) → a ≡ c → b ≡ d → m ≡ n → bit_of a + 2 * bit_of b + 4 * m ≡ bit_of c + 2 * bit_of d + 4 * n
bits a b c d m n p q r = ap (λ z. bit_of z + 2 * bit_of b + 4 * m) p ∙ (ap (λ z. bit_of c + 2 * bit_of z + 4 * m) q ∙ ap (λ z. bit_of c + 2 * bit_of d + 4 * z) r)

ticket_same : (ticket : Option ℕ) → plus_one ticket ≡ ticket_word ticket
ticket_same None = refl
ticket_same (Some ticket) = refl

words_said : (flags : ℕ → ℕ → ℕ) (session : ℕ) (slot : Option ℕ) (facts : Facts) (written : Written) (e : Event) → Saying flags session slot facts written e → (ticket : Option ℕ)
    → words_at flags session slot facts ticket written ≡ offered e ticket
words_said flags session slot facts written e s ticket =
    cons _ _ _ _ s.session_is (cons _ _ _ _ s.number (cons _ _ _ _ s.last
    (cons _ _ _ _ (packed _ _ _ _ s.class s.link) (cons _ _ _ _ (bits _ _ _ _ _ _ s.timed s.read_only s.nesting) (cons _ _ _ _ refl
    (cons _ _ _ _ s.parent (cons _ _ _ _ s.start (cons _ _ _ _ s.duration
    (cons _ _ _ _ s.lock (cons _ _ _ _ s.errors (cons _ _ _ _ s.warnings (cons _ _ _ _ s.affected (cons _ _ _ _ s.sent (cons _ _ _ _ s.examined
    (cons _ _ _ _ (ticket_same ticket) refl)))))))))))))))

-- what an event lies in is the same by the journal and by the session
pub around_same : (flags : ℕ → ℕ → ℕ) (slot : Option ℕ) (events : List Opened) (whats : List Open) → AreAlike flags slot events whats
    → (nesting_type (nesting_of events) ≡ (around whats).nesting) × (nesting_id (nesting_of events) ≡ (around whats).parent)
around_same flags slot [] [] are = (refl, refl)
around_same flags slot [] (w ∷ ws) are = absurd are
around_same flags slot (e ∷ es) [] are = absurd are
around_same flags slot (e ∷ es) (w ∷ ws) are = by_case (is_let_through w.verdict) refl (around_same flags slot es ws are.1) where
  outer : Outer
  outer = record { nesting = nesting_number w.kind; parent = w.event.number }

  Same : Option Opened → Outer → Type 0
  Same one other = (nesting_type one ≡ other.nesting) × (nesting_id one ≡ other.parent)

  by_case : (b : Bool) → is_let_through w.verdict ≡ b → Same (nesting_of es) (around ws) → Same (nesting_of (e ∷ es)) (around (w ∷ ws))
  by_case true q rest =
      let number : or_zero e.number ≡ w.event.number =
      ap or_zero (are.0.number ∙ ap (λ b. if b then Some w.event.number else None) q) in
      let here : Same (Some e) outer = (ap nesting_number are.0.kind, number) in
      subst (λ z. Same (cond z (Some e) (nesting_of es)) (around (w ∷ ws))) (sym (ap is_let_through are.0.verdict ∙ q))
      (subst (λ z. Same (Some e) (if z then outer else around ws)) (sym q) here)
  by_case false q rest =
      subst (λ z. Same (cond z (Some e) (nesting_of es)) (around (w ∷ ws))) (sym (ap is_let_through are.0.verdict ∙ q))
      (subst (λ z. Same (nesting_of es) (if z then outer else around ws)) (sym q) rest)

-- the words of an event that has just started, and of one that ends
pub start_words : (flags : ℕ → ℕ → ℕ) (session : ℕ) (slot : Option ℕ) (facts : Facts) (event : Opened) (others : List Opened) (what : Open) → IsWorded flags slot session event others what
    → facts.start ≡ what.event.start → (ticket : Option ℕ)
    → words_at flags session slot facts ticket (record { event = event; around = others; last = None }) ≡ offered what.event ticket
start_words flags session slot facts event others what w start ticket =
    words_said flags session slot facts (record { event = event; around = others; last = None }) what.event (record {
      session_is = w.session_is;
      number = w.number;
      last = sym w.unfilled.last;
      class = w.class;
      link = w.link;
      timed = w.timed;
      read_only = w.read_only;
      nesting = w.nesting;
      parent = w.parent;
      start = start;
      duration = sym w.unfilled.duration;
      lock = sym (ap (λ (n : Numbers). n.lock) w.unfilled.numbers);
      errors = sym (ap (λ (n : Numbers). n.errors) w.unfilled.numbers);
      warnings = sym (ap (λ (n : Numbers). n.warnings) w.unfilled.numbers);
      affected = sym (ap (λ (n : Numbers). n.affected) w.unfilled.numbers);
      sent = sym (ap (λ (n : Numbers). n.sent) w.unfilled.numbers);
      examined = sym (ap (λ (n : Numbers). n.examined) w.unfilled.numbers);
    }) ticket

pub end_words : (flags : ℕ → ℕ → ℕ) (session : ℕ) (slot : Option ℕ) (facts : Facts) (event : Opened) (others : List Opened) (what : Open) (drawn last clock counted : ℕ) (numbers : Numbers)
    → IsWorded flags slot session event others what → facts.start ≡ what.event.start → last ≡ drawn → counted ≡ clock
    → IsMeasured counted numbers (record { index = event.index; kind = what.kind; start = what.event.start }) facts → (ticket : Option ℕ)
    → words_at flags session slot facts ticket (record { event = event; around = others; last = Some last }) ≡ offered (ended_event what drawn clock numbers) ticket
end_words flags session slot facts event others what drawn last clock counted numbers w start d c m ticket =
    words_said flags session slot facts (record { event = event; around = others; last = Some last }) (ended_event what drawn clock numbers) (record {
      session_is = w.session_is;
      number = w.number;
      last = d;
      class = w.class;
      link = w.link;
      timed = w.timed;
      read_only = w.read_only;
      nesting = w.nesting;
      parent = w.parent;
      start = start;
      duration = m.duration ∙ ap (λ z. (z + (2 ^ 64 - what.event.start)) % 2 ^ 64) c;
      lock = m.lock;
      errors = m.errors;
      warnings = m.warnings;
      affected = m.affected;
      sent = m.sent;
      examined = m.examined;
    }) ticket

-- each put among these entries leaves the words of its event
abbrev pub PutBy : (ℕ → ℕ → ℕ) → (ℕ → Facts) → (ℕ → ℕ → List ℕ) → ℕ → Option Subject → Context → List Entry → Type 0
PutBy flags facts content session subject context [] = Unit {0}
PutBy flags facts content session subject context (e ∷ es) =
    IsPut flags facts content session context e × PutBy flags facts content session subject (noted subject context e) es

pub put_then : (flags : ℕ → ℕ → ℕ) (facts : ℕ → Facts) (content : ℕ → ℕ → List ℕ) (session : ℕ) (subject : Option Subject) (context : Context) (es fs : List Entry)
    → PutBy flags facts content session subject context es → PutBy flags facts content session subject (after_entries subject context es) fs
    → PutBy flags facts content session subject context (es ++ fs)
put_then flags facts content session subject context [] fs a b = b
put_then flags facts content session subject context (e ∷ es) fs a b = (a.0, put_then flags facts content session subject (noted subject context e) es fs a.1 b)

-- entries of an action are no puts
quiet_one : (flags : ℕ → ℕ → ℕ) (facts : ℕ → Facts) (content : ℕ → ℕ → List ℕ) (session : ℕ) (context : Context) (e : Entry) → is_quiet e ≡ true → IsPut flags facts content session context e
quiet_one flags facts content session context (says.Ring row version) q = absurd (false≢true q)
quiet_one flags facts content session context (says.Long row version ticket) q = absurd (false≢true q)
quiet_one flags facts content session context _ q = tt

pub quiet_put : (flags : ℕ → ℕ → ℕ) (facts : ℕ → Facts) (content : ℕ → ℕ → List ℕ) (session : ℕ) (context : Context) (es : List Entry) → AreAll true is_quiet es
    → PutBy flags facts content session None context es
quiet_put flags facts content session context [] q = tt
quiet_put flags facts content session context (e ∷ es) q =
    (quiet_one flags facts content session context e q.0, quiet_put flags facts content session (noted None context e) es q.1)

pub connect_put : (flags : ℕ → ℕ → ℕ) (facts : ℕ → Facts) (content : ℕ → ℕ → List ℕ) (session : ℕ) (context : Context) (action : ℕ) (seat : Option Seated)
    → IsPut flags facts content session context (connect_entry action seat)
connect_put flags facts content session context action None = tt
connect_put flags facts content session context action (Some seat) = tt

-- neither are additions of what was held
paid_put : (flags : ℕ → ℕ → ℕ) (facts : ℕ → Facts) (content : ℕ → ℕ → List ℕ) (session : ℕ) (subject : Option Subject) (context : Context) (ps : List Paid)
    → PutBy flags facts content session subject context (paid_entries ps)
paid_put flags facts content session subject context [] = tt
paid_put flags facts content session subject context (p ∷ ps) =
    put_then flags facts content session subject context (paid_entries ps) (says.Add p.owed.row (p.version + 1) ∷ []) (paid_put flags facts content session subject context ps) (tt, tt)

pub settle_put : (flags : ℕ → ℕ → ℕ) (facts : ℕ → Facts) (content : ℕ → ℕ → List ℕ) (session : ℕ) (subject : Option Subject) (context : Context) (owed : List Owed) (ps : List Paid)
    → PutBy flags facts content session subject context (settle_head owed ++ paid_entries ps)
settle_put flags facts content session subject context [] ps = paid_put flags facts content session subject context ps
settle_put flags facts content session subject context (one ∷ others) ps = (tt, paid_put flags facts content session subject (noted subject context says.Settle) ps)

-- nothing is said of no open event
pub none_worded : (flags : ℕ → ℕ → ℕ) (slot : Option ℕ) (session : ℕ) (opened : List Opened) (events : List Open) → events ≡ [] → AreWorded flags slot session opened events
none_worded flags slot session [] events e = tt
none_worded flags slot session (x ∷ xs) events e = subst (AreWorded flags slot session (x ∷ xs)) (sym e) tt

pub front_calls : (content : ℕ → ℕ → List ℕ) (xs ys : List Call) → ContentsAgree content (xs ++ ys) → ContentsAgree content xs
front_calls content [] ys c = tt
front_calls content (x ∷ xs) ys c = (c.0, front_calls content xs ys c.1)

pub back_calls : (content : ℕ → ℕ → List ℕ) (xs ys : List Call) → ContentsAgree content (xs ++ ys) → ContentsAgree content ys
back_calls content [] ys c = c
back_calls content (x ∷ xs) ys c = back_calls content xs ys c.1

module _ (flags : ℕ → ℕ → ℕ) (facts : ℕ → Facts) (content : ℕ → ℕ → List ℕ) (session : ℕ) (subject : Option Subject) (context : Context) where
  -- what a put of the event that has just started or ended writes here
  abbrev pub Writes : Event → Type 0
  Writes event = (ticket : Option ℕ) → words_put flags facts session context.slot ticket (written_at context) ≡ offered event ticket

  abbrev pub Puts : List Entry → Type 0
  Puts entries = PutBy flags facts content session subject context entries

  put_at : (row : ℕ) (ticket : Option ℕ) (drawn : List Call) (event : Event) (put : Put) (calls : List Call) → PutAt row ticket drawn event put calls → ContentsAgree content calls
      → Writes event → Puts (put_entry put ∷ [])
  put_at row ticket drawn event put calls x c w = by_answer ticket x.answer x.says (subst (ContentsAgree content) x.calls_are c).0 where
    by_answer : (ticket : Option ℕ) (answer : RingPut) → Says row ticket answer put → ContentAgrees content (Rings row (offered event ticket) answer) → Puts (put_entry put ∷ [])
    by_answer None (told.Done version) e a = subst (λ z. Puts (put_entry z ∷ [])) (sym e) ((a.0, a.1, a.2 ∙ sym (w None)), tt)
    by_answer (Some ticket) (told.Done version) e a = subst (λ z. Puts (put_entry z ∷ [])) (sym e) ((a.0, a.1, a.2 ∙ sym (w (Some ticket))), tt)
    by_answer None (told.Busy first second) e a = subst (λ z. Puts (put_entry z ∷ [])) (sym e) (tt, tt)
    by_answer (Some ticket) (told.Busy first second) e a = subst (λ z. Puts (put_entry z ∷ [])) (sym e) (tt, tt)
    by_answer None (told.Late greater version) e a = absurd e
    by_answer (Some ticket) (told.Late greater version) e a = subst (λ z. Puts (put_entry z ∷ [])) (sym e.0) (tt, tt)

  none_put : (put : Option Put) → put ≡ None → Puts (put_entries put)
  none_put put e = subst (λ z. Puts (put_entries z)) (sym e) tt

  put_if : (due : Bool) (ring : Ring) (event : Event) (put : Option Put) (calls : List Call) → (due ≡ true → Writes event) → PutIf due ring event put calls → ContentsAgree content calls
      → Puts (put_entries put)
  put_if false ring event put calls w x c = none_put put x.0
  put_if true ring event None calls w x c = tt
  put_if true (Current thread kind depth) event (Some put) calls w x c = put_at (current_row thread kind depth) None [] event put calls x c (w refl)
  put_if true (History thread kind place) event (Some put) calls w x c = put_at (history_row thread (ring_number kind) place) None [] event put calls x c (w refl)
  put_if true (Long kind) event (Some put) calls w x c = put_at (long_row (ring_number kind) x.ticket) (Some x.ticket) (Draws (ring_number kind) x.ticket ∷ []) event put calls x.at c (w refl)

  pub put_in : (slot : Option ℕ) (what : Open) (depth : ℕ) (event : Event) (put : Option Put) (calls : List Call) → (what.placed ≡ true → Writes event) → PutIn slot what depth event put calls
      → ContentsAgree content calls → Puts (put_entries put)
  put_in None what depth event put calls w x c = none_put put x.0
  put_in (Some slot) what depth event put calls w x c = put_if what.placed (Current slot what.kind depth) event put calls w x c

  pub puts_by : (s : State) (slot : ℕ) (what : Open) (numbers : Numbers) (consumers thread : ℕ) (calls : List Call) (entries : List Entry) (after : State)
      → (what.placed ≡ true → Writes (ended_event what s.drawn s.clock numbers)) → PutsAtEnd s slot what numbers consumers thread calls entries after → ContentsAgree content calls → Puts entries
  puts_by s slot what numbers consumers thread calls entries after w x c =
      let event : Event = ended_event what s.drawn s.clock numbers in
      let all : ContentsAgree content (x.long_calls ++ (x.history_calls ++ x.current_calls)) = subst (ContentsAgree content) x.calls_are c in
      let older = back_calls content x.long_calls (x.history_calls ++ x.current_calls) all in
      let a : Puts (put_entries x.current) =
      put_if what.placed (Current slot what.kind (depth_of what.kind s.opened.events)) event x.current x.current_calls w x.current_is (back_calls content x.history_calls x.current_calls older) in
      let b : Puts (put_entries x.history) =
      put_if (goes_on what.placed (history_consumer what.kind) consumers thread) (History slot what.kind (next_of what.kind s.nexts)) event x.history x.history_calls
      (λ q. w (first_of_three what.placed _ _ q)) x.history_is (front_calls content x.history_calls x.current_calls older) in
      let d : Puts (put_entries x.long) =
      put_if (goes_on what.placed (long_consumer what.kind) consumers thread) (Long what.kind) event x.long x.long_calls
      (λ q. w (first_of_three what.placed _ _ q)) x.long_is (front_calls content x.long_calls (x.history_calls ++ x.current_calls) all) in
      let P : Context → List Entry → Type 0 = λ z es. PutBy flags facts content session subject z es in
      let later : Puts (put_entries x.history ++ put_entries x.long) =
      put_then flags facts content session subject context (put_entries x.history) (put_entries x.long) b
      (subst (λ z. P z (put_entries x.long)) (sym (rings_keep subject context (put_entries x.history) (put_ring x.history))) d) in
      subst Puts (sym x.entries_are)
      (put_then flags facts content session subject context (put_entries x.current) (put_entries x.history ++ put_entries x.long) a
      (subst (λ z. P z (put_entries x.history ++ put_entries x.long)) (sym (rings_keep subject context (put_entries x.current) (put_ring x.current))) later))
