-- What is due to rings is paid by what a session puts there, and its histories' puts alone are counted.
use Rattle.std.proofs.Common.{ℕ, ◌≡◌, ◌<◌, ◌≤◌, ◌+◌, ◌*◌, ◌%◌, ◌==◌, ◌&&◌, nat_lt, Bool, true, false, cond, List, [], ◌∷◌, ◌++◌, length, Option, Some, None, eq-eqb, refl, ap, sym, ◌∙◌, subst, zero-add, arith}
use Rattle.std.proofs.lemmas.Bool.{lt-ltb, le-ltb, le-leb, lt-leb, ltb-false, ltb-true, and_from}
use Rattle.pfs_event.specs.declared.entry.Entry.{Entry}
use Rattle.pfs_event.specs.declared.event.Event.{Event}
use Rattle.pfs_event.specs.declared.kind.EventKind.{EventKind}
use Rattle.pfs_event.specs.declared.kind.EventKind.TheVariants.{Wait, Stage, Statement, Transaction}
use Rattle.pfs_event.specs.declared.open.Open.{Open}
use Rattle.pfs_levels.specs.Calls.{Call}
use Rattle.pfs_levels.specs.declared.answers.RingPut.{RingPut}
use Rattle.pfs_levels.specs.declared.answers.RingPut.TheVariants as told
use Rattle.pfs_model.specs.Causes.{long_row}
use Rattle.pfs_model.specs.Contexts.{Context}
use Rattle.pfs_model.specs.Puts.{Due, Puts, PutsLong, due_if, is_paid, ArePaid}
use Rattle.pfs_model.specs.Rings.{ring_number, current_row, history_row, is_history_row, history_put}
use Rattle.pfs_model.specs.SetupFlags.{history_consumer, long_consumer}
use Rattle.pfs_model.specs.declared.changes.Change.{Change}
use Rattle.pfs_model.specs.declared.lines.Subject.{Subject}
use Rattle.pfs_law_session.proofs.RingPuts.{rings_keep, put_ring}
use Rattle.pfs_rings.specs.Offers.{Says, put_entry}
use Rattle.pfs_rings.specs.RingPlaces.{depths}
use Rattle.pfs_rings.specs.declared.puts.Put.{Put}
use Rattle.pfs_rings.specs.declared.rings.Ring.TheVariants.{Current, History, Long}
use Rattle.pfs_session.specs.Ends.{PutsAtEnd, ended_event}
use Rattle.pfs_session.specs.EventPuts.{PutAt, PutLong, PutIf, put_entries, depth_of, goes_on, moved, moved_by}
use Rattle.pfs_session.specs.SessionStates.{State, next_of}
use Rattle.pfs_session.specs.declared.events.Numbers.{Numbers}
use Rattle.pfs_session.specs.declared.nexts.Nexts.{Nexts}
use Rattle.pfs_law_script.proofs.HistoryDues.{Marks, alike_more, more, all_more, more_then}

pub pays_then : (ds ns : List Due) (es fs : List Entry) → ArePaid ds es → ArePaid ns fs → ArePaid (ds ++ ns) (es ++ fs)
pays_then [] ns [] fs a b = b
pays_then [] ns (e ∷ es) fs a b = absurd a
pays_then (d ∷ ds) ns [] fs a b = absurd a
pays_then (d ∷ ds) ns (e ∷ es) fs a b = (a.0, pays_then ds ns es fs a.1 b)

second_false : (a b : Bool) → b ≡ false → (a && b) ≡ false
second_false true b q = q
second_false false b q = refl

-- a put to a place of a thread pays what is due there
place_paid : (row : ℕ) (event : Event) (put : Put) (calls : List Call) → PutAt row None [] event put calls → is_paid (Puts row) (put_entry put) ≡ true
place_paid row event put calls x = by_answer x.answer x.says where
  by_answer : (answer : RingPut) → Says row None answer put → is_paid (Puts row) (put_entry put) ≡ true
  by_answer (told.Done version) e = ap (λ (z : Put). is_paid (Puts row) (put_entry z)) e ∙ eq-eqb row row refl
  by_answer (told.Busy first second) e = ap (λ (z : Put). is_paid (Puts row) (put_entry z)) e ∙ eq-eqb row row refl
  by_answer (told.Late greater version) e = absurd e

-- and one to the long history
long_paid : (kind : ℕ) (event : Event) (put : Put) (calls : List Call) → PutLong kind event put calls → is_paid (PutsLong kind) (put_entry put) ≡ true
long_paid kind event put calls x = by_answer x.at.answer x.at.says where
  by_answer : (answer : RingPut) → Says (long_row kind x.ticket) (Some x.ticket) answer put → is_paid (PutsLong kind) (put_entry put) ≡ true
  by_answer (told.Done version) e = ap (λ (z : Put). is_paid (PutsLong kind) (put_entry z)) e ∙ eq-eqb (long_row kind x.ticket) (long_row kind x.ticket) refl
  by_answer (told.Busy first second) e =
      ap (λ (z : Put). is_paid (PutsLong kind) (put_entry z)) e
      ∙ and_from _ _ (le-leb (long_row kind 0) (long_row kind x.ticket) (omega arith)) (lt-ltb (long_row kind x.ticket) (long_row (kind + 1) 0) (omega arith))
  by_answer (told.Late greater version) e = ap (λ (z : Put). is_paid (PutsLong kind) (put_entry z)) e.0 ∙ eq-eqb (long_row kind x.ticket) (long_row kind x.ticket) refl

none_paid : (put : Option Put) → put ≡ None → ArePaid [] (put_entries put)
none_paid put e = subst (λ (z : Option Put). ArePaid [] (put_entries z)) (sym e) tt

pub current_paid : (due : Bool) (slot : ℕ) (kind : EventKind) (depth : ℕ) (event : Event) (put : Option Put) (calls : List Call) → PutIf due (Current slot kind depth) event put calls
    → ArePaid (due_if due (Puts (current_row slot kind depth))) (put_entries put)
current_paid false slot kind depth event put calls x = none_paid put x.0
current_paid true slot kind depth event None calls x = absurd x
current_paid true slot kind depth event (Some put) calls x = (place_paid (current_row slot kind depth) event put calls x, tt)

pub history_paid : (due : Bool) (slot : ℕ) (kind : EventKind) (place : ℕ) (event : Event) (put : Option Put) (calls : List Call) → PutIf due (History slot kind place) event put calls
    → ArePaid (due_if due (Puts (history_row slot (ring_number kind) place))) (put_entries put)
history_paid false slot kind place event put calls x = none_paid put x.0
history_paid true slot kind place event None calls x = absurd x
history_paid true slot kind place event (Some put) calls x = (place_paid (history_row slot (ring_number kind) place) event put calls x, tt)

pub long_is_paid : (due : Bool) (kind : EventKind) (event : Event) (put : Option Put) (calls : List Call) → PutIf due (Long kind) event put calls
    → ArePaid (due_if due (PutsLong (ring_number kind))) (put_entries put)
long_is_paid false kind event put calls x = none_paid put x.0
long_is_paid true kind event None calls x = absurd x
long_is_paid true kind event (Some put) calls x = (long_paid (ring_number kind) event put calls x, tt)

-- which rows are those of a history
own_history : (slot kind place : ℕ) → is_history_row slot kind (history_row slot kind place) ≡ true
own_history slot kind place =
    and_from _ _ (le-leb (8450 + 56 * slot + 16 + 10 * kind) (history_row slot kind place) (omega arith))
    (lt-ltb (history_row slot kind place) (8450 + 56 * slot + 26 + 10 * kind) (omega arith))

less_by : (n m : ℕ) → m ≤ n → (n ≡ m → ⊥) → m < n
less_by n m most apart = at (nat_lt m n) refl where
  at : (b : Bool) → nat_lt m n ≡ b → m < n
  at true t = ltb-true m n t
  at false t = let least = ltb-false m n t in absurd (apart (omega (arith, most, least)))

other_history : (slot kind other place : ℕ) → (kind ≡ other → ⊥) → is_history_row slot kind (history_row slot other place) ≡ false
other_history slot kind other place apart = by_test (nat_lt kind other) refl where
  by_test : (b : Bool) → nat_lt kind other ≡ b → is_history_row slot kind (history_row slot other place) ≡ false
  by_test true t =
      let less = ltb-true kind other t in
      second_false _ _ (le-ltb (history_row slot other place) (8450 + 56 * slot + 26 + 10 * kind) (omega (arith, less)))
  by_test false t =
      let less : other < kind = less_by kind other (ltb-false kind other t) apart in
      ap (λ z. z && nat_lt (history_row slot other place) (8450 + 56 * slot + 26 + 10 * kind)) (lt-leb (8450 + 56 * slot + 16 + 10 * kind) (history_row slot other place) (omega (arith, less)))

current_low : (slot : ℕ) (kind : EventKind) (depth : ℕ) → depth < depths kind → current_row slot kind depth < 8450 + 56 * slot + 16
current_low slot Wait depth deep = omega (arith, deep)
current_low slot Stage depth deep = omega arith
current_low slot Statement depth deep = omega (arith, deep)
current_low slot Transaction depth deep = omega arith

current_apart : (slot : ℕ) (kind : EventKind) (depth other : ℕ) → depth < depths kind → is_history_row slot other (current_row slot kind depth) ≡ false
current_apart slot kind depth other deep =
    let low = current_low slot kind depth deep in
    ap (λ z. z && nat_lt (current_row slot kind depth) (8450 + 56 * slot + 26 + 10 * other)) (lt-leb (8450 + 56 * slot + 16 + 10 * other) (current_row slot kind depth) (omega (arith, low)))

-- the marks are those of the next places
abbrev pub Fits : Marks → Nexts → Type 0
Fits marks nexts = (kind : EventKind) → marks kind % 10 ≡ next_of kind nexts % 10

-- puts that aren't to a history are none of it
current_counts : (slot : ℕ) (kind : EventKind) (depth : ℕ) (event : Event) (put : Put) (calls : List Call) → depth < depths kind → PutAt (current_row slot kind depth) None [] event put calls
    → (other : ℕ) → history_put slot other (Some slot) (put_entry put) ≡ []
current_counts slot kind depth event put calls deep x other = by_answer x.answer x.says where
  by_answer : (answer : RingPut) → Says (current_row slot kind depth) None answer put → history_put slot other (Some slot) (put_entry put) ≡ []
  by_answer (told.Done version) e =
      ap (λ (z : Put). history_put slot other (Some slot) (put_entry z)) e
      ∙ ap (λ (z : Bool). cond z (record { row = current_row slot kind depth; version = version } ∷ []) []) (second_false (slot == slot) _ (current_apart slot kind depth other deep))
  by_answer (told.Busy first second) e = ap (λ (z : Put). history_put slot other (Some slot) (put_entry z)) e
  by_answer (told.Late greater version) e = absurd e

long_counts : (slot kind : ℕ) (event : Event) (put : Put) (calls : List Call) → PutLong kind event put calls → (other : ℕ) → history_put slot other (Some slot) (put_entry put) ≡ []
long_counts slot kind event put calls x other = by_answer x.at.answer x.at.says where
  by_answer : (answer : RingPut) → Says (long_row kind x.ticket) (Some x.ticket) answer put → history_put slot other (Some slot) (put_entry put) ≡ []
  by_answer (told.Done version) e = ap (λ (z : Put). history_put slot other (Some slot) (put_entry z)) e
  by_answer (told.Busy first second) e = ap (λ (z : Put). history_put slot other (Some slot) (put_entry z)) e
  by_answer (told.Late greater version) e = ap (λ (z : Put). history_put slot other (Some slot) (put_entry z)) e.0

one_up : (m n : ℕ) → m % 10 ≡ n % 10 → (1 + m) % 10 ≡ (n + 1) % 10 % 10
one_up m n e = alike_more 1 m n e ∙ (ap (λ z. z % 10) (behind_one n) ∙ sym (again (n + 1))) where
  behind_one : (n : ℕ) → 1 + n ≡ n + 1
  behind_one n = omega arith

  again : (n : ℕ) → n % 10 % 10 ≡ n % 10
  again n = omega arith

as_before : (m n : ℕ) → m % 10 ≡ n % 10 → (0 + m) % 10 ≡ n % 10
as_before m n e = ap (λ z. z % 10) (zero-add m) ∙ e

-- one that is moves the next place of its kind
steps_up : (slot place : ℕ) (change : Change) (marks : Marks) (nexts : Nexts) → Fits marks nexts → (kind other : EventKind)
    → (length (cond (is_history_row slot (ring_number other) (history_row slot (ring_number kind) place)) (change ∷ []) []) + marks other) % 10 ≡ next_of other (moved kind nexts) % 10
steps_up slot place change marks nexts fits kind other = by_kinds kind other where
  up : (kind : EventKind) → (length (cond (is_history_row slot (ring_number kind) (history_row slot (ring_number kind) place)) (change ∷ []) []) + marks kind) % 10 ≡ (next_of kind nexts + 1) % 10 % 10
  up kind =
      ap (λ (z : Bool). (length (cond z (change ∷ []) []) + marks kind) % 10) (own_history slot (ring_number kind) place) ∙ one_up (marks kind) (next_of kind nexts) (fits kind)

  same : (kind other : EventKind) → (ring_number other ≡ ring_number kind → ⊥)
      → (length (cond (is_history_row slot (ring_number other) (history_row slot (ring_number kind) place)) (change ∷ []) []) + marks other) % 10 ≡ next_of other nexts % 10
  same kind other apart =
      ap (λ (z : Bool). (length (cond z (change ∷ []) []) + marks other) % 10) (other_history slot (ring_number other) (ring_number kind) place apart)
      ∙ as_before (marks other) (next_of other nexts) (fits other)

  by_kinds : (kind other : EventKind)
      → (length (cond (is_history_row slot (ring_number other) (history_row slot (ring_number kind) place)) (change ∷ []) []) + marks other) % 10 ≡ next_of other (moved kind nexts) % 10
  by_kinds Wait Wait = up Wait
  by_kinds Stage Stage = up Stage
  by_kinds Statement Statement = up Statement
  by_kinds Transaction Transaction = up Transaction
  by_kinds Wait Stage = same Wait Stage (λ e. omega (arith, e))
  by_kinds Wait Statement = same Wait Statement (λ e. omega (arith, e))
  by_kinds Wait Transaction = same Wait Transaction (λ e. omega (arith, e))
  by_kinds Stage Wait = same Stage Wait (λ e. omega (arith, e))
  by_kinds Stage Statement = same Stage Statement (λ e. omega (arith, e))
  by_kinds Stage Transaction = same Stage Transaction (λ e. omega (arith, e))
  by_kinds Statement Wait = same Statement Wait (λ e. omega (arith, e))
  by_kinds Statement Stage = same Statement Stage (λ e. omega (arith, e))
  by_kinds Statement Transaction = same Statement Transaction (λ e. omega (arith, e))
  by_kinds Transaction Wait = same Transaction Wait (λ e. omega (arith, e))
  by_kinds Transaction Stage = same Transaction Stage (λ e. omega (arith, e))
  by_kinds Transaction Statement = same Transaction Statement (λ e. omega (arith, e))

history_counts : (slot : ℕ) (kind : EventKind) (place : ℕ) (event : Event) (put : Put) (calls : List Call) (marks : Marks) (nexts : Nexts) → PutAt (history_row slot (ring_number kind) place) None [] event put calls
    → Fits marks nexts → (other : EventKind)
    → (length (history_put slot (ring_number other) (Some slot) (put_entry put)) + marks other) % 10 ≡ next_of other (moved_by kind (Some put) nexts) % 10
history_counts slot kind place event put calls marks nexts x fits other = by_answer x.answer x.says where
  by_answer : (answer : RingPut) → Says (history_row slot (ring_number kind) place) None answer put
      → (length (history_put slot (ring_number other) (Some slot) (put_entry put)) + marks other) % 10 ≡ next_of other (moved_by kind (Some put) nexts) % 10
  by_answer (told.Done version) e =
      let change : Change = record { row = history_row slot (ring_number kind) place; version = version } in
      subst (λ (z : Put). (length (history_put slot (ring_number other) (Some slot) (put_entry z)) + marks other) % 10 ≡ next_of other (moved_by kind (Some z) nexts) % 10) (sym e)
      (ap (λ (b : Bool). (length (cond (b && is_history_row slot (ring_number other) (history_row slot (ring_number kind) place)) (change ∷ []) []) + marks other) % 10) (eq-eqb slot slot refl)
      ∙ steps_up slot place change marks nexts fits kind other)
  by_answer (told.Busy first second) e =
      subst (λ (z : Put). (length (history_put slot (ring_number other) (Some slot) (put_entry z)) + marks other) % 10 ≡ next_of other (moved_by kind (Some z) nexts) % 10) (sym e)
      (as_before (marks other) (next_of other nexts) (fits other))
  by_answer (told.Late greater version) e = absurd e

-- entries of a session in its slot
module _ (home : Option ℕ) (subject : Option Subject) (context : Context) (slot : ℕ) (at_home : home ≡ Some slot) (here : context.slot ≡ Some slot) where
  more_is : (e : Entry) (marks : Marks) (kind : EventKind) → more home context e marks kind ≡ length (history_put slot (ring_number kind) (Some slot) e) + marks kind
  more_is e marks kind =
      ap (λ (z : Option ℕ). more z context e marks kind) at_home ∙ ap (λ (z : Option ℕ). length (history_put slot (ring_number kind) z e) + marks kind) here

  abbrev Behind : Option Put → Marks → Marks
  Behind put marks = all_more home subject context (put_entries put) marks

  none_fits : (put : Option Put) (marks : Marks) (nexts : Nexts) → put ≡ None → Fits marks nexts → Fits (Behind put marks) nexts
  none_fits put marks nexts e fits = subst (λ (z : Option Put). Fits (Behind z marks) nexts) (sym e) fits

  nothing_fits : (put : Put) (marks : Marks) (nexts : Nexts) → ((other : ℕ) → history_put slot other (Some slot) (put_entry put) ≡ []) → Fits marks nexts → Fits (Behind (Some put) marks) nexts
  nothing_fits put marks nexts none fits = λ kind.
      ap (λ n. n % 10) (more_is (put_entry put) marks kind ∙ ap (λ (z : List Change). length z + marks kind) (none (ring_number kind)))
      ∙ as_before (marks kind) (next_of kind nexts) (fits kind)

  pub current_fits : (due : Bool) (kind : EventKind) (depth : ℕ) (event : Event) (put : Option Put) (calls : List Call) (marks : Marks) (nexts : Nexts) → (due ≡ true → depth < depths kind)
      → PutIf due (Current slot kind depth) event put calls → Fits marks nexts → Fits (Behind put marks) nexts
  current_fits false kind depth event put calls marks nexts deep x fits = none_fits put marks nexts x.0 fits
  current_fits true kind depth event None calls marks nexts deep x fits = absurd x
  current_fits true kind depth event (Some put) calls marks nexts deep x fits = nothing_fits put marks nexts (current_counts slot kind depth event put calls (deep refl) x) fits

  history_fits : (due : Bool) (kind : EventKind) (place : ℕ) (event : Event) (put : Option Put) (calls : List Call) (marks : Marks) (nexts : Nexts)
      → PutIf due (History slot kind place) event put calls → Fits marks nexts → Fits (Behind put marks) (moved_by kind put nexts)
  history_fits false kind place event put calls marks nexts x fits = subst (λ (z : Option Put). Fits (Behind z marks) (moved_by kind z nexts)) (sym x.0) fits
  history_fits true kind place event None calls marks nexts x fits = absurd x
  history_fits true kind place event (Some put) calls marks nexts x fits = λ other.
      ap (λ n. n % 10) (more_is (put_entry put) marks other) ∙ history_counts slot kind place event put calls marks nexts x fits other

  long_fits : (due : Bool) (kind : EventKind) (event : Event) (put : Option Put) (calls : List Call) (marks : Marks) (nexts : Nexts) → PutIf due (Long kind) event put calls → Fits marks nexts
      → Fits (Behind put marks) nexts
  long_fits false kind event put calls marks nexts x fits = none_fits put marks nexts x.0 fits
  long_fits true kind event None calls marks nexts x fits = absurd x
  long_fits true kind event (Some put) calls marks nexts x fits = nothing_fits put marks nexts (long_counts slot (ring_number kind) event put calls x) fits

  behind_put : (put : Option Put) (es : List Entry) (marks : Marks) → all_more home subject context (put_entries put ++ es) marks ≡ all_more home subject context es (Behind put marks)
  behind_put put es marks =
      more_then home subject context (put_entries put) es marks ∙ ap (λ (z : Context). all_more home subject z es (Behind put marks)) (rings_keep subject context (put_entries put) (put_ring put))

  pub rings_fit : (s : State) (what : Open) (numbers : Numbers) (consumers thread : ℕ) (calls : List Call) (entries : List Entry) (after : State) (marks : Marks)
      → (what.placed ≡ true → depth_of what.kind s.opened.events < depths what.kind) → PutsAtEnd s slot what numbers consumers thread calls entries after → Fits marks s.nexts
      → Fits (all_more home subject context entries marks) after.nexts
  rings_fit s what numbers consumers thread calls entries after marks deep x fits =
      let event : Event = ended_event what s.drawn s.clock numbers in
      let one : Marks = Behind x.current marks in
      let two : Marks = Behind x.history one in
      let three : Marks = Behind x.long two in
      let first : Fits one s.nexts = current_fits what.placed what.kind (depth_of what.kind s.opened.events) event x.current x.current_calls marks s.nexts deep x.current_is fits in
      let second : Fits two (moved_by what.kind x.history s.nexts) =
      history_fits (goes_on what.placed (history_consumer what.kind) consumers thread) what.kind (next_of what.kind s.nexts) event x.history x.history_calls one s.nexts x.history_is first in
      let third : Fits three (moved_by what.kind x.history s.nexts) =
      long_fits (goes_on what.placed (long_consumer what.kind) consumers thread) what.kind event x.long x.long_calls two (moved_by what.kind x.history s.nexts) x.long_is second in
      let whole : all_more home subject context entries marks ≡ three =
      ap (λ (z : List Entry). all_more home subject context z marks) x.entries_are
      ∙ (behind_put x.current (put_entries x.history ++ put_entries x.long) marks ∙ behind_put x.history (put_entries x.long) one) in
      subst (λ (z : Marks). Fits z after.nexts) (sym whole)
      (subst (λ (z : Nexts). Fits three z) (sym (ap (λ (z : State). z.nexts) x.after_is)) third)
