-- A session that holds nothing, and of which nothing was held: it writes no settling, and still holds nothing.
use Rattle.std.proofs.Common.{ℕ, zero, suc, ◌≡◌, ◌+◌, Bool, true, false, List, [], ◌∷◌, ◌++◌, Option, Some, None, slice_set, refl, ap, sym, ◌∙◌, subst}
use Rattle.std.specs.Prelude.{replicate}
use Rattle.pfs_admin.specs.ConnectionAsks.{work_of_connect, work_of_quit, connect_entry}
use Rattle.pfs_admin.specs.AdministrationStates.{seat_at}
use Rattle.pfs_containers.specs.declared.containers.Seated.{Seated}
use Rattle.pfs_event.specs.declared.entry.Entry.{Entry}
use Rattle.pfs_event.specs.declared.entry.Entry.TheVariants as says
use Rattle.pfs_event.specs.declared.open.Open.{Open}
use Rattle.pfs_event.specs.declared.verdict.Verdict.{Verdict}
use Rattle.pfs_event.specs.Verdicts.{is_let_through}
use Rattle.pfs_levels.specs.Calls.{Call, Adds, Rings, Reads, Loads, Draws, Takes, Puts, Frees, Sets, Enters, Leaves, Meets}
use Rattle.pfs_levels.specs.PlainStore.{AllAnswer}
use Rattle.pfs_levels.specs.declared.answers.Added.{Added}
use Rattle.pfs_levels.specs.declared.answers.Added.TheVariants.{Counted, Held}
use Rattle.pfs_session.specs.Ends.{EndsIn, EndsThrough, EndsAdded, EndsCounted, PutsAtEnd, DigestsIn, added_entry, still_held, cell_number, digest_number, with_held, amount_of}
use Rattle.pfs_session.specs.Settlements.{Settles, Paid, owed_in, owed_by, owed_by_state, paid_calls, paid_entries, settle_head}
use Rattle.pfs_session.specs.Starts.{start_entry}
use Rattle.pfs_session.specs.SessionStates.{State, Owed, nothing_held, held_row, held_at}
use Rattle.pfs_session.specs.Turns.{Step, StartsEvent, EndsEvent, Spends, SettlesHeld, Connects, Quits, Truncates, Changes, Inquires, Does}
use Rattle.pfs_session.specs.Inquiries.{Inquiry, Looks, Remarks, inquiry_calls, inquiry_entry}
use Rattle.pfs_session.specs.declared.events.Numbers.{Numbers}
use Rattle.pfs_session.specs.declared.remarks.Remark.TheVariants as remarks
use Rattle.pfs_session.specs.declared.setup.Setup.{Setup}
use Rattle.pfs_stat.specs.declared.Stat.{Stat}
use Rattle.pfs_session.proofs.HeldAmounts.{nothing_owed}
use Rattle.std.specs.Prelude.{slice_index}
use Rattle.pfs_event.specs.declared.event.Event.{Event}
use Rattle.pfs_levels.specs.declared.answers.RingPut.{RingPut}
use Rattle.pfs_levels.specs.declared.answers.RingPut.TheVariants as told
use Rattle.pfs_levels.specs.declared.answers.RingPut.TheVariants.{Done, Busy, Late}
use Rattle.pfs_model.specs.Causes.{long_row}
use Rattle.pfs_model.specs.Rings.{ring_number, current_row, history_row}
use Rattle.pfs_rows.specs.declared.table.Reading.TheVariants as readings
use Rattle.pfs_rows.specs.declared.table.Seen.TheVariants as seen
use Rattle.pfs_rings.specs.Offers.{Says, offered}
use Rattle.pfs_rings.specs.declared.puts.Put.{Put}
use Rattle.pfs_rings.specs.declared.rings.Ring.{Ring}
use Rattle.pfs_rings.specs.declared.rings.Ring.TheVariants.{Current, History, Long}
use Rattle.pfs_session.specs.EventPuts.{PutAt, PutIf, PutIn, put_entries}
use Rattle.pfs_law_plain.proofs.TicketDraws.{Pending, pending, ArePaired, never_late}
use Rattle.pfs_law_plain.proofs.InnerEntries.{IsInner, AreInner}
use Rattle.pfs_law_plain.proofs.StepNotes.{IsActed, acted, truncated_acted, changed_acted}

-- an addition was counted, a put was made, and a row that was read wasn't busy
abbrev pub IsAdded : Call → Type 0
IsAdded (Adds row amount (Counted r version)) = Unit {0}
IsAdded (Adds row amount (Held r first second)) = ⊥
IsAdded (Rings row content (Done version)) = Unit {0}
IsAdded (Rings row content (Busy first second)) = ⊥
IsAdded (Rings row content (Late greater version)) = ⊥
IsAdded (Reads row (seen.Whole version content)) = Unit {0}
IsAdded (Reads row (seen.Free word)) = Unit {0}
IsAdded (Reads row (seen.Busy first second)) = ⊥
IsAdded (Loads at version found) = Unit {0}
IsAdded (Draws kind ticket) = Unit {0}
IsAdded (Takes row version found) = Unit {0}
IsAdded (Puts row content version) = Unit {0}
IsAdded (Frees row version) = Unit {0}
IsAdded (Sets at found version) = Unit {0}
IsAdded (Enters label labels) = Unit {0}
IsAdded Leaves = Unit {0}
IsAdded (Meets versions) = Unit {0}

abbrev pub AreAdded : List Call → Type 0
AreAdded [] = Unit {0}
AreAdded (call ∷ calls) = IsAdded call × AreAdded calls

pub added_front : (xs ys : List Call) → AreAdded (xs ++ ys) → AreAdded xs
added_front [] ys a = tt
added_front (x ∷ xs) ys a = (a.0, added_front xs ys a.1)

pub added_back : (xs ys : List Call) → AreAdded (xs ++ ys) → AreAdded ys
added_back [] ys a = a
added_back (x ∷ xs) ys a = added_back xs ys a.1

pub plain_added : (flags : List ℕ) (p : Option Pending) (calls : List Call) → AllAnswer flags calls → ArePaired p calls → AreAdded calls
plain_added flags None [] a q = tt
plain_added flags (Some p) [] a q = absurd q
plain_added flags None (Adds row amount (Counted r v) ∷ calls) a q = (tt, plain_added flags None calls a.1 q)
plain_added flags None (Adds row amount (Held r v w) ∷ calls) a q = absurd a.0
plain_added flags None (Rings row content (Done v) ∷ calls) a q = (tt, plain_added flags (pending row (slice_index content 15)) calls a.1 q)
plain_added flags None (Rings row content (Busy v w) ∷ calls) a q = absurd a.0
plain_added flags None (Rings row content (Late t v) ∷ calls) a q = absurd (never_late flags row t v content calls a q)
plain_added flags None (Draws kind ticket ∷ calls) a q = absurd q
plain_added flags None (Puts row content version ∷ calls) a q = (tt, plain_added flags None calls a.1 q.1)
plain_added flags None (Reads row (seen.Whole v content) ∷ calls) a q = (tt, plain_added flags None calls a.1 q)
plain_added flags None (Reads row (seen.Free w) ∷ calls) a q = (tt, plain_added flags None calls a.1 q)
plain_added flags None (Reads row (seen.Busy v w) ∷ calls) a q = absurd a.0
plain_added flags None (Loads at version found ∷ calls) a q = (tt, plain_added flags None calls a.1 q)
plain_added flags None (Takes row version found ∷ calls) a q = (tt, plain_added flags None calls a.1 q)
plain_added flags None (Frees row version ∷ calls) a q = (tt, plain_added flags None calls a.1 q)
plain_added flags None (Sets at to version ∷ calls) a q = (tt, plain_added flags None calls a.1 q)
plain_added flags None (Enters label labels ∷ calls) a q = (tt, plain_added flags None calls a.1 q)
plain_added flags None (Leaves ∷ calls) a q = (tt, plain_added flags None calls a.1 q)
plain_added flags None (Meets versions ∷ calls) a q = (tt, plain_added flags None calls a.1 q)
plain_added flags (Some p) (Draws kind ticket ∷ calls) a q = (tt, plain_added flags None calls a.1 q.2)
plain_added flags (Some p) (Adds row amount answer ∷ calls) a q = absurd q
plain_added flags (Some p) (Rings row content answer ∷ calls) a q = absurd q
plain_added flags (Some p) (Reads row found ∷ calls) a q = absurd q
plain_added flags (Some p) (Loads at version found ∷ calls) a q = absurd q
plain_added flags (Some p) (Takes row version found ∷ calls) a q = absurd q
plain_added flags (Some p) (Puts row content version ∷ calls) a q = absurd q
plain_added flags (Some p) (Frees row version ∷ calls) a q = absurd q
plain_added flags (Some p) (Sets at to version ∷ calls) a q = absurd q
plain_added flags (Some p) (Enters label labels ∷ calls) a q = absurd q
plain_added flags (Some p) (Leaves ∷ calls) a q = absurd q
plain_added flags (Some p) (Meets versions ∷ calls) a q = absurd q

-- an entry of a session of which nothing was held
abbrev pub IsQuiet : Entry → Type 0
IsQuiet (says.Connect action thread account user host) = Unit {0}
IsQuiet (says.Act action) = Unit {0}
IsQuiet (says.Start event verdict consumers thread class table) = Unit {0}
IsQuiet (says.End event last consumers thread) = Unit {0}
IsQuiet (says.Add row version) = Unit {0}
IsQuiet (says.Ring row version) = Unit {0}
IsQuiet (says.Long row version ticket) = Unit {0}
IsQuiet (says.Take row version) = Unit {0}
IsQuiet (says.Give row version from) = Unit {0}
IsQuiet (says.Tag row version) = Unit {0}
IsQuiet (says.Free row version) = Unit {0}
IsQuiet (says.Set word version flags) = Unit {0}
IsQuiet (says.Reply number) = Unit {0}
IsQuiet (says.Error number) = Unit {0}
IsQuiet says.Query = Unit {0}
IsQuiet (says.Seen row version) = Unit {0}
IsQuiet (says.Vacant row) = Unit {0}
IsQuiet (says.Saw word version) = Unit {0}
IsQuiet (says.Rows number) = Unit {0}
IsQuiet entry = ⊥

abbrev pub AreQuiet : List Entry → Type 0
AreQuiet [] = Unit {0}
AreQuiet (e ∷ es) = IsQuiet e × AreQuiet es

pub quiet_then : (xs ys : List Entry) → AreQuiet xs → AreQuiet ys → AreQuiet (xs ++ ys)
quiet_then [] ys a b = b
quiet_then (x ∷ xs) ys a b = (a.0, quiet_then xs ys a.1 b)

inner_quiet : (e : Entry) → IsInner e → IsQuiet e
inner_quiet (says.Add row version) i = tt
inner_quiet (says.Take row version) i = tt
inner_quiet (says.Give row version from) i = tt
inner_quiet (says.Tag row version) i = tt
inner_quiet (says.Free row version) i = tt
inner_quiet (says.Set word version flags) i = tt
inner_quiet (says.Reply number) i = tt
inner_quiet (says.Error number) i = tt
inner_quiet _ i = absurd i

inner_quiets : (es : List Entry) → AreInner es → AreQuiet es
inner_quiets [] i = tt
inner_quiets (e ∷ es) i = (inner_quiet e i.0, inner_quiets es i.1)

pub record IsQuietStep (entries : List Entry) (after : State) : Type 0 where
  pub quiet : AreQuiet entries
  pub held : after.held ≡ nothing_held

quiet_as : (entries es : List Entry) (after a : State) → entries ≡ es → after ≡ a → IsQuietStep es a → IsQuietStep entries after
quiet_as entries es after a p q t = subst (λ z. IsQuietStep z after) (sym p) (subst (λ z. IsQuietStep es z) (sym q) t)

set_same : {A : Type 0} (x : A) (n i : ℕ) → slice_set (replicate n x) i x ≡ replicate n x
set_same x zero i = refl
set_same x (suc n) zero = refl
set_same x (suc n) (suc i) = ap (λ z. x ∷ z) (set_same x n i)

abbrev pub nobody : Option Stat
nobody = None

start_quiet : (v : Verdict) (n : ℕ) (seen : Option Setup) → IsQuiet (start_entry v n seen)
start_quiet v n None = tt
start_quiet v n (Some seen) = tt

added_quiet : (row : ℕ) (amount : Stat) (answer : Added) → IsAdded (Adds row amount answer) → IsQuiet (added_entry answer)
added_quiet row amount (Counted r v) a = tt
added_quiet row amount (Held r v w) a = absurd a

counted_none : (row : ℕ) (amount : Stat) (answer : Added) → IsAdded (Adds row amount answer) → still_held amount answer ≡ None
counted_none row amount (Counted r v) a = refl
counted_none row amount (Held r v w) a = absurd a

counted_quiet : (s : State) (slot : ℕ) (what : Open) (others : List Open) (numbers : Numbers) (calls : List Call) (entries : List Entry) (after : State) → s.held ≡ nothing_held → AreAdded calls
    → EndsCounted s slot what others numbers calls entries after → IsQuietStep entries after
counted_quiet s slot what others numbers calls entries after h added e =
    let row = held_row slot (cell_number what) in
    let amount = with_held (held_at s.held (cell_number what)) (amount_of what s.clock numbers) in
    let one = (subst AreAdded e.calls_are added).0 in
    quiet_as entries _ after _ e.entries_are e.after_is (record {
      quiet = (tt, (added_quiet row amount e.answer one, tt));
      held = ap (λ z. slice_set s.held (cell_number what) z) (counted_none row amount e.answer one) ∙ (ap (λ z. slice_set z (cell_number what) None) h ∙ set_same nobody 193 (cell_number what));
    })

digest_quiet : (b : Bool) (s : State) (slot : ℕ) (what : Open) (numbers : Numbers) (calls : List Call) (entries : List Entry) (after : State) → s.held ≡ nothing_held → AreAdded calls
    → DigestsIn b s slot what numbers calls entries after → IsQuietStep entries after
digest_quiet false s slot what numbers calls entries after h added d = quiet_as entries _ after _ d.entries_are d.after_is (record { quiet = tt; held = h })
digest_quiet true s slot what numbers calls entries after h added d =
    let row = held_row slot (digest_number what) in
    let amount = with_held (held_at s.held (digest_number what)) (amount_of what s.clock numbers) in
    let one = (subst AreAdded d.calls_are added).0 in
    quiet_as entries _ after _ d.entries_are d.after_is (record {
      quiet = (added_quiet row amount d.answer one, tt);
      held = ap (λ z. slice_set s.held (digest_number what) z) (counted_none row amount d.answer one) ∙ (ap (λ z. slice_set z (digest_number what) None) h ∙ set_same nobody 193 (digest_number what));
    })

-- puts that were made
put_quiet : (put : Option Put) (calls : List Call) (row : ℕ) (ticket : Option ℕ) (drawn : List Call) (event : Event) (one : Put) → put ≡ Some one → PutAt row ticket drawn event one calls → AreAdded calls
    → AreQuiet (put_entries put)
put_quiet put calls row ticket drawn event one e x added = by_answer ticket x.answer x.says (subst AreAdded x.calls_are added).0 where
  by_answer : (ticket : Option ℕ) (answer : RingPut) → Says row ticket answer one → IsAdded (Rings row (offered event ticket) answer) → AreQuiet (put_entries put)
  by_answer None (told.Done version) s a = subst (λ z. AreQuiet (put_entries z)) (sym (e ∙ ap Some s)) (tt, tt)
  by_answer (Some ticket) (told.Done version) s a = subst (λ z. AreQuiet (put_entries z)) (sym (e ∙ ap Some s)) (tt, tt)
  by_answer ticket (told.Busy first second) s a = absurd a
  by_answer ticket (told.Late greater version) s a = absurd a

none_quiet : (put : Option Put) → put ≡ None → AreQuiet (put_entries put)
none_quiet put e = subst (λ z. AreQuiet (put_entries z)) (sym e) tt

put_if_quiet : (due : Bool) (ring : Ring) (event : Event) (put : Option Put) (calls : List Call) → PutIf due ring event put calls → AreAdded calls → AreQuiet (put_entries put)
put_if_quiet false ring event put calls x a = none_quiet put x.0
put_if_quiet true ring event None calls x a = tt
put_if_quiet true (Current thread kind depth) event (Some put) calls x a = put_quiet (Some put) calls (current_row thread kind depth) None [] event put refl x a
put_if_quiet true (History thread kind place) event (Some put) calls x a = put_quiet (Some put) calls (history_row thread (ring_number kind) place) None [] event put refl x a
put_if_quiet true (Long kind) event (Some put) calls x a = put_quiet (Some put) calls (long_row (ring_number kind) x.ticket) (Some x.ticket) (Draws (ring_number kind) x.ticket ∷ []) event put refl x.at a

put_in_quiet : (slot : Option ℕ) (what : Open) (depth : ℕ) (event : Event) (put : Option Put) (calls : List Call) → PutIn slot what depth event put calls → AreAdded calls → AreQuiet (put_entries put)
put_in_quiet None what depth event put calls x a = none_quiet put x.0
put_in_quiet (Some slot) what depth event put calls x a = put_if_quiet what.placed (Current slot what.kind depth) event put calls x a

puts_quiet : (s : State) (slot : ℕ) (what : Open) (numbers : Numbers) (consumers thread : ℕ) (calls : List Call) (entries : List Entry) (after : State) → s.held ≡ nothing_held → AreAdded calls
    → PutsAtEnd s slot what numbers consumers thread calls entries after → IsQuietStep entries after
puts_quiet s slot what numbers consumers thread calls entries after h added x =
    let all = subst AreAdded x.calls_are added in
    let older = added_back x.long_calls (x.history_calls ++ x.current_calls) all in
    quiet_as entries _ after _ x.entries_are x.after_is (record {
      quiet = quiet_then (put_entries x.current) (put_entries x.history ++ put_entries x.long)
          (put_if_quiet _ _ _ x.current x.current_calls x.current_is (added_back x.history_calls x.current_calls older))
          (quiet_then (put_entries x.history) (put_entries x.long) (put_if_quiet _ _ _ x.history x.history_calls x.history_is (added_front x.history_calls x.current_calls older))
          (put_if_quiet _ _ _ x.long x.long_calls x.long_is (added_front x.long_calls (x.history_calls ++ x.current_calls) all)));
      held = h;
    })

ended_quiet : (s : State) (slot : ℕ) (what : Open) (others : List Open) (numbers : Numbers) (calls : List Call) (entries : List Entry) (after : State) → s.held ≡ nothing_held → AreAdded calls
    → EndsAdded s slot what others numbers calls entries after → IsQuietStep entries after
ended_quiet s slot what others numbers calls entries after h added e =
    let both = subst AreAdded e.calls_are added in
    let first : IsQuietStep e.counted_entries e.between =
    counted_quiet s slot what others numbers e.counted_calls e.counted_entries e.between h (added_back e.digested_calls e.counted_calls both) e.counts in
    let second : IsQuietStep e.digested_entries after =
    digest_quiet what.digested e.between slot what numbers e.digested_calls e.digested_entries after first.held (added_front e.digested_calls e.counted_calls both) e.digests in
    record { quiet = subst AreQuiet (sym e.entries_are) (quiet_then e.counted_entries e.digested_entries first.quiet second.quiet); held = second.held }

through_quiet : (s : State) (slot : ℕ) (what : Open) (others : List Open) (numbers : Numbers) (calls : List Call) (entries : List Entry) (after : State) → s.held ≡ nothing_held → AreAdded calls
    → EndsThrough s slot what others numbers calls entries after → IsQuietStep entries after
through_quiet s slot what others numbers calls entries after h added e =
    let both = subst AreAdded e.calls_are added in
    let first : IsQuietStep e.added_entries e.among =
    ended_quiet s slot what others numbers e.added_calls e.added_entries e.among h (added_back e.ring_calls e.added_calls both) e.adds in
    let second : IsQuietStep e.ring_entries after =
    puts_quiet e.among slot what numbers _ _ e.ring_calls e.ring_entries after first.held (added_front e.ring_calls e.added_calls both) e.puts in
    record { quiet = subst AreQuiet (sym e.entries_are) (quiet_then e.added_entries e.ring_entries first.quiet second.quiet); held = second.held }

ends_quiet : (s : State) (slot : Option ℕ) (b : Bool) (what : Open) (others : List Open) (numbers : Numbers) (calls : List Call) (entries : List Entry) (after : State) → s.held ≡ nothing_held → AreAdded calls
    → EndsIn s slot b what others numbers calls entries after → IsQuietStep entries after
ends_quiet s slot false what others numbers calls entries after h added e = quiet_as entries _ after _ e.entries_are e.after_is (record { quiet = (tt, tt); held = h })
ends_quiet s None true what others numbers calls entries after h added e = absurd e
ends_quiet s (Some slot) true what others numbers calls entries after h added e = through_quiet s slot what others numbers calls entries after h added e

none_paid : (ps : List Paid) → owed_by ps ≡ [] → ps ≡ []
none_paid [] e = refl
none_paid (p ∷ ps) e = absurd (snoc (owed_by ps) p.owed e) where
  snoc : (xs : List Owed) (x : Owed) → (xs ++ x ∷ []) ≡ [] → ⊥
  snoc [] x e = absurd (cc)
  snoc (y ∷ ys) x e = absurd (cc)

-- nothing is settled
pub record IsNoStep (calls : List Call) (entries : List Entry) (after : State) : Type 0 where
  pub calls_are : calls ≡ []
  pub entries_are : entries ≡ []
  pub held : after.held ≡ nothing_held

pub settles_nothing : (s : State) (calls : List Call) (entries : List Entry) (after : State) → s.held ≡ nothing_held → Settles s calls entries after → IsNoStep calls entries after
settles_nothing s calls entries after h e =
    let none : owed_by_state s ≡ [] = ap (λ z. owed_in s.place.thread z) h ∙ nothing_owed s.place.thread in
    let paid : e.paid ≡ [] = none_paid e.paid (e.owed_are ∙ none) in
    record {
      calls_are = e.calls_are ∙ ap paid_calls paid;
      entries_are = e.entries_are ∙ (ap (λ z. settle_head z ++ paid_entries e.paid) none ∙ ap paid_entries paid);
      held = ap (λ (z : State). z.held) e.after_is;
    }

connect_quiet : (action : ℕ) (seat : Option Seated) → IsQuiet (connect_entry action seat)
connect_quiet action None = tt
connect_quiet action (Some seat) = tt

acted_quiet : (head : Entry) (calls : List Call) (entries : List Entry) → IsQuiet head → IsActed head calls entries → AreQuiet entries
acted_quiet head calls entries q a = subst AreQuiet (sym a.entries_are) (q, inner_quiets a.rest a.same.inner)

inquiry_quiet : (what : Inquiry) → AreAdded (inquiry_calls what) → IsQuiet (inquiry_entry what)
inquiry_quiet (Looks (readings.Slot row (seen.Whole version content))) a = tt
inquiry_quiet (Looks (readings.Slot row (seen.Free word))) a = tt
inquiry_quiet (Looks (readings.Slot row (seen.Busy first second))) a = absurd a.0
inquiry_quiet (Looks (readings.Word word version flags)) a = tt
inquiry_quiet (Remarks remarks.Query) a = tt
inquiry_quiet (Remarks (remarks.Rows count)) a = tt
inquiry_quiet (Remarks (remarks.Refused error)) a = tt

pub does_quiet : (s : State) (step : Step) (calls : List Call) (entries : List Entry) (after : State) → s.held ≡ nothing_held → AreAdded calls → Does s step calls entries after → IsQuietStep entries after
does_quiet s (StartsEvent what) calls entries after h added d =
    let b = d.begins in
    let newer = added_front d.put_calls d.begun_calls (subst AreAdded d.calls_are added) in
    quiet_as entries _ after _ (d.entries_are ∙ ap (λ z. z ++ put_entries d.current) b.entries_are) b.after_is
    (record { quiet = (start_quiet _ _ b.seen, put_in_quiet s.place.thread b.what _ b.what.event d.current d.put_calls d.put_is newer); held = h })
does_quiet s (EndsEvent numbers) calls entries after h added d =
    ends_quiet s s.place.thread (is_let_through d.what.verdict) d.what d.others numbers calls entries after h added d.ends
does_quiet s (Spends time) calls entries after h added d = quiet_as entries _ after _ d.1 d.2 (record { quiet = tt; held = h })
does_quiet s SettlesHeld calls entries after h added d =
    let n = settles_nothing s calls entries after h d in
    record { quiet = subst AreQuiet (sym n.entries_are) tt; held = n.held }
does_quiet s (Connects admin user host) calls entries after h added d = record {
  quiet = acted_quiet (connect_entry (admin.actions + 1) (seat_at admin s.number user host)) calls entries (connect_quiet (admin.actions + 1) (seat_at admin s.number user host))
      (acted (work_of_connect admin s.number user host) admin.words (connect_entry (admin.actions + 1) (seat_at admin s.number user host)) calls entries d.0);
  held = ap (λ (z : State). z.held) d.1 ∙ h;
}
does_quiet s (Quits admin) calls entries after h added d = record {
  quiet = acted_quiet (says.Act (admin.actions + 1)) calls entries tt (acted (work_of_quit admin s.number) admin.words (says.Act (admin.actions + 1)) calls entries d.0);
  held = ap (λ (z : State). z.held) d.1 ∙ h;
}
does_quiet s (Truncates admin what) calls entries after h added d = record {
  quiet = acted_quiet (says.Act (admin.actions + 1)) calls entries tt (truncated_acted s admin what calls entries after d);
  held = ap (λ (z : State). z.held) d.after_is ∙ h;
}
does_quiet s (Changes admin what) calls entries after h added d = record {
  quiet = acted_quiet (says.Act (admin.actions + 1)) calls entries tt (changed_acted s admin what calls entries after d);
  held = ap (λ (z : State). z.held) d.after_is ∙ h;
}
does_quiet s (Inquires what) calls entries after h added d =
    quiet_as entries _ after _ d.entries_are d.after_is (record { quiet = (inquiry_quiet what (subst AreAdded d.calls_are added), tt); held = h })
