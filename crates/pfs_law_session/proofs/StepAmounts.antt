-- What each step of a session adds is what its journal brings there.
use Rattle.std.proofs.Common.{ℕ, ◌≡◌, ◌<◌, ◌+◌, ◌-◌, ◌%◌, ◌^◌, ◌&&◌, Bool, true, false, is_some, List, [], ◌∷◌, ◌++◌, Option, Some, None, length, map, drop, slice_set, refl, ap, sym, ◌∙◌, subst}
use Rattle.std.specs.Prelude.{if◌then◌else◌, ◌==◌, IfSome}
use Rattle.std.proofs.lemmas.Bool.{eqb-true, false≢true}
use Rattle.std.proofs.lemmas.List.{append-nil, length-set}
use Rattle.pfs_lemmas.proofs.Bools.{and_first}
use Rattle.pfs_admin.specs.ConnectionAsks.{connect_entry}
use Rattle.pfs_containers.specs.declared.containers.Seated.{Seated}
use Rattle.pfs_event.specs.Verdicts.{is_let_through}
use Rattle.pfs_event.specs.declared.entry.Entry.{Entry}
use Rattle.pfs_event.specs.declared.entry.Entry.TheVariants as says
use Rattle.pfs_event.specs.declared.kind.EventKind.{EventKind}
use Rattle.pfs_event.specs.declared.open.Open.{Open}
use Rattle.pfs_levels.specs.Calls.{Call, Adds, row_in}
use Rattle.pfs_levels.specs.declared.answers.Added.{Added}
use Rattle.pfs_levels.specs.declared.answers.Added.TheVariants.{Counted, Held}
use Rattle.pfs_model.specs.Contents.{Facts, amount_by}
use Rattle.pfs_model.specs.Contexts.{Context, Waiting, noted, turned, after_entries, brought, held_for, held_else, own_event, own_wait, first_of}
use Rattle.pfs_model.specs.SetupFlags.{is_timed, is_digested}
use Rattle.pfs_model.specs.declared.lines.Opened.{Opened}
use Rattle.pfs_model.specs.declared.lines.Subject.{Subject}
use Rattle.pfs_session.specs.Ends.{Ends, EndsIn, EndsThrough, EndsAdded, EndsSilently, DigestsIn, ended_event, cell_number, digest_number, added_entry, still_held, with_held, amount_of}
use Rattle.pfs_session.specs.Settlements.{owed_in, owed_by_state}
use Rattle.pfs_event.specs.declared.verdict.Verdict.{Verdict}
use Rattle.pfs_event.specs.declared.verdict.Verdict.TheVariants.{Attributed}
use Rattle.pfs_model.specs.Contents.{or_zero, written_at, written_of}
use Rattle.pfs_model.specs.SetupFlags.{is_attributed}
use Rattle.pfs_session.proofs.EndFrames.{added_leaves, without_one}
use Rattle.pfs_session.specs.EventPuts.{is_placed_by, put_entries}
use Rattle.pfs_session.specs.Starts.{Starts, Begins, IsLoaded, load_calls, is_timed_by, started, verdict_in, if_through}
use Rattle.pfs_session.specs.Starts.{link_of as started_link}
use Rattle.pfs_session.specs.declared.opening.Outer.{Outer}
use Rattle.pfs_session.specs.declared.setup.Setup.{Setup}
use Rattle.pfs_session.specs.SessionStates.{State, held_row, held_at}
use Rattle.pfs_session.specs.Turns.{StartsEvent, EndsEvent}
use Rattle.pfs_session.specs.declared.events.Numbers.{Numbers}
use Rattle.pfs_stat.specs.Stat.{stat_of, MergeIsMonoid}
use Rattle.pfs_stat.specs.declared.Stat.{Stat}
use Rattle.pfs_law_session.proofs.ActionShapes.{AreAll, is_quiet}
use Rattle.pfs_law_session.proofs.EndEntries.{Innermost, innermost_of, cell_fits, counted_cell, summary_row, digest_fits, digest_of_number}
use Rattle.pfs_law_session.proofs.EventAmounts.{OnceBy, IsShared, shared_added, shared_held, once_then, once_plain, once_ended, once_digested}
use Rattle.pfs_model.specs.EntryAsks.{cell_row, digest_row}
use Rattle.pfs_model.specs.Shapes.{counted_slot}
use Rattle.pfs_session.specs.Ends.{cell_in}
use Rattle.pfs_law_session.proofs.OwedAmounts.{owed_cell, owed_same, owed_other, wait_same, wait_other, else_same, else_other}
use Rattle.pfs_law_session.proofs.LinePieces.{entries_then}
use Rattle.pfs_law_session.proofs.RingPuts.{is_ring, put_ring, ring_keeps, rings_keep, rings_of}
use Rattle.pfs_law_session.proofs.StartEntries.{loads_behind}
use Rattle.pfs_law_session.proofs.StartLoads.{class_worded, link_worded, read_only_worded, start_digested, start_timed, event_of, consumers_in, thread_in, class_in, table_in, start_as}
use Rattle.pfs_model.specs.Contents.{nesting_type, nesting_id}
use Rattle.pfs_model.specs.EventNumbers.{nesting_of}
use Rattle.pfs_session.specs.SessionStates.{around}
use Rattle.pfs_law_session.proofs.PutWords.{PutBy, Writes, around_same, back_calls, front_calls, start_words, end_words, put_then, put_in, puts_by}
use Rattle.pfs_law_session.proofs.AmountSums.{is_added, same_measure}
use Rattle.pfs_law_session.specs.Agreement.{AreAlike, Agrees, IsCounted, LoadsAgree}
use Rattle.pfs_law_session.specs.Deeds.{IsSubject}
use Rattle.pfs_law_session.specs.Amounts.{Going, Clocked, stepped, IsMeasured, EndFacts, StepFacts, sum_of, owed_to, going_of, HaveStarted, Sums, ContentAgrees, ContentsAgree, IsAdded, IsPut, IsWorded, AreWorded, words_put, in_row, in_digest_row, counted_first, counted_at, brought_at}

-- each addition among these entries brings what the entries before it say
abbrev pub AddedBy : (Opened → Stat) → (ℕ → ℕ → List ℕ) → Option Subject → Context → List Entry → Type 0
AddedBy amounts content subject context [] = Unit {0}
AddedBy amounts content subject context (e ∷ es) = IsAdded amounts content context e × AddedBy amounts content subject (noted subject context e) es

pub added_then : (amounts : Opened → Stat) (content : ℕ → ℕ → List ℕ) (subject : Option Subject) (context : Context) (es fs : List Entry) → AddedBy amounts content subject context es
    → AddedBy amounts content subject (after_entries subject context es) fs → AddedBy amounts content subject context (es ++ fs)
added_then amounts content subject context [] fs a b = b
added_then amounts content subject context (e ∷ es) fs a b = (a.0, added_then amounts content subject (noted subject context e) es fs a.1 b)

-- entries that bring what they say, and how the session stands behind them
pub record Accounts (flags : ℕ → ℕ → ℕ) (slots : ℕ → Option ℕ) (facts : ℕ → ℕ → Facts) (session : ℕ) (content : ℕ → ℕ → List ℕ) (subject : Option Subject) (context : Context)
    (entries : List Entry) (k : Clocked) (after : State) : Type 0 where
  pub added : AddedBy (amount_by flags slots facts session) content subject context entries
  pub put : PutBy flags (facts session) content session subject context entries
  pub once : OnceBy flags subject context entries
  pub sums : Sums flags slots facts session k (after_entries subject context entries) after

-- what entries change of events and of what waits
pub record Same (old new : Context) : Type 0 where
  pub begun : new.begun ≡ old.begun
  pub opened : new.opened ≡ old.opened

record EndsTo (old new : Context) : Type 0 where
  pub begun : new.begun ≡ old.begun
  pub opened : new.opened ≡ drop 1 old.opened
  pub waiting : new.waiting ≡ old.waiting
  pub ended : new.ended ≡ first_of old.opened

end_noted : (subject : Option Subject) (context : Context) (n l c t : Option ℕ) → EndsTo context (noted subject context (says.End n l c t))
end_noted None context n l c t = record { begun = refl; opened = refl; waiting = refl; ended = refl }
end_noted (Some subject) context n l c t = record { begun = refl; opened = refl; waiting = refl; ended = refl }

pub record AddsTo (row : ℕ) (old new : Context) : Type 0 where
  pub same : Same old new
  pub waiting : new.waiting ≡ held_else row old.waiting
  pub ended : new.ended ≡ old.ended

pub add_noted : (subject : Option Subject) (context : Context) (row version : ℕ) → AddsTo row context (noted subject context (says.Add row version))
add_noted None context row version = record { same = record { begun = refl; opened = refl }; waiting = refl; ended = refl }
add_noted (Some subject) context row version = record { same = record { begun = refl; opened = refl }; waiting = refl; ended = refl }

record HoldsTo (row : ℕ) (old new : Context) : Type 0 where
  pub same : Same old new
  pub ended : new.ended ≡ old.ended
  pub waiting : new.waiting ≡ own_wait row old.ended ++ old.waiting

held_noted : (subject : Option Subject) (context : Context) (row first second : ℕ) → HoldsTo row context (noted subject context (says.Held row first second))
held_noted None context row first second = record { same = record { begun = refl; opened = refl }; ended = refl; waiting = refl }
held_noted (Some subject) context row first second = record { same = record { begun = refl; opened = refl }; ended = refl; waiting = refl }

pub record SettlesTo (old new : Context) : Type 0 where
  pub same : Same old new
  pub waiting : new.waiting ≡ old.waiting
  pub ended : new.ended ≡ None

pub settle_noted : (subject : Option Subject) (context : Context) → SettlesTo context (noted subject context says.Settle)
settle_noted None context = record { same = record { begun = refl; opened = refl }; waiting = refl; ended = refl }
settle_noted (Some subject) context = record { same = record { begun = refl; opened = refl }; waiting = refl; ended = refl }

-- entries that change none of that
pub record Quiet (old new : Context) : Type 0 where
  pub begun : new.begun ≡ old.begun
  pub opened : new.opened ≡ old.opened
  pub waiting : new.waiting ≡ old.waiting

quiet_noted : (context : Context) (e : Entry) → is_quiet e ≡ true → Quiet context (noted None context e)
quiet_noted context (says.Take row version) q = record { begun = refl; opened = refl; waiting = refl }
quiet_noted context (says.Give row version from) q = record { begun = refl; opened = refl; waiting = refl }
quiet_noted context (says.Tag row version) q = record { begun = refl; opened = refl; waiting = refl }
quiet_noted context (says.Free row version) q = record { begun = refl; opened = refl; waiting = refl }
quiet_noted context (says.Set word version flags) q = record { begun = refl; opened = refl; waiting = refl }
quiet_noted context (says.Act action) q = record { begun = refl; opened = refl; waiting = refl }
quiet_noted context (says.Reply number) q = record { begun = refl; opened = refl; waiting = refl }
quiet_noted context (says.Error number) q = record { begun = refl; opened = refl; waiting = refl }
quiet_noted context says.Query q = record { begun = refl; opened = refl; waiting = refl }
quiet_noted context (says.Rows count) q = record { begun = refl; opened = refl; waiting = refl }
quiet_noted context (says.Seen row version) q = record { begun = refl; opened = refl; waiting = refl }
quiet_noted context (says.Vacant row) q = record { begun = refl; opened = refl; waiting = refl }
quiet_noted context (says.Busy row first second) q = record { begun = refl; opened = refl; waiting = refl }
quiet_noted context (says.Saw word version) q = record { begun = refl; opened = refl; waiting = refl }
quiet_noted context _ q = absurd (false≢true q)

pub quiet_then : (a b c : Context) → Quiet a b → Quiet b c → Quiet a c
quiet_then a b c p q = record { begun = q.begun ∙ p.begun; opened = q.opened ∙ p.opened; waiting = q.waiting ∙ p.waiting }

pub quiet_context : (context : Context) (es : List Entry) → AreAll true is_quiet es → Quiet context (after_entries None context es)
quiet_context context [] q = record { begun = refl; opened = refl; waiting = refl }
quiet_context context (e ∷ es) q = quiet_then _ _ _ (quiet_noted context e q.0) (quiet_context (noted None context e) es q.1)

quiet_one : (amounts : Opened → Stat) (content : ℕ → ℕ → List ℕ) (context : Context) (e : Entry) → is_quiet e ≡ true → IsAdded amounts content context e
quiet_one amounts content context (says.Add row version) q = absurd (false≢true q)
quiet_one amounts content context _ q = tt

-- and neither count nor bring an event
quiet_nothing : (flags : ℕ → ℕ → ℕ) (context : Context) (e : Entry) → is_quiet e ≡ true → (counted_at flags context e ≡ []) × (brought_at context e ≡ [])
quiet_nothing flags context (says.Take row version) q = (refl, refl)
quiet_nothing flags context (says.Give row version from) q = (refl, refl)
quiet_nothing flags context (says.Tag row version) q = (refl, refl)
quiet_nothing flags context (says.Free row version) q = (refl, refl)
quiet_nothing flags context (says.Set word version bits) q = (refl, refl)
quiet_nothing flags context (says.Act action) q = (refl, refl)
quiet_nothing flags context (says.Reply number) q = (refl, refl)
quiet_nothing flags context (says.Error number) q = (refl, refl)
quiet_nothing flags context says.Query q = (refl, refl)
quiet_nothing flags context (says.Rows count) q = (refl, refl)
quiet_nothing flags context (says.Seen row version) q = (refl, refl)
quiet_nothing flags context (says.Vacant row) q = (refl, refl)
quiet_nothing flags context (says.Busy row first second) q = (refl, refl)
quiet_nothing flags context (says.Saw word version) q = (refl, refl)
quiet_nothing flags context _ q = absurd (false≢true q)

pub quiet_once : (flags : ℕ → ℕ → ℕ) (context : Context) (es : List Entry) → AreAll true is_quiet es → OnceBy flags None context es
quiet_once flags context [] q = λ h. refl
quiet_once flags context (e ∷ es) q =
    let n = quiet_nothing flags context e q.0 in
    once_then flags None context (e ∷ []) es (once_plain flags None context e n.0 n.1 (quiet_noted context e q.0).waiting) (quiet_once flags (noted None context e) es q.1)

pub connect_once : (flags : ℕ → ℕ → ℕ) (context : Context) (action : ℕ) (seat : Option Seated) → OnceBy flags None context (connect_entry action seat ∷ [])
connect_once flags context action None = once_plain flags None context (connect_entry action None) refl refl refl
connect_once flags context action (Some seat) = once_plain flags None context (connect_entry action (Some seat)) refl refl refl

pub quiet_added : (amounts : Opened → Stat) (content : ℕ → ℕ → List ℕ) (context : Context) (es : List Entry) → AreAll true is_quiet es → AddedBy amounts content None context es
quiet_added amounts content context [] q = tt
quiet_added amounts content context (e ∷ es) q = (quiet_one amounts content context e q.0, quiet_added amounts content (noted None context e) es q.1)

pub connect_quiet : (context : Context) (action : ℕ) (seat : Option Seated) → Quiet context (noted None context (connect_entry action seat))
connect_quiet context action None = record { begun = refl; opened = refl; waiting = refl }
connect_quiet context action (Some seat) = record { begun = refl; opened = refl; waiting = refl }

pub connect_added : (amounts : Opened → Stat) (content : ℕ → ℕ → List ℕ) (context : Context) (action : ℕ) (seat : Option Seated)
    → IsAdded amounts content context (connect_entry action seat)
connect_added amounts content context action None = tt
connect_added amounts content context action (Some seat) = tt

abbrev going : ℕ → EventKind → ℕ → Going
going index kind start = record { index = index; kind = kind; start = start }

same_going : (i j : ℕ) (a b : EventKind) (c d : ℕ) (xs ys : List Going) → i ≡ j → a ≡ b → c ≡ d → xs ≡ ys → (going i a c ∷ xs) ≡ (going j b d ∷ ys)
same_going i j a b c d xs ys p q r s =
    ap (λ z. going z a c ∷ xs) p ∙ (ap (λ z. going j z c ∷ xs) q ∙ (ap (λ z. going j b z ∷ xs) r ∙ ap (λ z. going j b d ∷ z) s))

starts_drop : (facts : ℕ → Facts) (gs : List Going) → HaveStarted facts gs → HaveStarted facts (drop 1 gs)
starts_drop facts [] h = tt
starts_drop facts (g ∷ gs) h = h.1

counted_none : (flags : ℕ → ℕ → ℕ) (slot : Option ℕ) (event : Opened) (others : List Opened) → is_let_through event.verdict ≡ false → counted_first flags slot (event ∷ others) ≡ []
counted_none flags slot event others e =
    ap (λ b. if b then in_row (cell_row (counted_slot slot event.verdict) event.subject.cell) event ∷ in_digest_row (is_digested flags slot event) event else []) e

counted_some : (flags : ℕ → ℕ → ℕ) (slot : Option ℕ) (event : Opened) (others : List Opened) (digested : Bool) → is_let_through event.verdict ≡ true → is_digested flags slot event ≡ digested
    → counted_first flags slot (event ∷ others) ≡ in_row (cell_row (counted_slot slot event.verdict) event.subject.cell) event ∷ in_digest_row digested event
counted_some flags slot event others digested e d =
    ap (λ b. if b then in_row (cell_row (counted_slot slot event.verdict) event.subject.cell) event ∷ in_digest_row (is_digested flags slot event) event else []) e
    ∙ ap (λ b. in_row (cell_row (counted_slot slot event.verdict) event.subject.cell) event ∷ in_digest_row b event) d

same_then : (a b c : Context) → Same a b → Same b c → Same a c
same_then a b c p q = record { begun = q.begun ∙ p.begun; opened = q.opened ∙ p.opened }

-- an addition is no put
added_put : (flags : ℕ → ℕ → ℕ) (facts : ℕ → Facts) (content : ℕ → ℕ → List ℕ) (session : ℕ) (context : Context) (answer : Added) → IsPut flags facts content session context (added_entry answer)
added_put flags facts content session context (Counted row version) = tt
added_put flags facts content session context (Held row first second) = tt

-- what the entries of an end and its additions tell of the event that ended
record AddedTold (old new : Context) : Type 0 where
  ended : new.ended ≡ first_of old.opened
  opened : new.opened ≡ drop 1 old.opened
  slot : new.slot ≡ old.slot
  drawn : new.drawn ≡ old.drawn

record StillTold (old new : Context) : Type 0 where
  ended : new.ended ≡ old.ended
  opened : new.opened ≡ old.opened
  slot : new.slot ≡ old.slot
  drawn : new.drawn ≡ old.drawn

still_told : (subject : Option Subject) (context : Context) (answer : Added) → StillTold context (noted subject context (added_entry answer))
still_told None context (Counted row version) = record { ended = refl; opened = refl; slot = refl; drawn = refl }
still_told None context (Held row first second) = record { ended = refl; opened = refl; slot = refl; drawn = refl }
still_told (Some subject) context (Counted row version) = record { ended = refl; opened = refl; slot = refl; drawn = refl }
still_told (Some subject) context (Held row first second) = record { ended = refl; opened = refl; slot = refl; drawn = refl }

end_told : (subject : Option Subject) (context : Context) (n l c t : Option ℕ) → AddedTold context (noted subject context (says.End n l c t))
end_told None context n l c t = record { ended = refl; opened = refl; slot = refl; drawn = refl }
end_told (Some subject) context n l c t = record { ended = refl; opened = refl; slot = refl; drawn = refl }

told_on : (a b c : Context) → AddedTold a b → StillTold b c → AddedTold a c
told_on a b c p q = record { ended = q.ended ∙ p.ended; opened = q.opened ∙ p.opened; slot = q.slot ∙ p.slot; drawn = q.drawn ∙ p.drawn }

added_told : (subject : Option Subject) (context : Context) (s after : State) (slot : ℕ) (what : Open) (others : List Open) (numbers : Numbers) (calls : List Call) (entries : List Entry)
    → EndsAdded s slot what others numbers calls entries after → AddedTold context (after_entries subject context entries)
added_told subject context s after slot what others numbers calls entries x = by_digest what.digested x.digests where
  End : Entry
  End = says.End (Some what.event.number) (Some s.drawn) (Some x.counts.consumers.version) (Some x.counts.thread.version)

  mid : Context
  mid = noted subject context End

  next : Context
  next = noted subject mid (added_entry x.counts.answer)

  first : AddedTold context next
  first = told_on context mid next (end_told subject context (Some what.event.number) (Some s.drawn) (Some x.counts.consumers.version) (Some x.counts.thread.version)) (still_told subject mid x.counts.answer)

  by_digest : (b : Bool) → DigestsIn b x.between slot what numbers x.digested_calls x.digested_entries after → AddedTold context (after_entries subject context entries)
  by_digest false y =
      let same : entries ≡ End ∷ added_entry x.counts.answer ∷ [] = x.entries_are ∙ (ap (λ z. x.counted_entries ++ z) y.entries_are ∙ (append-nil x.counted_entries ∙ x.counts.entries_are)) in
      subst (λ z. AddedTold context (after_entries subject context z)) (sym same) first
  by_digest true y =
      let same : entries ≡ End ∷ added_entry x.counts.answer ∷ added_entry y.answer ∷ [] =
      x.entries_are ∙ (ap (λ z. x.counted_entries ++ z) y.entries_are ∙ ap (λ z. z ++ added_entry y.answer ∷ []) x.counts.entries_are) in
      subst (λ z. AddedTold context (after_entries subject context z)) (sym same) (told_on context next (noted subject next (added_entry y.answer)) first (still_told subject next y.answer))

attributed_is : (v : Verdict) → is_attributed v ≡ true → v ≡ Attributed
attributed_is Attributed q = refl
attributed_is _ q = absurd (false≢true q)

-- nothing is loaded of a lost class
abbrev lost_class : Option ℕ
lost_class = None

no_class : (own : Option ℕ) → true ≡ (is_some own && is_some lost_class) → ⊥
no_class None q = absurd (false≢true (sym q))
no_class (Some n) q = absurd (false≢true (sym q))

-- an addition that was tried of the event that has just ended: what it brings, and what is held behind it
record Tried (amounts : Opened → Stat) (content : ℕ → ℕ → List ℕ) (subject : Option Subject) (context : Context) (answer : Added) (row : ℕ) (event : Opened) (thread : Option ℕ)
    (held : List (Option Stat)) : Type 0 where
  pub added : IsAdded amounts content context (added_entry answer)
  pub shared : IsShared subject context (added_entry answer) row event
  pub same : Same context (noted subject context (added_entry answer))
  pub ended : (noted subject context (added_entry answer)).ended ≡ context.ended
  pub owed : (q : ℕ) → owed_to q (owed_in thread held) ≡ sum_of (map amounts (held_for q (noted subject context (added_entry answer)).waiting))

module _ (m : MergeIsMonoid) (flags : ℕ → ℕ → ℕ) (slots : ℕ → Option ℕ) (facts : ℕ → ℕ → Facts) (session : ℕ) (content : ℕ → ℕ → List ℕ) where
  abbrev amounts : Opened → Stat
  amounts = amount_by flags slots facts session

  abbrev Stands' : Clocked → Context → State → Type 0
  Stands' k context s = Sums flags slots facts session k context s

  abbrev Brings : Option Subject → Context → List Entry → Clocked → State → Type 0
  Brings subject context entries k after = Accounts flags slots facts session content subject context entries k after

  pub brings_as : (subject : Option Subject) (context : Context) (entries es : List Entry) (k : Clocked) (after s : State) → entries ≡ es → after ≡ s → Brings subject context es k s
      → Brings subject context entries k after
  brings_as subject context entries es k after s p q a =
      subst (λ z. Brings subject context z k after) (sym p) (subst (λ z. Brings subject context es k z) (sym q) a)

  pub brings_then : (subject : Option Subject) (context : Context) (es fs : List Entry) (j k : Clocked) (s after : State) → Brings subject context es j s
      → Brings subject (after_entries subject context es) fs k after → Brings subject context (es ++ fs) k after
  brings_then subject context es fs j k s after a b = record {
    added = added_then amounts content subject context es fs a.added b.added;
    put = put_then flags (facts session) content session subject context es fs a.put b.put;
    once = once_then flags subject context es fs a.once b.once;
    sums = subst (λ z. Stands' k z after) (sym (entries_then subject context es fs)) b.sums;
  }

  pub turned_sums : (k : Clocked) (context : Context) (s : State) → Stands' k context s → Stands' k (turned context) s
  turned_sums k context s a = record { clock = a.clock; begun = a.begun; going = a.going; starts = a.starts; held = a.held; seat = a.seat; own = a.own; worded = a.worded }

  -- entries of puts bring nothing to rows, and change nothing but the next places of histories
  ring_once : (subject : Option Subject) (context : Context) (e : Entry) → is_ring e ≡ true → OnceBy flags subject context (e ∷ [])
  ring_once subject context e q = once_plain flags subject context e (nothing e q).0 (nothing e q).1 (ap (λ (z : Context). z.waiting) (ring_keeps subject context e q)) where
    nothing : (e : Entry) → is_ring e ≡ true → (counted_at flags context e ≡ []) × (brought_at context e ≡ [])
    nothing (says.Ring row version) q = (refl, refl)
    nothing (says.Long row version ticket) q = (refl, refl)
    nothing (says.Busy row first second) q = (refl, refl)
    nothing (says.Late row ticket greater) q = (refl, refl)
    nothing _ q = absurd (false≢true q)

  rings_once : (subject : Option Subject) (context : Context) (es : List Entry) → AreAll true is_ring es → OnceBy flags subject context es
  rings_once subject context [] q = λ h. refl
  rings_once subject context (e ∷ es) q = once_then flags subject context (e ∷ []) es (ring_once subject context e q.0) (rings_once subject (noted subject context e) es q.1)

  ring_added : (context : Context) (e : Entry) → is_ring e ≡ true → IsAdded amounts content context e
  ring_added context (says.Add row version) q = absurd (false≢true q)
  ring_added context _ q = tt

  rings_added : (subject : Option Subject) (context : Context) (es : List Entry) → AreAll true is_ring es → AddedBy amounts content subject context es
  rings_added subject context [] q = tt
  rings_added subject context (e ∷ es) q = (ring_added context e q.0, rings_added subject (noted subject context e) es q.1)

  rings_bring : (subject : Option Subject) (k : Clocked) (context : Context) (s after : State) (es : List Entry) → AreAll true is_ring es
      → PutBy flags (facts session) content session subject context es → Stands' k context s → after.clock ≡ s.clock → after.opened ≡ s.opened → after.held ≡ s.held → after.place ≡ s.place
      → after.number ≡ s.number → Brings subject context es k after
  rings_bring subject k context s after es q put a clock opened held place number = record {
    added = rings_added subject context es q;
    put = put;
    once = rings_once subject context es q;
    sums = subst (λ z. Stands' k z after) (sym (rings_keep subject context es q)) (record {
      clock = a.clock ∙ sym clock;
      begun = a.begun;
      going = a.going ∙ ap (λ z. going_of context.opened z.events) (sym opened);
      starts = a.starts;
      held = λ row. ap (λ z. owed_to row (owed_in z.thread after.held)) place ∙ (ap (λ z. owed_to row (owed_in s.place.thread z)) held ∙ a.held row);
      seat = subst (λ p. IfSome p.thread (λ n. slots session ≡ Some n)) (sym place) a.seat;
      own = number ∙ a.own;
      worded = subst (λ z. AreWorded flags after.place.thread session context.opened z.events) (sym opened)
          (subst (λ z. AreWorded flags z.thread session context.opened s.opened.events) (sym place) a.worded);
    });
  }

  -- what the words of an event that starts say, where it is offered to its current place
  start_worded : (k : Clocked) (context : Context) (s after : State) (subject : Subject) (calls : List Call) (entries : List Entry) (b : Begins s subject calls entries after) → Agrees flags context s
      → Stands' k context s → IsSubject subject → LoadsAgree flags calls → b.what.placed ≡ true
      → IsWorded flags s.place.thread session (event_of subject (verdict_in s subject b.seen) context.begun (s.drawn + 1) b.seen) context.opened b.what
  start_worded k context s after subject calls entries st agrees a is loads placed = by_seen st.seen subject.class refl refl st.loaded where
    v : Verdict
    v = verdict_in s subject st.seen

    agree : LoadsAgree flags (load_calls s.place.thread subject.class subject.table st.seen)
    agree = subst (LoadsAgree flags) st.calls_are loads

    offered_there : is_placed_by subject v st.seen ≡ true
    offered_there = sym st.opened.placed_is ∙ placed

    attributed : (seen : Option Setup) → is_placed_by subject v seen ≡ true → v ≡ Attributed
    attributed None q = absurd (false≢true q)
    attributed (Some seen) q = attributed_is v (and_first (is_attributed v) _ q)

    own : v ≡ Attributed
    own = attributed st.seen offered_there

    outer : (nesting_type (nesting_of context.opened) ≡ (around s.opened.events).nesting) × (nesting_id (nesting_of context.opened) ≡ (around s.opened.events).parent)
    outer = around_same flags s.place.thread context.opened s.opened.events agrees.opened

    by_seen : (seen : Option Setup) (class : Option ℕ) → st.seen ≡ seen → subject.class ≡ class → IsLoaded s.place.thread subject.class subject.table st.seen
        → IsWorded flags s.place.thread session (event_of subject v context.begun (s.drawn + 1) st.seen) context.opened st.what
    by_seen None class e c l = absurd (false≢true (sym (ap (is_placed_by subject v) e) ∙ offered_there))
    by_seen (Some seen) None e c l = absurd (no_class s.place.thread (subst (λ z. IsLoaded s.place.thread z subject.table (Some seen)) c (subst (IsLoaded s.place.thread subject.class subject.table) e l)).there)
    by_seen (Some seen) (Some class) e c l = record {
      session_is = sym (st.opened.session_is ∙ a.own);
      number = ap (λ z. or_zero (if_through z (s.drawn + 1))) own ∙ sym st.opened.number;
      class = class_worded subject.class st.what.event.class st.opened.class;
      link = link_worded _ (event_of subject v context.begun (s.drawn + 1) st.seen)
          ∙ (ap (λ z. started_link z subject) (start_digested flags s.place.thread subject v context.begun (s.drawn + 1) st.seen subject.class refl st.loaded agree) ∙ sym st.opened.link);
      timed = subst (λ z. is_timed flags s.place.thread (event_of subject v context.begun (s.drawn + 1) z) ≡ is_timed_by subject z) (sym e)
          (start_timed flags s.place.thread subject v context.begun (s.drawn + 1) seen (subst (IsLoaded s.place.thread subject.class subject.table) e l)
          (subst (λ z. LoadsAgree flags (load_calls s.place.thread subject.class subject.table z)) e agree)) ∙ sym st.opened.timed_is;
      read_only = read_only_worded subject class st.what is c st.opened.class ∙ sym st.opened.read_only;
      nesting = outer.0 ∙ sym (ap (λ (z : Outer). z.nesting) st.opened.lies_in);
      parent = outer.1 ∙ sym (ap (λ (z : Outer). z.parent) st.opened.lies_in);
      unfilled = st.opened.unfilled;
    }

  pub start_brings : (k : Clocked) (context : Context) (s after : State) (subject : Subject) (calls : List Call) (entries : List Entry) → Agrees flags context s → Stands' k context s → IsSubject subject
      → Starts s subject calls entries after → LoadsAgree flags calls → StepFacts (facts session) k (StartsEvent subject) → ContentsAgree content calls
      → Brings (Some subject) context entries (stepped k (StartsEvent subject)) after
  start_brings k context s after subject calls entries agrees a is x loads f c =
      let st = x.begins in
      let v = verdict_in s subject st.seen in
      let n : ℕ = s.drawn + 1 in
      let entry : Entry = says.Start (if_through v n) v (consumers_in st.seen) (thread_in st.seen) (class_in st.seen) (table_in st.seen) in
      let event : Opened = event_of subject v context.begun n st.seen in
      let next : Context = noted (Some subject) context entry in
      let puts : List Entry = put_entries x.current in
      let same : entries ≡ entry ∷ puts = x.entries_are ∙ (ap (λ z. z ++ puts) st.entries_are ∙ ap (λ z. z ∷ puts) (start_as v n st.seen)) in
      let older : LoadsAgree flags x.begun_calls = loads_behind flags x.put_calls x.begun_calls (subst (LoadsAgree flags) x.calls_are loads) in
      let newer : ContentsAgree content x.put_calls = front_calls content x.put_calls x.begun_calls (subst (ContentsAgree content) x.calls_are c) in
      let worded : st.what.placed ≡ true → IsWorded flags s.place.thread session event context.opened st.what =
      λ q. start_worded k context s after subject x.begun_calls x.begun_entries st agrees a is older q in
      let index : (facts session event.index).start ≡ st.what.event.start =
      ap (λ z. (facts session z).start) (sym a.begun) ∙ (f ∙ (a.clock ∙ sym st.opened.start)) in
      let writes : st.what.placed ≡ true → Writes flags (facts session) content session (Some subject) next st.what.event =
      λ q. (λ ticket. ap (λ z. words_put flags (facts session) session z ticket (written_at next)) agrees.slot
      ∙ start_words flags session s.place.thread (facts session event.index) event context.opened st.what (worded q) index ticket) in
      let sums : Stands' (stepped k (StartsEvent subject)) next (started s st.what) = record {
        clock = a.clock;
        begun = ap (λ z. z + 1) a.begun;
        going = same_going _ _ _ _ _ _ _ _ a.begun (sym st.opened.kind) (a.clock ∙ sym st.opened.start) a.going;
        starts = (f, a.starts);
        held = a.held;
        seat = a.seat;
        own = a.own;
        worded = (worded, a.worded);
      } in
      let first : Brings (Some subject) context (entry ∷ []) (stepped k (StartsEvent subject)) (started s st.what) =
      record { added = (tt, tt); put = (tt, tt); once = once_plain flags (Some subject) context entry refl refl refl; sums = sums } in
      let second : Brings (Some subject) next puts (stepped k (StartsEvent subject)) (started s st.what) =
      rings_bring (Some subject) (stepped k (StartsEvent subject)) next (started s st.what) (started s st.what) puts (put_ring x.current)
      (put_in flags (facts session) content session (Some subject) next s.place.thread st.what _ st.what.event x.current x.put_calls writes x.put_is newer) sums refl refl refl refl refl in
      brings_as (Some subject) context entries (entry ∷ puts) _ after (started s st.what) same st.after_is
      (brings_then (Some subject) context (entry ∷ []) puts (stepped k (StartsEvent subject)) (stepped k (StartsEvent subject)) (started s st.what) (started s st.what) first second)

  -- the events that go on, behind an end
  went_on : (k : Clocked) (context behind : Context) (s : State) (what : Open) (others : List Open) (event : Opened) (rest : List Opened) → Stands' k context s
      → context.opened ≡ event ∷ rest → s.opened.events ≡ what ∷ others → behind.opened ≡ drop 1 context.opened → drop 1 k.going ≡ going_of behind.opened others
  went_on k context behind s what others event rest a o e b =
      ap (drop 1) a.going ∙ (ap (λ z. drop 1 (going_of z s.opened.events)) o ∙ (ap (λ z. drop 1 (going_of (event ∷ rest) z)) e
      ∙ sym (ap (λ z. going_of z others) (b ∙ ap (drop 1) o))))

  worded_on : {k : Clocked} (context behind : Context) (s : State) (what : Open) (others : List Open) (event : Opened) (rest : List Opened) → Stands' k context s
      → context.opened ≡ event ∷ rest → s.opened.events ≡ what ∷ others → behind.opened ≡ drop 1 context.opened → AreWorded flags s.place.thread session behind.opened others
  worded_on context behind s what others event rest a o e b =
      let whole : AreWorded flags s.place.thread session (event ∷ rest) (what ∷ others) =
      subst (λ z. AreWorded flags s.place.thread session z (what ∷ others)) o (subst (AreWorded flags s.place.thread session context.opened) e a.worded) in
      subst (λ z. AreWorded flags s.place.thread session z others) (sym (b ∙ ap (drop 1) o)) whole.1

  silent_brings : (subject : Option Subject) (k : Clocked) (context : Context) (s after : State) (what : Open) (others : List Open) (event : Opened) (rest : List Opened) (numbers : Numbers)
      (calls : List Call) (entries : List Entry) → Stands' k context s → context.opened ≡ event ∷ rest → s.opened.events ≡ what ∷ others → is_let_through event.verdict ≡ false
      → EndsSilently s others calls entries after → Brings subject context entries (stepped k (EndsEvent numbers)) after
  silent_brings subject k context s after what others event rest numbers calls entries a o e silent x =
      let End : Entry = says.End None None None None in
      let d : EndsTo context (noted subject context End) = end_noted subject context None None None None in
      let sums : Stands' (stepped k (EndsEvent numbers)) (noted subject context End) (record s { opened = record s.opened { events = others } }) = record {
        clock = a.clock;
        begun = a.begun ∙ sym d.begun;
        going = went_on k context (noted subject context End) s what others event rest a o e d.opened;
        starts = starts_drop (facts session) k.going a.starts;
        held = λ row. a.held row ∙ ap (λ z. sum_of (map amounts (held_for row z))) (sym d.waiting);
        seat = a.seat;
        own = a.own;
        worded = worded_on context (noted subject context End) s what others event rest a o e d.opened;
      } in
      brings_as subject context entries (End ∷ []) _ after _ x.entries_are x.after_is (record {
        added = (tt, tt);
        put = (tt, tt);
        once = once_plain flags subject context End (ap (counted_first flags context.slot) o ∙ counted_none flags context.slot event rest silent) refl d.waiting;
        sums = sums;
      })

  -- an ended event adds what its facts say
  own_amount : (s : State) (slot : ℕ) (what : Open) (event : Opened) (numbers : Numbers) (clock : ℕ) → s.place.thread ≡ Some slot → IfSome s.place.thread (λ n. slots session ≡ Some n)
      → is_timed flags s.place.thread event ≡ what.event.timed → clock ≡ s.clock → IsMeasured clock numbers (going event.index what.kind what.event.start) (facts session event.index)
      → amounts event ≡ amount_of what s.clock numbers
  own_amount s slot what event numbers clock seat sits timed c f =
      let same : slots session ≡ s.place.thread = subst (λ z. IfSome z (λ n. slots session ≡ Some n)) seat sits ∙ sym seat in
      ap stat_of (same_measure _ _ _ _ _ _ _ _ _ _ _ _ _ _ _ _ (ap (λ z. is_timed flags z event) same ∙ timed)
      (f.duration ∙ ap (λ z. (z + (2 ^ 64 - what.event.start)) % 2 ^ 64) c) f.lock f.errors f.warnings f.affected f.sent f.examined)

  -- what is held, behind a change of one cell
  held_behind : (s : State) (slot cell : ℕ) (one : Option Stat) (old new : List Waiting) → s.place.thread ≡ Some slot → slot < 32 → cell < length s.held
      → ((row : ℕ) → owed_to row (owed_by_state s) ≡ sum_of (map amounts (held_for row old))) → sum_of (map amounts (held_for (held_row slot cell) new)) ≡ one
      → ((row : ℕ) → (held_row slot cell == row) ≡ false → held_for row new ≡ held_for row old) → (row : ℕ)
      → owed_to row (owed_in s.place.thread (slice_set s.held cell one)) ≡ sum_of (map amounts (held_for row new))
  held_behind s slot cell one old new seat low lt held own others row = by_test (held_row slot cell == row) refl where
    at : owed_to row (owed_in s.place.thread (slice_set s.held cell one)) ≡ owed_to row (owed_in (Some slot) (slice_set s.held cell one))
    at = ap (λ z. owed_to row (owed_in z (slice_set s.held cell one))) seat

    by_test : (b : Bool) → (held_row slot cell == row) ≡ b → owed_to row (owed_in s.place.thread (slice_set s.held cell one)) ≡ sum_of (map amounts (held_for row new))
    by_test true e =
        let r : row ≡ held_row slot cell = sym (eqb-true (held_row slot cell) row e) in
        at ∙ (ap (λ z. owed_to z (owed_in (Some slot) (slice_set s.held cell one))) r ∙ (owed_same slot cell s.held one low lt
        ∙ (sym own ∙ ap (λ z. sum_of (map amounts (held_for z new))) (sym r))))
    by_test false e =
        at ∙ (owed_other row slot cell s.held one e ∙ (ap (λ z. owed_to row (owed_in z s.held)) (sym seat) ∙ (held row ∙ ap (λ z. sum_of (map amounts z)) (sym (others row e)))))

  tried : (subject : Option Subject) (context : Context) (s : State) (slot cell : ℕ) (event : Opened) (amount : Stat) (answer : Added) → s.place.thread ≡ Some slot → slot < 32
      → cell < length s.held → context.ended ≡ Some event → amounts event ≡ amount
      → ((q : ℕ) → owed_to q (owed_by_state s) ≡ sum_of (map amounts (held_for q context.waiting))) → row_in answer ≡ held_row slot cell
      → ContentAgrees content (Adds (held_row slot cell) (with_held (held_at s.held cell) amount) answer)
      → Tried amounts content subject context answer (held_row slot cell) event s.place.thread (slice_set s.held cell (still_held (with_held (held_at s.held cell) amount) answer))
  tried subject context s slot cell event amount answer seat low fits ended own held row_is agree =
      by_answer answer row_is agree (ap (λ z. Some (with_held z (amounts event))) waits ∙ ap (λ z. Some (with_held (held_at s.held cell) z)) own) where
        waits : sum_of (map amounts (held_for (held_row slot cell) context.waiting)) ≡ held_at s.held cell
        waits = sym (held (held_row slot cell)) ∙ (ap (λ z. owed_to (held_row slot cell) (owed_in z s.held)) seat ∙ owed_cell slot cell s.held low fits)

        by_answer : (answer : Added) → row_in answer ≡ held_row slot cell → ContentAgrees content (Adds (held_row slot cell) (with_held (held_at s.held cell) amount) answer)
            → sum_of (map amounts (event ∷ held_for (held_row slot cell) context.waiting)) ≡ Some (with_held (held_at s.held cell) amount)
            → Tried amounts content subject context answer (held_row slot cell) event s.place.thread (slice_set s.held cell (still_held (with_held (held_at s.held cell) amount) answer))
        by_answer (Counted r version) r_is agree all =
            let row : ℕ = held_row slot cell in
            let t : AddsTo r context (noted subject context (says.Add r version)) = add_noted subject context r version in
            let brings : brought context r ≡ event ∷ held_for row context.waiting =
            ap (λ z. own_event z ++ held_for r context.waiting) ended ∙ ap (λ z. event ∷ held_for z context.waiting) r_is in
            let left : (noted subject context (says.Add r version)).waiting ≡ held_else row context.waiting = t.waiting ∙ ap (λ z. held_else z context.waiting) r_is in
            record {
              added = is_added m amounts content context r version agree.0 (with_held (held_at s.held cell) amount) agree.1 agree.2 (ap (λ z. sum_of (map amounts z)) brings ∙ all);
              shared = shared_added subject context r version row event r_is ended t.waiting;
              same = t.same;
              ended = t.ended;
              owed = held_behind s slot cell None context.waiting (noted subject context (says.Add r version)).waiting seat low fits held
                  (ap (λ z. sum_of (map amounts (held_for row z))) left ∙ ap (λ z. sum_of (map amounts z)) (else_same row context.waiting))
                  (λ q o. ap (held_for q) left ∙ else_other q row context.waiting o);
            }
        by_answer (Held r first second) r_is agree all =
            let row : ℕ = held_row slot cell in
            let t : HoldsTo r context (noted subject context (says.Held r first second)) = held_noted subject context r first second in
            let left : (noted subject context (says.Held r first second)).waiting ≡ record { row = row; event = event } ∷ context.waiting =
            t.waiting ∙ (ap (λ z. own_wait r z ++ context.waiting) ended ∙ ap (λ z. own_wait z (Some event) ++ context.waiting) r_is) in
            record {
              added = tt;
              shared = shared_held subject context r first second row event r_is ended t.waiting;
              same = t.same;
              ended = t.ended;
              owed = held_behind s slot cell (Some (with_held (held_at s.held cell) amount)) context.waiting (noted subject context (says.Held r first second)).waiting seat low fits held
                  (ap (λ z. sum_of (map amounts (held_for row z))) left ∙ (ap (λ z. sum_of (map amounts z)) (wait_same row event context.waiting) ∙ all))
                  (λ q o. ap (held_for q) left ∙ wait_other q row event context.waiting o);
            }

  added_brings : (subject : Option Subject) (k : Clocked) (context : Context) (s after : State) (slot : ℕ) (what : Open) (others : List Open) (numbers : Numbers) (calls : List Call)
      (entries : List Entry) → Agrees flags context s → Stands' k context s → s.place.thread ≡ Some slot → s.opened.events ≡ what ∷ others
      → (i : Innermost flags s.place.thread context.opened what others) → is_let_through what.verdict ≡ true → StepFacts (facts session) k (EndsEvent numbers)
      → EndsAdded s slot what others numbers calls entries after → ContentsAgree content calls → Brings subject context entries (stepped k (EndsEvent numbers)) after
  added_brings subject k context s after slot what others numbers calls entries agrees a seat e i through f x c =
      by_digest what.digested refl x.digests where
        End : Entry
        End = says.End (Some what.event.number) (Some s.drawn) (Some x.counts.consumers.version) (Some x.counts.thread.version)

        mid : Context
        mid = noted subject context End

        next : Context
        next = noted subject mid (added_entry x.counts.answer)

        d : EndsTo context mid
        d = end_noted subject context (Some what.event.number) (Some s.drawn) (Some x.counts.consumers.version) (Some x.counts.thread.version)

        low : slot < 32
        low = subst (λ z. IfSome z (λ n. n < 32)) seat agrees.low

        gone : k.going ≡ going i.event.index what.kind what.event.start ∷ going_of i.rest others
        gone = a.going ∙ (ap (λ z. going_of z s.opened.events) i.is ∙ ap (going_of (i.event ∷ i.rest)) e)

        own : amounts i.event ≡ amount_of what s.clock numbers
        own =
            let counted : IsCounted flags s.place.thread true i.event what = subst (λ b. IsCounted flags s.place.thread b i.event what) through i.alike.counted in
            own_amount s slot what i.event numbers k.clock seat a.seat counted.1 a.clock (subst (EndFacts (facts session) k.clock numbers) gone f)

        ended : mid.ended ≡ Some i.event
        ended = d.ended ∙ ap first_of i.is

        -- the calls of the cell's addition, which are the older ones
        older : ContentsAgree content x.counted_calls
        older = back_calls content x.digested_calls x.counted_calls (subst (ContentsAgree content) x.calls_are c)

        first : Tried amounts content subject mid x.counts.answer (held_row slot (cell_number what)) i.event s.place.thread (slice_set s.held (cell_number what) (still_held (with_held (held_at s.held (cell_number what)) (amount_of what s.clock numbers)) x.counts.answer))
        first =
            tried subject mid s slot (cell_number what) i.event (amount_of what s.clock numbers) x.counts.answer seat low (cell_fits what s.held agrees.wide) ended own
            (λ q. a.held q ∙ ap (λ z. sum_of (map amounts (held_for q z))) (sym d.waiting)) x.counts.row_is (subst (ContentsAgree content) x.counts.calls_are older).0

        -- the session behind both, or behind the first
        behind : (last : Context) (left : State) → Same mid last → left.clock ≡ s.clock → left.opened.events ≡ others → left.place ≡ s.place → left.number ≡ s.number
            → ((q : ℕ) → owed_to q (owed_by_state left) ≡ sum_of (map amounts (held_for q last.waiting))) → Stands' (stepped k (EndsEvent numbers)) last left
        behind last left same clock opened place number held = record {
          clock = a.clock ∙ sym clock;
          begun = a.begun ∙ sym (same.begun ∙ d.begun);
          going = went_on k context last s what others i.event i.rest a i.is e (same.opened ∙ d.opened) ∙ ap (going_of last.opened) (sym opened);
          starts = starts_drop (facts session) k.going a.starts;
          held = held;
          seat = subst (λ p. IfSome p.thread (λ n. slots session ≡ Some n)) (sym place) a.seat;
          own = number ∙ a.own;
          worded = subst (λ z. AreWorded flags z.thread session last.opened left.opened.events) (sym place)
              (subst (AreWorded flags s.place.thread session last.opened) (sym opened) (worded_on context last s what others i.event i.rest a i.is e (same.opened ∙ d.opened)));
        }

        between_owed : (q : ℕ) → owed_to q (owed_by_state x.between) ≡ sum_of (map amounts (held_for q next.waiting))
        between_owed q = ap (λ (z : State). owed_to q (owed_by_state z)) x.counts.after_is ∙ first.owed q

        -- what the end counts
        counted : (digested : Bool) → what.digested ≡ digested → counted_at flags context End ≡ in_row (held_row slot (cell_number what)) i.event ∷ in_digest_row digested i.event
        counted digested q =
            let cell_is : i.event.subject.cell ≡ cell_in what = counted_cell flags s.place.thread i.event what through i.alike.counted in
            let place : cell_row (counted_slot context.slot i.event.verdict) i.event.subject.cell ≡ held_row slot (cell_number what) =
            ap (λ z. cell_row (counted_slot z i.event.verdict) i.event.subject.cell) (agrees.slot ∙ seat) ∙ sym (summary_row slot what i.event.verdict i.event.subject.cell i.alike.verdict cell_is through) in
            ap (counted_first flags context.slot) i.is
            ∙ (counted_some flags context.slot i.event i.rest digested (ap is_let_through i.alike.verdict ∙ through) (ap (λ z. is_digested flags z i.event) agrees.slot ∙ i.alike.digested ∙ q)
            ∙ ap (λ z. in_row z i.event ∷ in_digest_row digested i.event) place)

        by_digest : (b : Bool) → what.digested ≡ b → DigestsIn b x.between slot what numbers x.digested_calls x.digested_entries after
            → Brings subject context entries (stepped k (EndsEvent numbers)) after
        by_digest false q y =
            let same : entries ≡ End ∷ added_entry x.counts.answer ∷ [] = x.entries_are ∙ (ap (λ z. x.counted_entries ++ z) y.entries_are ∙ (append-nil x.counted_entries ∙ x.counts.entries_are)) in
            brings_as subject context entries (End ∷ added_entry x.counts.answer ∷ []) _ after x.between same y.after_is (record {
              added = (tt, (first.added, tt));
              put = (tt, (added_put flags (facts session) content session mid x.counts.answer, tt));
              once = once_ended flags subject context End x.counts.answer (held_row slot (cell_number what)) i.event (counted false q) refl d.waiting first.shared;
              sums = behind next x.between first.same (ap (λ (z : State). z.clock) x.counts.after_is) (ap (λ (z : State). z.opened.events) x.counts.after_is)
                  (ap (λ (z : State). z.place) x.counts.after_is) (ap (λ (z : State). z.number) x.counts.after_is) between_owed;
            })
        by_digest true q y =
            let between : x.between.place.thread ≡ Some slot = ap (λ (z : State). z.place.thread) x.counts.after_is ∙ seat in
            let clock : x.between.clock ≡ s.clock = ap (λ (z : State). z.clock) x.counts.after_is in
            let wide : length x.between.held ≡ 193 = ap (λ (z : State). length z.held) x.counts.after_is ∙ (length-set s.held (cell_number what) _ ∙ agrees.wide) in
            let at : digest_row i.event.subject.digest ≡ held_row slot (digest_number what) = sym (digest_of_number slot what (digest_row i.event.subject.digest) (i.alike.digest q)) in
            let newer : ContentsAgree content x.digested_calls = front_calls content x.digested_calls x.counted_calls (subst (ContentsAgree content) x.calls_are c) in
            let second : Tried amounts content subject next y.answer (held_row slot (digest_number what)) i.event x.between.place.thread
            (slice_set x.between.held (digest_number what) (still_held (with_held (held_at x.between.held (digest_number what)) (amount_of what x.between.clock numbers)) y.answer)) =
            tried subject next x.between slot (digest_number what) i.event (amount_of what x.between.clock numbers) y.answer between low (digest_fits what x.between.held wide)
            (first.ended ∙ ended) (own ∙ ap (λ z. amount_of what z numbers) (sym clock)) between_owed y.row_is (subst (ContentsAgree content) y.calls_are newer).0 in
            let same : entries ≡ End ∷ added_entry x.counts.answer ∷ added_entry y.answer ∷ [] =
            x.entries_are ∙ (ap (λ z. x.counted_entries ++ z) y.entries_are ∙ ap (λ z. z ++ added_entry y.answer ∷ []) x.counts.entries_are) in
            let left : State = record x.between { held = slice_set x.between.held (digest_number what) (still_held (with_held (held_at x.between.held (digest_number what)) (amount_of what x.between.clock numbers)) y.answer) } in
            brings_as subject context entries (End ∷ added_entry x.counts.answer ∷ added_entry y.answer ∷ []) _ after left same y.after_is (record {
              added = (tt, (first.added, (second.added, tt)));
              put = (tt, (added_put flags (facts session) content session mid x.counts.answer, (added_put flags (facts session) content session next y.answer, tt)));
              once = once_digested flags subject context End x.counts.answer y.answer (held_row slot (cell_number what)) (held_row slot (digest_number what)) i.event
                  (counted true q ∙ ap (λ z. in_row (held_row slot (cell_number what)) i.event ∷ in_row z i.event ∷ []) at) refl d.waiting first.shared second.shared;
              sums = behind (noted subject next (added_entry y.answer)) left (same_then mid next (noted subject next (added_entry y.answer)) first.same second.same) clock
                  (ap (λ (z : State). z.opened.events) x.counts.after_is) (ap (λ (z : State). z.place) x.counts.after_is) (ap (λ (z : State). z.number) x.counts.after_is) second.owed;
            })

  -- behind the additions: the puts
  through_brings : (subject : Option Subject) (k : Clocked) (context : Context) (s after : State) (slot : ℕ) (what : Open) (others : List Open) (numbers : Numbers) (calls : List Call)
      (entries : List Entry) → Agrees flags context s → Stands' k context s → s.place.thread ≡ Some slot → s.opened.events ≡ what ∷ others
      → (i : Innermost flags s.place.thread context.opened what others) → is_let_through what.verdict ≡ true → StepFacts (facts session) k (EndsEvent numbers)
      → EndsThrough s slot what others numbers calls entries after → ContentsAgree content calls → Brings subject context entries (stepped k (EndsEvent numbers)) after
  through_brings subject k context s after slot what others numbers calls entries agrees a seat e i through f x c =
      let later : Clocked = stepped k (EndsEvent numbers) in
      let all : ContentsAgree content (x.ring_calls ++ x.added_calls) = subst (ContentsAgree content) x.calls_are c in
      let first : Brings subject context x.added_entries later x.among =
      added_brings subject k context s x.among slot what others numbers x.added_calls x.added_entries agrees a seat e i through f x.adds (back_calls content x.ring_calls x.added_calls all) in
      let mid : Context = after_entries subject context x.added_entries in
      let t : AddedTold context mid = added_told subject context s x.among slot what others numbers x.added_calls x.added_entries x.adds in
      let gone : k.going ≡ going i.event.index what.kind what.event.start ∷ going_of i.rest others =
      a.going ∙ (ap (λ z. going_of z s.opened.events) i.is ∙ ap (going_of (i.event ∷ i.rest)) e) in
      let whole : AreWorded flags s.place.thread session (i.event ∷ i.rest) (what ∷ others) =
      subst (λ z. AreWorded flags s.place.thread session z (what ∷ others)) i.is (subst (AreWorded flags s.place.thread session context.opened) e a.worded) in
      let start : (facts session i.event.index).start ≡ what.event.start = (subst (HaveStarted (facts session)) gone a.starts).0 in
      let measured = subst (EndFacts (facts session) k.clock numbers) gone f in
      let still : x.among ≡ without_one s others x.among.held = added_leaves s slot what others numbers x.added_calls x.added_entries x.among x.adds in
      let clock : x.among.clock ≡ s.clock = ap (λ (z : State). z.clock) still in
      let drawn : x.among.drawn ≡ s.drawn = ap (λ (z : State). z.drawn) still in
      let written : written_at mid ≡ Some (record { event = i.event; around = i.rest; last = Some mid.drawn }) =
      ap (λ z. written_of z mid.opened mid.drawn) (t.ended ∙ ap first_of i.is)
      ∙ ap (λ z. Some (record { event = i.event; around = z; last = Some mid.drawn })) (t.opened ∙ ap (drop 1) i.is) in
      let writes : what.placed ≡ true → Writes flags (facts session) content session subject mid (ended_event what x.among.drawn x.among.clock numbers) =
      λ q. (λ ticket. ap (λ z. words_put flags (facts session) session z ticket (written_at mid)) (t.slot ∙ agrees.slot)
      ∙ (ap (words_put flags (facts session) session s.place.thread ticket) written
      ∙ end_words flags session s.place.thread (facts session i.event.index) i.event i.rest what x.among.drawn mid.drawn x.among.clock k.clock numbers (whole.0 q) start
      (t.drawn ∙ (agrees.drawn ∙ sym drawn)) (a.clock ∙ sym clock) measured ticket)) in
      let ringed : AreAll true is_ring x.ring_entries = rings_of x.among slot what numbers _ _ x.ring_calls x.ring_entries after x.puts in
      let put = puts_by flags (facts session) content session subject mid x.among slot what numbers _ _ x.ring_calls x.ring_entries after writes x.puts (front_calls content x.ring_calls x.added_calls all) in
      let second : Brings subject mid x.ring_entries later after =
      rings_bring subject later mid x.among after x.ring_entries ringed put first.sums (ap (λ (z : State). z.clock) x.puts.after_is) (ap (λ (z : State). z.opened) x.puts.after_is)
      (ap (λ (z : State). z.held) x.puts.after_is) (ap (λ (z : State). z.place) x.puts.after_is) (ap (λ (z : State). z.number) x.puts.after_is) in
      subst (λ z. Brings subject context z later after) (sym x.entries_are)
      (brings_then subject context x.added_entries x.ring_entries later later x.among after first second)

  pub end_brings : (subject : Option Subject) (k : Clocked) (context : Context) (s after : State) (numbers : Numbers) (calls : List Call) (entries : List Entry) → Agrees flags context s
      → Stands' k context s → Ends s numbers calls entries after → StepFacts (facts session) k (EndsEvent numbers) → ContentsAgree content calls
      → Brings subject context entries (stepped k (EndsEvent numbers)) after
  end_brings subject k context s after numbers calls entries agrees a x f c = by_case s.place.thread (is_let_through x.what.verdict) refl refl x.ends where
    inner : Innermost flags s.place.thread context.opened x.what x.others
    inner = innermost_of flags s.place.thread context.opened x.what x.others (subst (λ z. AreAlike flags s.place.thread context.opened z) x.innermost agrees.opened)

    by_case : (slot : Option ℕ) (b : Bool) → s.place.thread ≡ slot → is_let_through x.what.verdict ≡ b → EndsIn s slot b x.what x.others numbers calls entries after
        → Brings subject context entries (stepped k (EndsEvent numbers)) after
    by_case slot false o t y =
        silent_brings subject k context s after x.what x.others inner.event inner.rest numbers calls entries a inner.is x.innermost (ap is_let_through inner.alike.verdict ∙ t) y
    by_case None true o t y = absurd y
    by_case (Some slot) true o t y = through_brings subject k context s after slot x.what x.others numbers calls entries agrees a o x.innermost inner t f y c
