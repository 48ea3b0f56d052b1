-- What a step's entries and its calls tell is the same, in the same order; a session that has a slot is in that of its
-- journal.
use Rattle.std.proofs.Common.{ℕ, ◌≡◌, ◌+◌, Bool, true, false, List, [], ◌∷◌, ◌++◌, Option, Some, None, is_some, refl, ap, sym, ◌∙◌, subst}
use Rattle.std.specs.Option.{option_map}
use Rattle.std.proofs.lemmas.List.{append_assoc, append-nil}
use Rattle.pfs_admin.specs.ConnectionAsks.{work_of_connect, work_of_quit, connect_entry, placed_of}
use Rattle.pfs_admin.specs.AdministrationStates.{seat_at}
use Rattle.pfs_admin.specs.AdministrationStates.{State as Administration}
use Rattle.pfs_admin.specs.Truncations.{work_of_truncation}
use Rattle.pfs_admin.specs.SetupStatements.{reply_to, work_of_statement}
use Rattle.pfs_admin.specs.declared.changes.SetupStatement.{SetupStatement}
use Rattle.pfs_rows.specs.declared.truncations.Truncation.{Truncation}
use Rattle.pfs_admin.specs.Works.{Work, signs_calls, signs_entries, flagging_calls, flagging_entries}
use Rattle.pfs_containers.specs.declared.containers.Seated.{Seated}
use Rattle.pfs_event.specs.declared.entry.Entry.{Entry}
use Rattle.pfs_event.specs.declared.entry.Entry.TheVariants as says
use Rattle.pfs_event.specs.declared.open.Open.{Open}
use Rattle.pfs_event.specs.declared.verdict.Verdict.{Verdict}
use Rattle.pfs_event.specs.Verdicts.{is_let_through}
use Rattle.pfs_levels.specs.Calls.{Call, Adds, Rings, Loads, Draws}
use Rattle.pfs_levels.specs.Moves.{moves_calls, moves_entries}
use Rattle.pfs_levels.specs.declared.answers.Added.{Added}
use Rattle.pfs_levels.specs.declared.answers.Added.TheVariants.{Counted, Held}
use Rattle.pfs_levels.specs.declared.answers.Word.{Word}
use Rattle.pfs_model.specs.declared.lines.Subject.{Subject}
use Rattle.pfs_model.specs.Contexts.{Context, noted, after_entries}
use Rattle.pfs_model.specs.SetupFlags.{thread_word, class_word, table_word, word_named}
use Rattle.pfs_event.specs.declared.event.Event.{Event}
use Rattle.pfs_levels.specs.declared.answers.RingPut.{RingPut}
use Rattle.pfs_levels.specs.declared.answers.RingPut.TheVariants as rings
use Rattle.pfs_model.specs.Causes.{long_row}
use Rattle.pfs_model.specs.Rings.{ring_number, current_row, history_row}
use Rattle.pfs_law_session.proofs.ActionShapes.{all_then}
use Rattle.pfs_law_session.proofs.RingPuts.{is_ring, put_ring, rings_keep}
use Rattle.pfs_rings.specs.Offers.{Says, offered, put_entry}
use Rattle.pfs_rings.specs.declared.puts.Put.{Put}
use Rattle.pfs_rings.specs.declared.rings.Ring.{Ring}
use Rattle.pfs_rings.specs.declared.rings.Ring.TheVariants.{Current, History, Long}
use Rattle.pfs_rows.specs.declared.table.Reading.TheVariants as readings
use Rattle.pfs_rows.specs.declared.table.Seen.TheVariants as seen
use Rattle.pfs_session.specs.Inquiries.{Inquiry, Looks, Remarks, inquiry_calls, inquiry_entry}
use Rattle.pfs_session.specs.declared.remarks.Remark.TheVariants as remarks
use Rattle.pfs_session.specs.EventPuts.{PutAt, PutIf, PutIn, put_entries}
use Rattle.pfs_session.specs.Ends.{EndsIn, EndsThrough, EndsAdded, PutsAtEnd, EndsCounted, EndsSilently, DigestsIn, added_entry, amount_of, digest_number, with_held}
use Rattle.pfs_session.specs.Settlements.{Paid, paid_calls, paid_entries, settle_head}
use Rattle.pfs_session.specs.Starts.{Starts, Begins, start_entry, load_calls, table_calls, IsLoaded, versions_in, version_of}
use Rattle.pfs_session.specs.SessionStates.{State, Owed, held_at, held_row}
use Rattle.pfs_session.specs.Turns.{Step, StartsEvent, EndsEvent, Spends, SettlesHeld, Connects, Quits, Truncates, Changes, Inquires, Truncated, Changed, Does, Works, reply_entries}
use Rattle.pfs_session.specs.declared.events.Numbers.{Numbers}
use Rattle.pfs_session.specs.declared.setup.Setup.{Setup}
use Rattle.pfs_stat.specs.declared.Stat.{Stat}
use Rattle.pfs_law_plain.specs.Notes.{Note, Wrote, Refused, Overdue, Saw, Acted, saw_all, notes_at, notes_in, told, all_told}
use Rattle.pfs_law_plain.specs.SessionNotes.{Sits, head_of}
use Rattle.pfs_law_plain.proofs.InnerEntries.{told_then, notes_then, entries_then, inner_slots, IsSame, same_then, reply_same, answers_same, moves_same, signs_same, flags_same, paid_same}

-- a step that starts an event starts what its line says
abbrev pub IsOf : Option Subject → Step → Type 0
IsOf subject (StartsEvent what) = subject ≡ Some what
IsOf subject (EndsEvent numbers) = Unit {0}
IsOf subject (Spends time) = Unit {0}
IsOf subject SettlesHeld = Unit {0}
IsOf subject (Connects admin user host) = Unit {0}
IsOf subject (Quits admin) = Unit {0}
IsOf subject (Truncates admin what) = Unit {0}
IsOf subject (Changes admin what) = Unit {0}
IsOf subject (Inquires what) = Unit {0}

pub record IsTold (subject : Option Subject) (context : Context) (head : List Note) (calls : List Call) (entries : List Entry) (after : State) : Type 0 where
  pub same : notes_in subject context entries ≡ head ++ all_told calls
  pub sits : Sits (after_entries subject context entries) after

told_as : (subject : Option Subject) (context : Context) (head : List Note) (calls cs : List Call) (entries es : List Entry) (after a : State) → calls ≡ cs → entries ≡ es → after ≡ a
    → IsTold subject context head cs es a → IsTold subject context head calls entries after
told_as subject context head calls cs entries es after a p q r t =
    subst (λ z. IsTold subject context head z entries after) (sym p) (subst (λ z. IsTold subject context head cs z after) (sym q) (subst (λ z. IsTold subject context head cs es z) (sym r) t))

-- starts
loads_same : (slot class : ℕ) (table : Option ℕ) (tw : Option Word) (c t k cf tf kf : ℕ) → is_some tw ≡ is_some table
    → saw_all (word_named (λ number. number) (Some 0) (Some c) ++ (word_named thread_word (Some slot) (Some t) ++ (word_named class_word (Some class) (Some k) ++ word_named table_word table (option_map version_of tw))))
    ≡ all_told (table_calls table tw ++ (Loads (class_word class) k kf ∷ Loads (thread_word slot) t tf ∷ Loads 0 c cf ∷ []))
unfolding all_told
loads_same slot class (Some table) (Some w) c t k cf tf kf e = refl
loads_same slot class (Some table) None c t k cf tf kf e = absurd (cc)
loads_same slot class None (Some w) c t k cf tf kf e = absurd (cc)
loads_same slot class None None c t k cf tf kf e = refl

start_loads : (slot class table : Option ℕ) (seen : Option Setup) (v : Verdict) (n : ℕ) (what : Subject) (context : Context) → what.class ≡ class → what.table ≡ table
    → IsLoaded slot class table seen → ((thread : ℕ) → slot ≡ Some thread → context.slot ≡ Some thread)
    → notes_in (Some what) context (start_entry v n seen ∷ []) ≡ all_told (load_calls slot class table seen)
unfolding all_told
start_loads (Some slot) (Some class) table (Some seen) v n what context ec et l s =
    append-nil _
    ∙ (ap (λ z. saw_all (word_named (λ number. number) (Some 0) (Some seen.consumers.version) ++ (word_named thread_word z (Some seen.thread.version) ++ (word_named class_word what.class (Some seen.class.version) ++ word_named table_word what.table (versions_in seen))))) (s slot refl)
    ∙ ap (λ z. saw_all (word_named (λ number. number) (Some 0) (Some seen.consumers.version) ++ (word_named thread_word (Some slot) (Some seen.thread.version) ++ (word_named class_word z (Some seen.class.version) ++ word_named table_word what.table (versions_in seen))))) ec
    ∙ ap (λ z. saw_all (word_named (λ number. number) (Some 0) (Some seen.consumers.version) ++ (word_named thread_word (Some slot) (Some seen.thread.version) ++ (word_named class_word (Some class) (Some seen.class.version) ++ word_named table_word z (versions_in seen))))) et)
    ∙ loads_same slot class table seen.table seen.consumers.version seen.thread.version seen.class.version seen.consumers.flags seen.thread.flags seen.class.flags l.table_is
start_loads (Some slot) (Some class) table None v n what context ec et l s = absurd (none l.there) where
  none : false ≡ true → ⊥
  none e = absurd (cc)
start_loads (Some slot) None table (Some seen) v n what context ec et l s = absurd (none l.there) where
  none : true ≡ false → ⊥
  none e = absurd (cc)
start_loads (Some slot) None table None v n what context ec et l s = nothing context.slot what.class what.table where
  nothing : (a b c : Option ℕ) → saw_all (word_named (λ number. number) (Some 0) None ++ (word_named thread_word a None ++ (word_named class_word b None ++ word_named table_word c None))) ++ [] ≡ []
  nothing None None None = refl
  nothing None None (Some c) = refl
  nothing None (Some b) None = refl
  nothing None (Some b) (Some c) = refl
  nothing (Some a) None None = refl
  nothing (Some a) None (Some c) = refl
  nothing (Some a) (Some b) None = refl
  nothing (Some a) (Some b) (Some c) = refl
start_loads None class table (Some seen) v n what context ec et l s = absurd (none l.there) where
  none : true ≡ false → ⊥
  none e = absurd (cc)
start_loads None class table None v n what context ec et l s = nothing context.slot what.class what.table where
  nothing : (a b c : Option ℕ) → saw_all (word_named (λ number. number) (Some 0) None ++ (word_named thread_word a None ++ (word_named class_word b None ++ word_named table_word c None))) ++ [] ≡ []
  nothing None None None = refl
  nothing None None (Some c) = refl
  nothing None (Some b) None = refl
  nothing None (Some b) (Some c) = refl
  nothing (Some a) None None = refl
  nothing (Some a) None (Some c) = refl
  nothing (Some a) (Some b) None = refl
  nothing (Some a) (Some b) (Some c) = refl

start_slot : (subject : Option Subject) (context : Context) (v : Verdict) (n : ℕ) (seen : Option Setup) → (noted subject context (start_entry v n seen)).slot ≡ context.slot
start_slot subject context v n None = refl
start_slot subject context v n (Some seen) = refl

-- puts
put_told : (subject : Option Subject) (context : Context) (put : Put) (row : ℕ) (ticket : Option ℕ) (drawn calls : List Call) (event : Event) → all_told drawn ≡ [] → PutAt row ticket drawn event put calls
    → notes_in subject context (put_entry put ∷ []) ≡ all_told calls
unfolding all_told
put_told subject context put row ticket drawn calls event none x = by_answer ticket x.answer x.says ∙ sym (ap all_told x.calls_are) where
  by_answer : (ticket : Option ℕ) (answer : RingPut) → Says row ticket answer put → notes_in subject context (put_entry put ∷ []) ≡ all_told (Rings row (offered event ticket) answer ∷ drawn)
  by_answer None (rings.Done version) e = ap (λ z. notes_in subject context (put_entry z ∷ [])) e ∙ ap (λ z. z ++ Wrote row version ∷ []) (sym none)
  by_answer (Some ticket) (rings.Done version) e = ap (λ z. notes_in subject context (put_entry z ∷ [])) e ∙ ap (λ z. z ++ Wrote row version ∷ []) (sym none)
  by_answer ticket (rings.Busy first second) e = ap (λ z. notes_in subject context (put_entry z ∷ [])) e ∙ ap (λ z. z ++ Refused row first second ∷ []) (sym none)
  by_answer None (rings.Late greater version) e = absurd e
  by_answer (Some ticket) (rings.Late greater version) e = ap (λ z. notes_in subject context (put_entry z ∷ [])) e.0 ∙ ap (λ z. z ++ Overdue row greater ∷ []) (sym none)

none_told : (subject : Option Subject) (context : Context) (put : Option Put) (calls : List Call) → (put ≡ None) × (calls ≡ []) → notes_in subject context (put_entries put) ≡ all_told calls
unfolding all_told
none_told subject context put calls x = ap (λ z. notes_in subject context (put_entries z)) x.0 ∙ sym (ap all_told x.1)

put_if_told : (subject : Option Subject) (context : Context) (due : Bool) (ring : Ring) (event : Event) (put : Option Put) (calls : List Call) → PutIf due ring event put calls
    → notes_in subject context (put_entries put) ≡ all_told calls
unfolding all_told
put_if_told subject context false ring event put calls x = none_told subject context put calls x
put_if_told subject context true ring event None calls x = absurd x
put_if_told subject context true (Current thread kind depth) event (Some put) calls x = put_told subject context put (current_row thread kind depth) None [] calls event refl x
put_if_told subject context true (History thread kind place) event (Some put) calls x = put_told subject context put (history_row thread (ring_number kind) place) None [] calls event refl x
put_if_told subject context true (Long kind) event (Some put) calls x =
    put_told subject context put (long_row (ring_number kind) x.ticket) (Some x.ticket) (Draws (ring_number kind) x.ticket ∷ []) calls event refl x.at

put_in_told : (subject : Option Subject) (context : Context) (slot : Option ℕ) (what : Open) (depth : ℕ) (event : Event) (put : Option Put) (calls : List Call) → PutIn slot what depth event put calls
    → notes_in subject context (put_entries put) ≡ all_told calls
put_in_told subject context None what depth event put calls x = none_told subject context put calls x
put_in_told subject context (Some slot) what depth event put calls x = put_if_told subject context what.placed (Current slot what.kind depth) event put calls x

puts_told : (subject : Option Subject) (context : Context) (s : State) (slot : ℕ) (what : Open) (numbers : Numbers) (consumers thread : ℕ) (calls : List Call) (entries : List Entry) (after : State)
    → Sits context s → PutsAtEnd s slot what numbers consumers thread calls entries after → IsTold subject context [] calls entries after
puts_told subject context s slot what numbers consumers thread calls entries after sits x =
    let c1 = put_entries x.current in
    let c2 = put_entries x.history in
    let c3 = put_entries x.long in
    let m1 : Context = after_entries subject context c1 in
    let m2 : Context = after_entries subject m1 c2 in
    let a = put_if_told subject context _ _ _ x.current x.current_calls x.current_is in
    let b = put_if_told subject m1 _ _ _ x.history x.history_calls x.history_is in
    let d = put_if_told subject m2 _ _ _ x.long x.long_calls x.long_is in
    told_as subject context [] calls (x.long_calls ++ (x.history_calls ++ x.current_calls)) entries (c1 ++ (c2 ++ c3)) after _ x.calls_are x.entries_are x.after_is (record {
      same = notes_then subject context c1 (c2 ++ c3)
          ∙ (ap (λ z. z ++ notes_in subject m1 (c2 ++ c3)) a
          ∙ (ap (λ z. all_told x.current_calls ++ z) (notes_then subject m1 c2 c3 ∙ (ap (λ z. z ++ notes_in subject m2 c3) b ∙ ap (λ z. all_told x.history_calls ++ z) d))
          ∙ (sym (append_assoc (all_told x.current_calls) (all_told x.history_calls) (all_told x.long_calls))
          ∙ (ap (λ z. z ++ all_told x.long_calls) (sym (told_then x.history_calls x.current_calls)) ∙ sym (told_then x.long_calls (x.history_calls ++ x.current_calls))))));
      sits = λ thread q. ap (λ (c : Context). c.slot)
          (rings_keep subject context (c1 ++ (c2 ++ c3)) (all_then true is_ring c1 (c2 ++ c3) (put_ring x.current) (all_then true is_ring c2 c3 (put_ring x.history) (put_ring x.long)))) ∙ sits thread q;
    })

begins_told : (what : Subject) (context : Context) (s : State) (calls : List Call) (entries : List Entry) (after : State) → Sits context s → Begins s what calls entries after
    → IsTold (Some what) context [] calls entries after
begins_told what context s calls entries after sits st = told_as (Some what) context [] calls _ entries _ after _ st.calls_are st.entries_are st.after_is (record {
  same = start_loads s.place.thread what.class what.table st.seen _ (s.drawn + 1) what context refl refl st.loaded sits;
  sits = λ thread e. start_slot (Some what) context _ (s.drawn + 1) st.seen ∙ sits thread e;
})

starts_told : (what : Subject) (context : Context) (s : State) (calls : List Call) (entries : List Entry) (after : State) → Sits context s → Starts s what calls entries after
    → IsTold (Some what) context [] calls entries after
starts_told what context s calls entries after sits x =
    let first = begins_told what context s x.begun_calls x.begun_entries after sits x.begins in
    let mid : Context = after_entries (Some what) context x.begun_entries in
    let puts : List Entry = put_entries x.current in
    let second = put_in_told (Some what) mid s.place.thread x.begins.what _ x.begins.what.event x.current x.put_calls x.put_is in
    told_as (Some what) context [] calls (x.put_calls ++ x.begun_calls) entries (x.begun_entries ++ puts) after after x.calls_are x.entries_are refl (record {
      same = notes_then (Some what) context x.begun_entries puts
          ∙ (ap (λ z. z ++ notes_in (Some what) mid puts) first.same ∙ (ap (λ z. all_told x.begun_calls ++ z) second ∙ sym (told_then x.put_calls x.begun_calls)));
      sits = λ thread q. ap (λ (c : Context). c.slot) (entries_then (Some what) context x.begun_entries puts ∙ rings_keep (Some what) mid puts (put_ring x.current)) ∙ first.sits thread q;
    })

-- ends
added_same : (subject : Option Subject) (context : Context) (row : ℕ) (amount : Stat) (answer : Added) → notes_in subject context (added_entry answer ∷ []) ≡ told (Adds row amount answer)
added_same subject context row amount (Counted r v) = refl
added_same subject context row amount (Held r v w) = refl

added_slot : (subject : Option Subject) (context : Context) (answer : Added) → (noted subject context (added_entry answer)).slot ≡ context.slot
added_slot subject context (Counted r v) = refl
added_slot subject context (Held r v w) = refl

end_loads : (subject : Option Subject) (context : Context) (slot : ℕ) (n d : Option ℕ) (c t cf tf row : ℕ) (amount : Stat) (answer : Added) → context.slot ≡ Some slot
    → notes_in subject context (says.End n d (Some c) (Some t) ∷ added_entry answer ∷ []) ≡ all_told (Adds row amount answer ∷ Loads (thread_word slot) t tf ∷ Loads 0 c cf ∷ [])
unfolding all_told
end_loads subject context slot n d c t cf tf row amount answer e =
    ap (λ z. saw_all (word_named (λ number. number) (Some 0) (Some c) ++ word_named thread_word z (Some t)) ++ notes_in subject (noted subject context (says.End n d (Some c) (Some t))) (added_entry answer ∷ [])) e
    ∙ ap (λ z. Saw 0 c ∷ Saw (thread_word slot) t ∷ z) (added_same subject (noted subject context (says.End n d (Some c) (Some t))) row amount answer)

silent_loads : (subject : Option Subject) (context : Context) → notes_in subject context (says.End None None None None ∷ []) ≡ all_told []
unfolding all_told
silent_loads subject context = nothing context.slot where
  nothing : (a : Option ℕ) → saw_all (word_named (λ number. number) (Some 0) None ++ word_named thread_word a None) ++ [] ≡ []
  nothing None = refl
  nothing (Some a) = refl

silent_told : (subject : Option Subject) (context : Context) (s : State) (others : List Open) (calls : List Call) (entries : List Entry) (after : State) → Sits context s
    → EndsSilently s others calls entries after → IsTold subject context [] calls entries after
silent_told subject context s others calls entries after sits e = told_as subject context [] calls _ entries _ after _ e.calls_are e.entries_are e.after_is (record {
  same = silent_loads subject context;
  sits = λ thread p. sits thread p;
})

-- an event that is counted
counted_told : (subject : Option Subject) (context : Context) (s : State) (slot : ℕ) (what : Open) (others : List Open) (numbers : Numbers) (calls : List Call) (entries : List Entry) (after : State)
    → s.place.thread ≡ Some slot → Sits context s → EndsCounted s slot what others numbers calls entries after → IsTold subject context [] calls entries after
counted_told subject context s slot what others numbers calls entries after p sits e =
    told_as subject context [] calls _ entries _ after _ e.calls_are e.entries_are e.after_is (record {
      same = end_loads subject context slot (Some what.event.number) (Some s.drawn) e.consumers.version e.thread.version e.consumers.flags e.thread.flags _ _ e.answer (sits slot p);
      sits = λ thread q. added_slot subject (noted subject context (says.End (Some what.event.number) (Some s.drawn) (Some e.consumers.version) (Some e.thread.version))) e.answer ∙ sits thread q;
    })

-- and its addition to its digest's row
digest_told : (subject : Option Subject) (context : Context) (b : Bool) (s : State) (slot : ℕ) (what : Open) (numbers : Numbers) (calls : List Call) (entries : List Entry) (after : State)
    → Sits context s → DigestsIn b s slot what numbers calls entries after → IsTold subject context [] calls entries after
unfolding all_told
digest_told subject context false s slot what numbers calls entries after sits d = told_as subject context [] calls _ entries _ after _ d.calls_are d.entries_are d.after_is (record {
  same = refl;
  sits = λ thread q. sits thread q;
})
digest_told subject context true s slot what numbers calls entries after sits d = told_as subject context [] calls _ entries _ after _ d.calls_are d.entries_are d.after_is (record {
  same = added_same subject context (held_row slot (digest_number what)) (with_held (held_at s.held (digest_number what)) (amount_of what s.clock numbers)) d.answer;
  sits = λ thread q. added_slot subject context d.answer ∙ sits thread q;
})

ended_told : (subject : Option Subject) (context : Context) (s : State) (slot : ℕ) (what : Open) (others : List Open) (numbers : Numbers) (calls : List Call) (entries : List Entry) (after : State)
    → s.place.thread ≡ Some slot → Sits context s → EndsAdded s slot what others numbers calls entries after → IsTold subject context [] calls entries after
ended_told subject context s slot what others numbers calls entries after p sits e =
    let first : IsTold subject context [] e.counted_calls e.counted_entries e.between =
    counted_told subject context s slot what others numbers e.counted_calls e.counted_entries e.between p sits e.counts in
    let mid : Context = after_entries subject context e.counted_entries in
    let second : IsTold subject mid [] e.digested_calls e.digested_entries after =
    digest_told subject mid what.digested e.between slot what numbers e.digested_calls e.digested_entries after first.sits e.digests in
    told_as subject context [] calls (e.digested_calls ++ e.counted_calls) entries (e.counted_entries ++ e.digested_entries) after after e.calls_are e.entries_are refl (record {
      same = notes_then subject context e.counted_entries e.digested_entries
          ∙ (ap (λ z. z ++ notes_in subject mid e.digested_entries) first.same ∙ (ap (λ z. all_told e.counted_calls ++ z) second.same ∙ sym (told_then e.digested_calls e.counted_calls)));
      sits = λ thread q. ap (λ (c : Context). c.slot) (entries_then subject context e.counted_entries e.digested_entries) ∙ second.sits thread q;
    })

through_told : (subject : Option Subject) (context : Context) (s : State) (slot : ℕ) (what : Open) (others : List Open) (numbers : Numbers) (calls : List Call) (entries : List Entry) (after : State)
    → s.place.thread ≡ Some slot → Sits context s → EndsThrough s slot what others numbers calls entries after → IsTold subject context [] calls entries after
through_told subject context s slot what others numbers calls entries after p sits e =
    let first : IsTold subject context [] e.added_calls e.added_entries e.among =
    ended_told subject context s slot what others numbers e.added_calls e.added_entries e.among p sits e.adds in
    let mid : Context = after_entries subject context e.added_entries in
    let second : IsTold subject mid [] e.ring_calls e.ring_entries after =
    puts_told subject mid e.among slot what numbers _ _ e.ring_calls e.ring_entries after first.sits e.puts in
    told_as subject context [] calls (e.ring_calls ++ e.added_calls) entries (e.added_entries ++ e.ring_entries) after after e.calls_are e.entries_are refl (record {
      same = notes_then subject context e.added_entries e.ring_entries
          ∙ (ap (λ z. z ++ notes_in subject mid e.ring_entries) first.same ∙ (ap (λ z. all_told e.added_calls ++ z) second.same ∙ sym (told_then e.ring_calls e.added_calls)));
      sits = λ thread q. ap (λ (c : Context). c.slot) (entries_then subject context e.added_entries e.ring_entries) ∙ second.sits thread q;
    })

ends_in_told : (subject : Option Subject) (context : Context) (s : State) (slot : Option ℕ) (b : Bool) (what : Open) (others : List Open) (numbers : Numbers) (calls : List Call) (entries : List Entry) (after : State)
    → s.place.thread ≡ slot → Sits context s → EndsIn s slot b what others numbers calls entries after → IsTold subject context [] calls entries after
ends_in_told subject context s slot false what others numbers calls entries after p sits e = silent_told subject context s others calls entries after sits e
ends_in_told subject context s None true what others numbers calls entries after p sits e = absurd e
ends_in_told subject context s (Some slot) true what others numbers calls entries after p sits e = through_told subject context s slot what others numbers calls entries after p sits e

-- settling
settle_told : (subject : Option Subject) (context : Context) (s a : State) (owed : List Owed) (ps : List Paid) → Sits context s → a.place.thread ≡ s.place.thread
    → IsTold subject context [] (paid_calls ps) (settle_head owed ++ paid_entries ps) a
settle_told subject context s a [] ps sits p = record {
  same = (paid_same ps).same subject context;
  sits = λ thread q. inner_slots subject context (paid_entries ps) (paid_same ps).inner ∙ sits thread (sym p ∙ q);
}
settle_told subject context s a (o ∷ os) ps sits p = record {
  same = (paid_same ps).same subject (noted subject context says.Settle);
  sits = λ thread q. inner_slots subject (noted subject context says.Settle) (paid_entries ps) (paid_same ps).inner ∙ sits thread (sym p ∙ q);
}

-- actions
pub record IsActed (head : Entry) (calls : List Call) (entries : List Entry) : Type 0 where
  pub rest : List Entry
  pub entries_are : entries ≡ head ∷ rest
  pub same : IsSame rest calls

pub acted : (work : Work) (words : List Word) (head : Entry) (calls : List Call) (entries : List Entry) → Works work words (head ∷ []) calls entries → IsActed head calls entries
acted work words head calls entries w = record {
  rest = moves_entries w.moves ++ (signs_entries w.made ++ flagging_entries words work.flags);
  entries_are = w.entries_are;
  same = subst (λ z. IsSame (moves_entries w.moves ++ (signs_entries w.made ++ flagging_entries words work.flags)) z)
      (append_assoc (flagging_calls words work.flags) (signs_calls w.made) (moves_calls w.moves) ∙ sym w.calls_are)
      (same_then _ _ _ _ (moves_same w.moves) (same_then _ _ _ _ (signs_same w.made) (flags_same words work.flags)));
}

pub truncated_acted : (s : State) (admin : Administration) (what : Truncation) (calls : List Call) (entries : List Entry) (after : State)
    → Truncated s admin what calls entries after → IsActed (says.Act (admin.actions + 1)) calls entries
truncated_acted s admin what calls entries after d =
    let a = acted (work_of_truncation admin what) admin.words (says.Act (admin.actions + 1)) calls d.changes d.works in
    record {
      rest = a.rest ++ says.Reply 0 ∷ [];
      entries_are = d.entries_are ∙ ap (λ z. z ++ says.Reply 0 ∷ []) a.entries_are;
      same = same_then a.rest (says.Reply 0 ∷ []) calls [] a.same (reply_same 0);
    }

pub changed_acted : (s : State) (admin : Administration) (what : SetupStatement) (calls : List Call) (entries : List Entry) (after : State)
    → Changed s admin what calls entries after → IsActed (says.Act (admin.actions + 1)) calls entries
changed_acted s admin what calls entries after d =
    let a = acted (work_of_statement admin what) admin.words (says.Act (admin.actions + 1)) calls d.changes d.works in
    let answer : List Entry = reply_entries what (reply_to admin what) in
    record {
      rest = a.rest ++ answer;
      entries_are = d.entries_are ∙ ap (λ z. z ++ answer) a.entries_are;
      same = same_then a.rest answer calls [] a.same (answers_same what (reply_to admin what));
    }

-- inquiries
inquiry_same : (subject : Option Subject) (context : Context) (what : Inquiry) → notes_in subject context (inquiry_entry what ∷ []) ≡ all_told (inquiry_calls what)
unfolding all_told
inquiry_same subject context (Looks (readings.Slot row (seen.Whole version content))) = refl
inquiry_same subject context (Looks (readings.Slot row (seen.Free word))) = refl
inquiry_same subject context (Looks (readings.Slot row (seen.Busy first second))) = refl
inquiry_same subject context (Looks (readings.Word word version flags)) = refl
inquiry_same subject context (Remarks remarks.Query) = refl
inquiry_same subject context (Remarks (remarks.Rows count)) = refl
inquiry_same subject context (Remarks (remarks.Refused error)) = refl

inquiry_slot : (subject : Option Subject) (context : Context) (what : Inquiry) → (noted subject context (inquiry_entry what)).slot ≡ context.slot
inquiry_slot subject context (Looks (readings.Slot row (seen.Whole version content))) = refl
inquiry_slot subject context (Looks (readings.Slot row (seen.Free word))) = refl
inquiry_slot subject context (Looks (readings.Slot row (seen.Busy first second))) = refl
inquiry_slot subject context (Looks (readings.Word word version flags)) = refl
inquiry_slot subject context (Remarks remarks.Query) = refl
inquiry_slot subject context (Remarks (remarks.Rows count)) = refl
inquiry_slot subject context (Remarks (remarks.Refused error)) = refl

connect_notes : (subject : Option Subject) (context : Context) (action : ℕ) (seat : Option Seated) → notes_at subject context (connect_entry action seat) ≡ Acted action ∷ []
connect_notes subject context action None = refl
connect_notes subject context action (Some seat) = refl

connect_slot : (subject : Option Subject) (context : Context) (action : ℕ) (seat : Option Seated) → (noted subject context (connect_entry action seat)).slot ≡ (placed_of seat).thread
connect_slot subject context action None = refl
connect_slot subject context action (Some seat) = refl

acted_told : (subject : Option Subject) (context : Context) (number : ℕ) (head : Entry) (calls : List Call) (entries : List Entry) (after : State) → notes_at subject context head ≡ Acted number ∷ []
    → IsActed head calls entries → ((thread : ℕ) → after.place.thread ≡ Some thread → (noted subject context head).slot ≡ Some thread) → IsTold subject context (Acted number ∷ []) calls entries after
acted_told subject context number head calls entries after n a sits = subst (λ z. IsTold subject context (Acted number ∷ []) calls z after) (sym a.entries_are) (record {
  same = ap (λ z. z ++ notes_in subject (noted subject context head) a.rest) n ∙ ap (λ z. Acted number ∷ z) (a.same.same subject (noted subject context head));
  sits = λ thread q. inner_slots subject (noted subject context head) a.rest a.same.inner ∙ sits thread q;
})

pub does_told : (subject : Option Subject) (context : Context) (s : State) (step : Step) (calls : List Call) (entries : List Entry) (after : State) → IsOf subject step → Sits context s
    → Does s step calls entries after → IsTold subject context (head_of step) calls entries after
unfolding all_told
does_told subject context s (StartsEvent what) calls entries after is sits d = subst (λ z. IsTold z context [] calls entries after) (sym is) (starts_told what context s calls entries after sits d)
does_told subject context s (EndsEvent numbers) calls entries after is sits d =
    ends_in_told subject context s s.place.thread (is_let_through d.what.verdict) d.what d.others numbers calls entries after refl sits d.ends
does_told subject context s (Spends time) calls entries after is sits d = told_as subject context [] calls _ entries _ after _ d.0 d.1 d.2 (record { same = refl; sits = λ thread q. sits thread q })
does_told subject context s SettlesHeld calls entries after is sits d =
    told_as subject context [] calls _ entries _ after _ d.calls_are d.entries_are d.after_is (settle_told subject context s _ _ d.paid sits refl)
does_told subject context s (Connects admin user host) calls entries after is sits d =
    acted_told subject context (admin.actions + 1) (connect_entry (admin.actions + 1) (seat_at admin s.number user host)) calls entries after
    (connect_notes subject context (admin.actions + 1) (seat_at admin s.number user host))
    (acted (work_of_connect admin s.number user host) admin.words (connect_entry (admin.actions + 1) (seat_at admin s.number user host)) calls entries d.0)
    (λ thread q. connect_slot subject context (admin.actions + 1) (seat_at admin s.number user host) ∙ (sym (ap (λ (z : State). z.place.thread) d.1) ∙ q))
does_told subject context s (Quits admin) calls entries after is sits d =
    acted_told subject context (admin.actions + 1) (says.Act (admin.actions + 1)) calls entries after refl
    (acted (work_of_quit admin s.number) admin.words (says.Act (admin.actions + 1)) calls entries d.0)
    (λ thread q. absurd (nowhere after.place.thread thread (ap (λ (z : State). z.place.thread) d.1) q)) where
      nowhere : (a : Option ℕ) (thread : ℕ) → a ≡ None → a ≡ Some thread → ⊥
      nowhere a thread e f = absurd (cc)
does_told subject context s (Truncates admin what) calls entries after is sits d =
    acted_told subject context (admin.actions + 1) (says.Act (admin.actions + 1)) calls entries after refl (truncated_acted s admin what calls entries after d)
    (λ thread q. sits thread (sym (ap (λ (z : State). z.place.thread) d.after_is) ∙ q))
does_told subject context s (Changes admin what) calls entries after is sits d =
    acted_told subject context (admin.actions + 1) (says.Act (admin.actions + 1)) calls entries after refl (changed_acted s admin what calls entries after d)
    (λ thread q. sits thread (sym (ap (λ (z : State). z.place.thread) d.after_is) ∙ q))
does_told subject context s (Inquires what) calls entries after is sits d = told_as subject context [] calls _ entries _ after _ d.calls_are d.entries_are d.after_is (record {
  same = inquiry_same subject context what;
  sits = λ thread q. inquiry_slot subject context what ∙ sits thread q;
})
