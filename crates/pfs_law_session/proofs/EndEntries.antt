-- What an end writes, and how the session stands behind it.
use Rattle.std.proofs.Common.{ℕ, ◌≡◌, ◌<◌, ◌+◌, ◌*◌, ◌&&◌, Bool, true, false, cond, List, [], ◌∷◌, ◌++◌, Option, Some, None, is_some, drop, map, length, slice_set, eq-eqb, refl, ap, sym, ◌∙◌, subst, arith}
use Rattle.std.specs.Prelude.{Ok, IfSome, if◌then◌else◌}
use Rattle.std.specs.Ordering.{nat_cmp}
use Rattle.std.specs.BTreeMap.{is_at}
use Rattle.std.specs.BTreeSet.{insert_key}
use Rattle.std.specs.Set.{remove_key}
use Rattle.std.proofs.lemmas.List.{append-nil, length-set}
use Rattle.std.proofs.lemmas.Bool.{lt-ltb, le-ltb, false≢true}
use Rattle.pfs_event.specs.Verdicts.{is_let_through}
use Rattle.pfs_event.specs.declared.entry.Entry.{Entry}
use Rattle.pfs_event.specs.declared.entry.Entry.TheVariants as says
use Rattle.pfs_event.specs.declared.kind.EventKind.{EventKind}
use Rattle.pfs_event.specs.declared.kind.EventKind.TheVariants as kinds
use Rattle.pfs_event.specs.declared.open.Open.{Open}
use Rattle.pfs_event.specs.declared.verdict.Verdict.{Verdict}
use Rattle.pfs_event.specs.declared.verdict.Verdict.TheVariants.{Aside, Attributed}
use Rattle.pfs_levels.specs.Calls.{Call, row_in}
use Rattle.pfs_levels.specs.declared.answers.Added.{Added}
use Rattle.pfs_levels.specs.declared.answers.Added.TheVariants.{Counted, Held}
use Rattle.pfs_model.specs.EntryAsks.{cell_row, is_digest, is_summary, both_loaded}
use Rattle.pfs_model.specs.Contexts.{Context, subject_of, noted, with_row, without_row}
use Rattle.pfs_model.specs.Cuts.{cut, are_closed, is_headed}
use Rattle.pfs_model.specs.EventNumbers.{IsNumbered, ending_id, end_event_id}
use Rattle.pfs_model.specs.Shapes.{ending, counting, counted_slot, digest_of, maybe, puts}
use Rattle.pfs_model.specs.SetupFlags.{is_attributed, is_digested, is_statement}
use Rattle.pfs_model.specs.declared.lines.Line.{Line}
use Rattle.pfs_model.specs.declared.lines.Opened.{Opened}
use Rattle.pfs_model.specs.declared.lines.Subject.{Subject}
use Rattle.pfs_model.specs.declared.shapes.Ask.TheVariants as asks
use Rattle.pfs_stat.specs.declared.Stat.{Stat}
use Rattle.pfs_session.specs.Ends.{Ends, EndsIn, EndsThrough, EndsAdded, EndsCounted, EndsSilently, DigestsIn, cell_in, cell_number, digest_number, added_entry, still_held, with_held, amount_of}
use Rattle.pfs_session.specs.Settlements.{owed_in}
use Rattle.pfs_session.specs.SessionStates.{State, held_row, held_at}
use Rattle.pfs_session.specs.declared.events.Numbers.{Numbers}
use Rattle.pfs_law_session.proofs.ActionShapes.{AreAll}
use Rattle.pfs_law_session.proofs.ShapeCuts.{cut_one, cut_maybe, cut_maybe_end, cut_maybe_other, cut_nothing}
use Rattle.pfs_law_session.proofs.RingPuts.{is_ring, puts_cut, rings_of, rings_piece}
use Rattle.pfs_law_session.proofs.OwedRows.{rows, rows_held, rows_freed}
use Rattle.pfs_law_session.proofs.LinePieces.{IsPiece, piece_one, piece_plain, piece_then, judged_end, is_plain}
use Rattle.pfs_law_session.specs.Agreement.{IsAlike, IsCounted, AreAlike, Agrees, row_owed}

pub ending_closed : (slot : Option ℕ) (event : Opened) → are_closed (ending slot event) ≡ true
ending_closed slot event = counted (is_let_through event.verdict) event.subject.kind where
  kinds_closed : (kind : EventKind) → are_closed (digest_of kind ++ puts) ≡ true
  kinds_closed kinds.Wait = refl
  kinds_closed kinds.Stage = refl
  kinds_closed kinds.Statement = refl
  kinds_closed kinds.Transaction = refl

  counted : (b : Bool) (kind : EventKind) → are_closed (counting slot event b) ≡ true
  counted true kind = kinds_closed event.subject.kind
  counted false kind = refl

ring_undigested : (e : Entry) → is_ring e ≡ true → is_digest e ≡ false
ring_undigested (says.Ring row version) q = refl
ring_undigested (says.Long row version ticket) q = refl
ring_undigested (says.Busy row first second) q = refl
ring_undigested (says.Late row ticket greater) q = refl
ring_undigested _ q = absurd (false≢true q)

-- puts alone, which are no additions to the row of a digest
no_digest : (rings : List Entry) → AreAll true is_ring rings → cut (maybe asks.Digest ∷ puts) rings ≡ cut puts rings
no_digest [] q = cut_maybe_end asks.Digest puts
no_digest (e ∷ es) q = cut_maybe_other asks.Digest puts e es (ring_undigested e q.0)

nothing_more : (kind : EventKind) (rings : List Entry) → AreAll true is_ring rings → cut puts rings ≡ Ok [] → cut (digest_of kind ++ puts) rings ≡ Ok []
nothing_more kinds.Wait rings q p = p
nothing_more kinds.Stage rings q p = p
nothing_more kinds.Statement rings q p = no_digest rings q ∙ p
nothing_more kinds.Transaction rings q p = p

-- the cell of a slot, or the global one, by its number
cell_of : (slot cell : ℕ) → cell < 64 → held_row slot cell ≡ cell_row (Some slot) cell
cell_of slot cell low = ap (λ b. if b then 129 + 64 * slot + cell else 8257 + cell) (lt-ltb cell 64 low)

global_of : (slot cell : ℕ) → held_row slot (64 + cell) ≡ cell_row None cell
global_of slot cell =
    ap (λ b. if b then 129 + 64 * slot + (64 + cell) else 8257 + (64 + cell)) (le-ltb (64 + cell) 64 (omega arith)) ∙ omega arith

cell_small : (what : Open) → cell_in what < 64
cell_small what = small what.event.read_only where
  small : (b : Bool) → (if b then 63 else what.event.class) < 64
  small true = omega arith
  small false = omega (arith, what.event.class_fits)

pub summary_row : (slot : ℕ) (what : Open) (verdict : Verdict) (cell : ℕ) → verdict ≡ what.verdict → cell ≡ cell_in what → is_let_through what.verdict ≡ true
    → held_row slot (cell_number what) ≡ cell_row (counted_slot (Some slot) verdict) cell
summary_row slot what verdict cell v c through =
    by_verdict what.verdict through ∙ (ap (λ z. cell_row (counted_slot (Some slot) z) (cell_in what)) (sym v) ∙ ap (cell_row (counted_slot (Some slot) verdict)) (sym c)) where
      by_verdict : (z : Verdict) → is_let_through z ≡ true
          → held_row slot (if is_attributed z then cell_in what else 64 + cell_in what) ≡ cell_row (counted_slot (Some slot) z) (cell_in what)
      by_verdict Attributed t = cell_of slot (cell_in what) (cell_small what)
      by_verdict Aside t = global_of slot (cell_in what)
      by_verdict _ t = absurd (false≢true t)

-- what became of the addition stands as the line asks
summary_fits : (slot : ℕ) (what : Open) (event : Opened) (answer : Added) → event.verdict ≡ what.verdict → event.subject.cell ≡ cell_in what → is_let_through what.verdict ≡ true
    → row_in answer ≡ held_row slot (cell_number what) → is_summary (counted_slot (Some slot) event.verdict) event.subject.cell (added_entry answer) ≡ true
summary_fits slot what event (Counted row version) v c through e = eq-eqb row _ (e ∙ summary_row slot what event.verdict event.subject.cell v c through)
summary_fits slot what event (Held row first second) v c through e = eq-eqb row _ (e ∙ summary_row slot what event.verdict event.subject.cell v c through)

-- the shape of an end
pub shaped_silent : (slot : Option ℕ) (event : Opened) → is_let_through event.verdict ≡ false → cut (ending slot event) (says.End None None None None ∷ []) ≡ Ok []
shaped_silent slot event silent =
    cut_one (asks.End (is_some slot && is_let_through event.verdict)) _ (says.End None None None None) []
    (ap (λ b. both_loaded (is_some slot && b) None None) silent ∙ never (is_some slot))
    ∙ (ap (λ b. cut (counting slot event b) []) silent ∙ cut_nothing []) where
      never : (b : Bool) → both_loaded (b && false) None None ≡ true
      never true = refl
      never false = refl

-- behind the addition stands what the kind of the event allows
pub shaped_through : (slot : ℕ) (event : Opened) (what : Open) (answer : Added) (more : List Entry) (number last consumers thread : ℕ) → event.verdict ≡ what.verdict
    → event.subject.cell ≡ cell_in what → is_let_through what.verdict ≡ true → row_in answer ≡ held_row slot (cell_number what)
    → cut (digest_of event.subject.kind ++ puts) more ≡ Ok []
    → cut (ending (Some slot) event) (says.End (Some number) (Some last) (Some consumers) (Some thread) ∷ added_entry answer ∷ more) ≡ Ok []
shaped_through slot event what answer more number last consumers thread v c through e rest =
    let own : is_let_through event.verdict ≡ true = ap is_let_through v ∙ through in
    cut_one (asks.End (is_some (Some slot) && is_let_through event.verdict)) _ _ _ (ap (λ b. both_loaded (true && b) (Some consumers) (Some thread)) own)
    ∙ (ap (λ b. cut (counting (Some slot) event b) (added_entry answer ∷ more)) own
    ∙ (cut_one (asks.Summary (counted_slot (Some slot) event.verdict) event.subject.cell) _ (added_entry answer) more
    (summary_fits slot what event answer v c through e) ∙ rest))

-- a statement may be added to its digest's row
added_digest : (answer : Added) → is_digest (added_entry answer) ≡ true
added_digest (Counted row version) = refl
added_digest (Held row first second) = refl

digest_more : (kind : EventKind) (answer : Added) (rings : List Entry) → is_statement kind ≡ true → cut puts rings ≡ Ok [] → cut (digest_of kind ++ puts) (added_entry answer ∷ rings) ≡ Ok []
digest_more kinds.Statement answer rings t p = cut_maybe asks.Digest puts (added_entry answer) rings (added_digest answer) ∙ p
digest_more kinds.Wait answer rings t p = absurd (false≢true t)
digest_more kinds.Stage answer rings t p = absurd (false≢true t)
digest_more kinds.Transaction answer rings t p = absurd (false≢true t)

pub first_of_three : (a b c : Bool) → (a && b && c) ≡ true → a ≡ true
first_of_three true b c t = refl
first_of_three false b c t = absurd (false≢true t)

-- only a statement is digested
statement_of : (flags : ℕ → ℕ → ℕ) (slot : Option ℕ) (event : Opened) → is_digested flags slot event ≡ true → is_statement event.subject.kind ≡ true
statement_of flags slot event t = first_of_three (is_statement event.subject.kind) _ _ t

-- an end by itself
pub record EndIs (flags : ℕ → ℕ → ℕ) (stack : ℕ) (line : Line) (context : Context) (entries : List Entry) (after : State) : Type 0 where
  pub event : Opened
  pub others : List Opened
  pub opened_is : context.opened ≡ event ∷ others
  pub shaped : cut (ending context.slot event) entries ≡ Ok []
  pub headed : is_headed entries ≡ true
  pub behind : Context
  pub piece : IsPiece flags stack line context entries behind
  pub behind_opened : behind.opened ≡ others
  pub behind_slot : behind.slot ≡ context.slot
  pub agrees : Agrees flags behind after

pub record Innermost (flags : ℕ → ℕ → ℕ) (slot : Option ℕ) (events : List Opened) (what : Open) (others : List Open) : Type 0 where
  pub event : Opened
  pub rest : List Opened
  pub is : events ≡ event ∷ rest
  pub alike : IsAlike flags slot event what
  pub rest_alike : AreAlike flags slot rest others

pub innermost_of : (flags : ℕ → ℕ → ℕ) (slot : Option ℕ) (events : List Opened) (what : Open) (others : List Open) → AreAlike flags slot events (what ∷ others)
    → Innermost flags slot events what others
innermost_of flags slot [] what others are = absurd are
innermost_of flags slot (e ∷ es) what others are = record { event = e; rest = es; is = refl; alike = are.0; rest_alike = are.1 }

end_numbered : (context : Context) (event : Opened) (rest : List Opened) (number last consumers thread : Option ℕ) → context.opened ≡ event ∷ rest → number ≡ event.number
    → last ≡ cond (is_let_through event.verdict) (Some context.drawn) None → IsNumbered context (says.End number last consumers thread)
end_numbered context event rest number last consumers thread o n l =
    (n ∙ ap ending_id (sym o), l ∙ ap (end_event_id context) (sym o))

end_silently : (flags : ℕ → ℕ → ℕ) (line : Line) (context : Context) (s after : State) (what : Open) (others : List Open) (calls : List Call) (entries : List Entry)
    → Agrees flags context s → Innermost flags s.place.thread context.opened what others → is_let_through what.verdict ≡ false → EndsSilently s others calls entries after
    → EndIs flags s.stack line context entries after
end_silently flags line context s after what others calls entries a i silent e =
    let own : is_let_through i.event.verdict ≡ false = ap is_let_through i.alike.verdict ∙ silent in
    let End : Entry = says.End None None None None in
    let number : None ≡ i.event.number = sym (i.alike.number ∙ ap (λ b. if b then Some what.event.number else None) silent) in
    let last : None ≡ cond (is_let_through i.event.verdict) (Some context.drawn) None = sym (ap (λ b. cond b (Some context.drawn) None) own) in
    record {
      event = i.event;
      others = i.rest;
      opened_is = i.is;
      shaped = ap (cut (ending context.slot i.event)) e.entries_are ∙ shaped_silent context.slot i.event own;
      headed = ap is_headed e.entries_are;
      behind = noted (subject_of line) context End;
      piece = subst (λ z. IsPiece flags s.stack line context z (noted (subject_of line) context End)) (sym e.entries_are)
          (piece_one flags s.stack line context End (judged_end s.stack flags (subject_of line) context None None None None)
          (end_numbered context i.event i.rest None None None None i.is number last));
      behind_opened = behind_opened_is (subject_of line);
      behind_slot = behind_slot_is (subject_of line);
      agrees = subst (λ z. Agrees flags (noted (subject_of line) context End) z) (sym e.after_is) (stands (subject_of line));
    } where
      behind_opened_is : (subject : Option Subject) → (noted subject context (says.End None None None None)).opened ≡ i.rest
      behind_opened_is None = ap (drop 1) i.is
      behind_opened_is (Some subject) = ap (drop 1) i.is

      behind_slot_is : (subject : Option Subject) → (noted subject context (says.End None None None None)).slot ≡ context.slot
      behind_slot_is None = refl
      behind_slot_is (Some subject) = refl

      stands : (subject : Option Subject) → Agrees flags (noted subject context (says.End None None None None)) (record s { opened = record s.opened { events = others } })
      stands None = record { slot = a.slot; opened = subst (λ z. AreAlike flags s.place.thread z others) (sym (ap (drop 1) i.is)) i.rest_alike; held = a.held; drawn = a.drawn; wide = a.wide; low = a.low }
      stands (Some subject) = record { slot = a.slot; opened = subst (λ z. AreAlike flags s.place.thread z others) (sym (ap (drop 1) i.is)) i.rest_alike; held = a.held; drawn = a.drawn; wide = a.wide; low = a.low }

abbrev held_by : Added → List ℕ → List ℕ
held_by (Counted row version) before = without_row row before
held_by (Held row first second) before = with_row row before

-- the rows that are held, behind an addition that was tried
rows_still : (slot cell : ℕ) (held : List (Option Stat)) (amount : Stat) (answer : Added) (before : List ℕ) → slot < 32 → cell < length held → row_in answer ≡ held_row slot cell
    → before ≡ rows slot 0 held → held_by answer before ≡ rows slot 0 (slice_set held cell (still_held amount answer))
rows_still slot cell held amount (Counted row version) before s lt r e =
    ap (λ z. remove_key (is_at (nat_cmp z)) before) (r ∙ ap (held_row slot) (omega arith)) ∙ ap (λ z. remove_key (is_at (nat_cmp (held_row slot (0 + cell)))) z) e
    ∙ rows_freed slot 0 cell held s lt
rows_still slot cell held amount (Held row first second) before s lt r e =
    ap (λ z. insert_key nat_cmp before z) (r ∙ ap (held_row slot) (omega arith)) ∙ ap (λ z. insert_key nat_cmp z (held_row slot (0 + cell))) e
    ∙ rows_held slot 0 cell held amount s lt

plain_added : (answer : Added) → is_plain (added_entry answer) ≡ true
plain_added (Counted row version) = refl
plain_added (Held row first second) = refl

-- the journal's context behind an addition that was tried
pub record AddedTo (subject : Option Subject) (context : Context) (answer : Added) : Type 0 where
  pub slot : (noted subject context (added_entry answer)).slot ≡ context.slot
  pub opened : (noted subject context (added_entry answer)).opened ≡ context.opened
  pub held : (noted subject context (added_entry answer)).held ≡ held_by answer context.held
  pub drawn : (noted subject context (added_entry answer)).drawn ≡ context.drawn

pub added_to : (subject : Option Subject) (context : Context) (answer : Added) → AddedTo subject context answer
added_to None context (Counted row version) = record { slot = refl; opened = refl; held = refl; drawn = refl }
added_to None context (Held row first second) = record { slot = refl; opened = refl; held = refl; drawn = refl }
added_to (Some subject) context (Counted row version) = record { slot = refl; opened = refl; held = refl; drawn = refl }
added_to (Some subject) context (Held row first second) = record { slot = refl; opened = refl; held = refl; drawn = refl }

-- and behind an end
pub record EndedFrom (subject : Option Subject) (context : Context) (number last consumers thread : Option ℕ) : Type 0 where
  pub slot : (noted subject context (says.End number last consumers thread)).slot ≡ context.slot
  pub opened : (noted subject context (says.End number last consumers thread)).opened ≡ drop 1 context.opened
  pub held : (noted subject context (says.End number last consumers thread)).held ≡ context.held
  pub drawn : (noted subject context (says.End number last consumers thread)).drawn ≡ context.drawn

pub ended_from : (subject : Option Subject) (context : Context) (number last consumers thread : Option ℕ) → EndedFrom subject context number last consumers thread
ended_from None context number last consumers thread = record { slot = refl; opened = refl; held = refl; drawn = refl }
ended_from (Some subject) context number last consumers thread = record { slot = refl; opened = refl; held = refl; drawn = refl }

pub cell_fits : (what : Open) (held : List (Option Stat)) → length held ≡ 193 → cell_number what < length held
cell_fits what held wide = fits (is_attributed what.verdict) where
  fits : (b : Bool) → (if b then cell_in what else 64 + cell_in what) < length held
  fits true = omega (arith, cell_small what, wide)
  fits false = omega (arith, cell_small what, wide)

wide_set : (held : List (Option Stat)) (cell : ℕ) (one : Option Stat) → length (slice_set held cell one) ≡ length held
wide_set held cell one = length-set held cell one

pub counted_cell : (flags : ℕ → ℕ → ℕ) (slot : Option ℕ) (event : Opened) (what : Open) → is_let_through what.verdict ≡ true → IsCounted flags slot (is_let_through what.verdict) event what
    → event.subject.cell ≡ cell_in what
counted_cell flags slot event what through c =
    let d : IsCounted flags slot true event what = subst (λ b. IsCounted flags slot b event what) through c in
    d.0

-- the number of a digest's row is one of those for which a session may hold something
pub digest_fits : (what : Open) (held : List (Option Stat)) → length held ≡ 193 → digest_number what < length held
digest_fits what held wide = omega (arith, what.event.link_fits, wide)

-- and its row is that of the digest
pub digest_of_number : (slot : ℕ) (what : Open) (row : ℕ) → row ≡ 8385 + what.event.link → held_row slot (digest_number what) ≡ row
digest_of_number slot what row e =
    ap (λ b. if b then 129 + 64 * slot + (128 + what.event.link) else 8257 + (128 + what.event.link)) (le-ltb (128 + what.event.link) 64 (omega arith))
    ∙ omega (arith, e)

-- a session stands behind an addition that was tried as its journal tells
pub adds_agrees : (flags : ℕ → ℕ → ℕ) (subject : Option Subject) (context : Context) (s : State) (slot cell : ℕ) (amount : Stat) (answer : Added) → Agrees flags context s
    → s.place.thread ≡ Some slot → cell < length s.held → row_in answer ≡ held_row slot cell
    → Agrees flags (noted subject context (added_entry answer)) (record s { held = slice_set s.held cell (still_held amount answer) })
adds_agrees flags subject context s slot cell amount answer a seat fits row =
    let d : AddedTo subject context answer = added_to subject context answer in
    let low : slot < 32 = subst (λ z. IfSome z (λ k. k < 32)) seat a.low in
    let held : List (Option Stat) = slice_set s.held cell (still_held amount answer) in
    let before : context.held ≡ rows slot 0 s.held = a.held ∙ ap (λ z. map row_owed (owed_in z s.held)) seat in
    record {
      slot = d.slot ∙ a.slot;
      opened = subst (λ z. AreAlike flags s.place.thread z s.opened.events) (sym d.opened) a.opened;
      held = d.held ∙ (rows_still slot cell s.held amount answer context.held low fits row before ∙ sym (ap (λ z. map row_owed (owed_in z held)) seat));
      drawn = d.drawn ∙ a.drawn;
      wide = wide_set s.held cell (still_held amount answer) ∙ a.wide;
      low = a.low;
    }

-- what stands behind an end and the addition to the cell's row
record CountedIs (flags : ℕ → ℕ → ℕ) (stack : ℕ) (line : Line) (context : Context) (others : List Opened) (entries : List Entry) (after : State) : Type 0 where
  pub behind : Context
  pub piece : IsPiece flags stack line context entries behind
  pub behind_opened : behind.opened ≡ others
  pub behind_slot : behind.slot ≡ context.slot
  pub agrees : Agrees flags behind after

end_counted : (flags : ℕ → ℕ → ℕ) (line : Line) (context : Context) (s after : State) (slot : ℕ) (what : Open) (others : List Open) (numbers : Numbers) (calls : List Call)
    (entries : List Entry) → Agrees flags context s → s.place.thread ≡ Some slot → (i : Innermost flags s.place.thread context.opened what others) → is_let_through what.verdict ≡ true
    → EndsCounted s slot what others numbers calls entries after → CountedIs flags s.stack line context i.rest entries after
end_counted flags line context s after slot what others numbers calls entries a seat i through e =
    let subject : Option Subject = subject_of line in
    let own : is_let_through i.event.verdict ≡ true = ap is_let_through i.alike.verdict ∙ through in
    let n : Option ℕ = Some what.event.number in
    let l : Option ℕ = Some s.drawn in
    let c : Option ℕ = Some e.consumers.version in
    let t : Option ℕ = Some e.thread.version in
    let End : Entry = says.End n l c t in
    let mid : Context = noted subject context End in
    let m : EndedFrom subject context n l c t = ended_from subject context n l c t in
    let d : AddedTo subject mid e.answer = added_to subject mid e.answer in
    let number : n ≡ i.event.number = sym (i.alike.number ∙ ap (λ b. if b then Some what.event.number else None) through) in
    let last : l ≡ cond (is_let_through i.event.verdict) (Some context.drawn) None = ap (λ z. Some z) (sym a.drawn) ∙ sym (ap (λ b. cond b (Some context.drawn) None) own) in
    let amount : Stat = with_held (held_at s.held (cell_number what)) (amount_of what s.clock numbers) in
    let closed : State = record s { opened = record s.opened { events = others } } in
    let stands : Agrees flags mid closed = record {
      slot = m.slot ∙ a.slot;
      opened = subst (λ z. AreAlike flags s.place.thread z others) (sym (m.opened ∙ ap (drop 1) i.is)) i.rest_alike;
      held = m.held ∙ a.held;
      drawn = m.drawn ∙ a.drawn;
      wide = a.wide;
      low = a.low;
    } in
    record {
      behind = noted subject mid (added_entry e.answer);
      piece = subst (λ z. IsPiece flags s.stack line context z (noted subject mid (added_entry e.answer))) (sym e.entries_are)
          (piece_then flags s.stack line context mid (noted subject mid (added_entry e.answer)) (End ∷ []) (added_entry e.answer ∷ [])
          (piece_one flags s.stack line context End (judged_end s.stack flags subject context n l c t) (end_numbered context i.event i.rest n l c t i.is number last))
          (piece_plain flags s.stack line mid (added_entry e.answer) (plain_added e.answer)));
      behind_opened = d.opened ∙ (m.opened ∙ ap (drop 1) i.is);
      behind_slot = d.slot ∙ m.slot;
      agrees = subst (λ z. Agrees flags (noted subject mid (added_entry e.answer)) z) (sym e.after_is)
          (adds_agrees flags subject mid closed slot (cell_number what) amount e.answer stands seat (cell_fits what s.held a.wide) e.row_is);
    }

-- what stands behind an end, the addition to the cell's row, and a digested statement's to the row of its digest
record AddedIs (flags : ℕ → ℕ → ℕ) (stack : ℕ) (line : Line) (context : Context) (event : Opened) (others : List Opened) (entries : List Entry) (after : State) : Type 0 where
  pub shaped : (rings : List Entry) → AreAll true is_ring rings → cut puts rings ≡ Ok [] → cut (ending context.slot event) (entries ++ rings) ≡ Ok []
  pub headed : (rings : List Entry) → is_headed (entries ++ rings) ≡ true
  pub behind : Context
  pub piece : IsPiece flags stack line context entries behind
  pub behind_opened : behind.opened ≡ others
  pub behind_slot : behind.slot ≡ context.slot
  pub agrees : Agrees flags behind after

end_added : (flags : ℕ → ℕ → ℕ) (line : Line) (context : Context) (s after : State) (slot : ℕ) (what : Open) (others : List Open) (numbers : Numbers) (calls : List Call)
    (entries : List Entry) → Agrees flags context s → s.place.thread ≡ Some slot → (i : Innermost flags s.place.thread context.opened what others) → is_let_through what.verdict ≡ true
    → EndsAdded s slot what others numbers calls entries after → AddedIs flags s.stack line context i.event i.rest entries after
end_added flags line context s after slot what others numbers calls entries a seat i through e = by_digest what.digested refl e.digests where
  first : CountedIs flags s.stack line context i.rest e.counted_entries e.between
  first = end_counted flags line context s e.between slot what others numbers e.counted_calls e.counted_entries a seat i through e.counts

  End : Entry
  End = says.End (Some what.event.number) (Some s.drawn) (Some e.counts.consumers.version) (Some e.counts.thread.version)

  -- the entries, and their shape
  whole_of : (more : List Entry) → e.digested_entries ≡ more → entries ≡ End ∷ added_entry e.counts.answer ∷ more
  whole_of more m = e.entries_are ∙ (ap (λ z. z ++ e.digested_entries) e.counts.entries_are ∙ ap (λ z. End ∷ added_entry e.counts.answer ∷ z) m)

  shape_of : (more rings : List Entry) → e.digested_entries ≡ more → cut (digest_of i.event.subject.kind ++ puts) (more ++ rings) ≡ Ok [] → cut (ending context.slot i.event) (entries ++ rings) ≡ Ok []
  shape_of more rings m rest =
      ap (λ z. cut (ending z i.event) (entries ++ rings)) (a.slot ∙ seat)
      ∙ (ap (λ z. cut (ending (Some slot) i.event) (z ++ rings)) (whole_of more m)
      ∙ shaped_through slot i.event what e.counts.answer (more ++ rings) what.event.number s.drawn e.counts.consumers.version e.counts.thread.version i.alike.verdict
      (counted_cell flags s.place.thread i.event what through i.alike.counted) through e.counts.row_is rest)

  head_of : (rings : List Entry) → is_headed (entries ++ rings) ≡ true
  head_of rings = ap (λ z. is_headed (z ++ rings)) (whole_of e.digested_entries refl)

  by_digest : (b : Bool) → what.digested ≡ b → DigestsIn b e.between slot what numbers e.digested_calls e.digested_entries after
      → AddedIs flags s.stack line context i.event i.rest entries after
  by_digest false q d =
      let same : entries ≡ e.counted_entries = e.entries_are ∙ (ap (λ z. e.counted_entries ++ z) d.entries_are ∙ append-nil e.counted_entries) in
      record {
        shaped = λ rings r p. shape_of [] rings d.entries_are (nothing_more i.event.subject.kind rings r p);
        headed = head_of;
        behind = first.behind;
        piece = subst (λ z. IsPiece flags s.stack line context z first.behind) (sym same) first.piece;
        behind_opened = first.behind_opened;
        behind_slot = first.behind_slot;
        agrees = subst (Agrees flags first.behind) (sym d.after_is) first.agrees;
      }
  by_digest true q d =
      let subject : Option Subject = subject_of line in
      let added : AddedTo subject first.behind d.answer = added_to subject first.behind d.answer in
      let last : Context = noted subject first.behind (added_entry d.answer) in
      let between : e.between.place.thread ≡ Some slot = ap (λ (z : State). z.place.thread) e.counts.after_is ∙ seat in
      let sum : Stat = with_held (held_at e.between.held (digest_number what)) (amount_of what e.between.clock numbers) in
      record {
        shaped = λ rings r p. shape_of (added_entry d.answer ∷ []) rings d.entries_are
            (digest_more i.event.subject.kind d.answer rings (statement_of flags s.place.thread i.event (i.alike.digested ∙ q)) p);
        headed = head_of;
        behind = last;
        piece = subst (λ z. IsPiece flags s.stack line context z last) (sym (e.entries_are ∙ ap (λ z. e.counted_entries ++ z) d.entries_are))
            (piece_then flags s.stack line context first.behind last e.counted_entries (added_entry d.answer ∷ []) first.piece
            (piece_plain flags s.stack line first.behind (added_entry d.answer) (plain_added d.answer)));
        behind_opened = added.opened ∙ first.behind_opened;
        behind_slot = added.slot ∙ first.behind_slot;
        agrees = subst (Agrees flags last) (sym d.after_is)
            (adds_agrees flags subject first.behind e.between slot (digest_number what) sum d.answer first.agrees between (digest_fits what e.between.held first.agrees.wide) d.row_is);
      }

-- an end that is added, and behind it the puts
end_through : (flags : ℕ → ℕ → ℕ) (line : Line) (context : Context) (s after : State) (slot : ℕ) (what : Open) (others : List Open) (numbers : Numbers) (calls : List Call)
    (entries : List Entry) → Agrees flags context s → s.place.thread ≡ Some slot → Innermost flags s.place.thread context.opened what others → is_let_through what.verdict ≡ true
    → EndsThrough s slot what others numbers calls entries after → EndIs flags s.stack line context entries after
end_through flags line context s after slot what others numbers calls entries a seat i through e =
    let first : AddedIs flags s.stack line context i.event i.rest e.added_entries e.among =
    end_added flags line context s e.among slot what others numbers e.added_calls e.added_entries a seat i through e.adds in
    let ringed : AreAll true is_ring e.ring_entries = rings_of e.among slot what numbers _ _ e.ring_calls e.ring_entries after e.puts in
    let shape : cut puts e.ring_entries ≡ Ok [] = puts_cut e.among slot what numbers _ _ e.ring_calls e.ring_entries after e.puts in
    let g : Agrees flags first.behind e.among = first.agrees in
    record {
      event = i.event;
      others = i.rest;
      opened_is = i.is;
      shaped = ap (cut (ending context.slot i.event)) e.entries_are ∙ first.shaped e.ring_entries ringed shape;
      headed = ap is_headed e.entries_are ∙ first.headed e.ring_entries;
      behind = first.behind;
      piece = subst (λ z. IsPiece flags s.stack line context z first.behind) (sym e.entries_are)
          (piece_then flags s.stack line context first.behind first.behind e.added_entries e.ring_entries first.piece
          (rings_piece flags s.stack line first.behind e.ring_entries ringed));
      behind_opened = first.behind_opened;
      behind_slot = first.behind_slot;
      agrees = subst (Agrees flags first.behind) (sym e.puts.after_is)
          (record { slot = g.slot; opened = g.opened; held = g.held; drawn = g.drawn; wide = g.wide; low = g.low });
    }

-- an end, of whatever event
pub end_is : (flags : ℕ → ℕ → ℕ) (line : Line) (context : Context) (s after : State) (numbers : Numbers) (calls : List Call) (entries : List Entry)
    → Agrees flags context s → Ends s numbers calls entries after → EndIs flags s.stack line context entries after
end_is flags line context s after numbers calls entries a e =
    by_case s.place.thread (is_let_through e.what.verdict) refl refl e.ends where
      inner : Innermost flags s.place.thread context.opened e.what e.others
      inner = innermost_of flags s.place.thread context.opened e.what e.others (subst (λ z. AreAlike flags s.place.thread context.opened z) e.innermost a.opened)

      by_case : (slot : Option ℕ) (b : Bool) → s.place.thread ≡ slot → is_let_through e.what.verdict ≡ b → EndsIn s slot b e.what e.others numbers calls entries after
          → EndIs flags s.stack line context entries after
      by_case slot false o t x = end_silently flags line context s after e.what e.others calls entries a inner t x
      by_case None true o t x = absurd x
      by_case (Some slot) true o t x = end_through flags line context s after slot e.what e.others numbers calls entries a o inner t x
