-- What the entries of lines and their calls tell is the same.
use Rattle.std.proofs.Common.{ℕ, ◌≡◌, ◌==◌, Bool, true, false, List, [], ◌∷◌, ◌++◌, Option, Some, None, cond, refl, ap, sym, ◌∙◌, subst}
use Rattle.std.proofs.lemmas.List.{append_assoc}
use Rattle.pfs_event.specs.declared.entry.Entry.{Entry}
use Rattle.pfs_event.specs.declared.open.Open.{Open}
use Rattle.pfs_model.specs.declared.lines.Line.{Line}
use Rattle.pfs_model.specs.declared.lines.Subject.{Subject}
use Rattle.pfs_model.specs.Contexts.{Context, noted, after, after_entries, subject_of, turned}
use Rattle.pfs_model.specs.Contexts.{fresh as empty}
use Rattle.pfs_model.specs.EntryPlaces.{Placed, placed_part, placed_lines, after_lines}
use Rattle.pfs_model.specs.Shapes.{is_stage}
use Rattle.pfs_rows.specs.declared.table.Reading.{Reading}
use Rattle.pfs_session.specs.Ends.{no_numbers}
use Rattle.pfs_session.specs.SessionStates.{State, fresh}
use Rattle.pfs_session.specs.declared.remarks.Remark.TheVariants.{Rows}
use Rattle.pfs_session.specs.Turns.{Step, StartsEvent, EndsEvent, Turn, AreTurns, state_after, steps_of, turns_entries, stage_ends}
use Rattle.pfs_law_session.specs.Deeds.{Deed, Connecting, Starting, Staging, StageEnding, Ending, Spending, Quitting, Truncating, Changing, Showing, Querying, Refusing, Closing, Part, IsPart, looks, remark, steps_for, line_of, part_entries}
use Rattle.pfs_law_session.proofs.Stints.{own_places, own_is, IfOwn, AreOwn, own_stints}
use Rattle.pfs_law_session.specs.JournalLaws.{AreParts, lines_of, entries_of, state_behind, over_behind}
use Rattle.pfs_law_session.specs.Stints.{Stint, IsStint, parts_by, resumed}
use Rattle.pfs_law_plain.specs.Notes.{Note, notes_at, notes_in, notes_of}
use Rattle.pfs_law_plain.specs.SessionNotes.{Sits, turns_notes, parts_notes, AreTold, ToldLaw, ToldThroughLaw}
use Rattle.pfs_law_plain.proofs.InnerEntries.{notes_then, entries_then}
use Rattle.pfs_law_plain.proofs.StepNotes.{IsOf, does_told}

abbrev pub AreOf : Option Subject → List Step → Type 0
AreOf subject [] = Unit {0}
AreOf subject (x ∷ xs) = IsOf subject x × AreOf subject xs

of_front : (subject : Option Subject) (xs ys : List Step) → AreOf subject (xs ++ ys) → AreOf subject xs
of_front subject [] ys a = tt
of_front subject (x ∷ xs) ys a = (a.0, of_front subject xs ys a.1)

of_back : (subject : Option Subject) (xs ys : List Step) → AreOf subject (xs ++ ys) → AreOf subject ys
of_back subject [] ys a = a
of_back subject (x ∷ xs) ys a = of_back subject xs ys a.1

of_then : (subject : Option Subject) (xs ys : List Step) → AreOf subject xs → AreOf subject ys → AreOf subject (xs ++ ys)
of_then subject [] ys a b = b
of_then subject (x ∷ xs) ys a b = (a.0, of_then subject xs ys a.1 b)

record TurnsTold (subject : Option Subject) (context : Context) (notes : List Note) (entries : List Entry) (after : State) : Type 0 where
  pub same : notes_in subject context entries ≡ notes
  pub sits : Sits (after_entries subject context entries) after

turns_told : (subject : Option Subject) (context : Context) (s : State) (turns : List Turn) → Sits context s → AreOf subject (steps_of turns) → AreTurns s turns
    → TurnsTold subject context (turns_notes turns) (turns_entries turns) (state_after s turns)
turns_told subject context s [] sits of are = record { same = refl; sits = sits }
turns_told subject context s (t ∷ ts) sits of are =
    let r = turns_told subject context s ts sits (of_front subject (steps_of ts) (t.step ∷ []) of) are.1 in
    let mid : Context = after_entries subject context (turns_entries ts) in
    let d = does_told subject mid (state_after s ts) t.step t.calls t.entries t.after (of_back subject (steps_of ts) (t.step ∷ []) of).0 r.sits are.0 in
    record {
      same = notes_then subject context (turns_entries ts) t.entries ∙ (ap (λ z. z ++ notes_in subject mid t.entries) r.same ∙ ap (λ z. turns_notes ts ++ z) d.same);
      sits = subst (λ z. Sits z t.after) (sym (entries_then subject context (turns_entries ts) t.entries)) d.sits;
    }

stage_of : (subject : Option Subject) (events : List Open) → AreOf subject (stage_ends events)
stage_of subject [] = tt
stage_of subject (what ∷ events) = by_test (is_stage what.kind) where
  by_test : (b : Bool) → AreOf subject (cond b (EndsEvent no_numbers ∷ []) [])
  by_test true = (tt, tt)
  by_test false = tt

looks_of : (found : List Reading) → AreOf None (looks found)
looks_of [] = tt
looks_of (reading ∷ found) = (tt, looks_of found)

deed_of : (s : State) (deed : Deed) → AreOf (subject_of (line_of deed)) (steps_for s deed)
deed_of s (Connecting admin user host) = (tt, tt)
deed_of s (Starting subject) = (refl, tt)
deed_of s (Staging subject) = of_then (Some subject) (stage_ends s.opened.events) (StartsEvent subject ∷ []) (stage_of (Some subject) s.opened.events) (refl, tt)
deed_of s StageEnding = of_then None (stage_ends s.opened.events) [] (stage_of None s.opened.events) tt
deed_of s (Ending numbers) = of_then None (stage_ends s.opened.events) (EndsEvent numbers ∷ []) (stage_of None s.opened.events) (tt, tt)
deed_of s (Spending time) = (tt, tt)
deed_of s (Quitting admin) = (tt, (tt, tt))
deed_of s (Truncating admin what) = (tt, (tt, tt))
deed_of s (Changing admin what) = (tt, (tt, tt))
deed_of s (Showing admin count) = (tt, (tt, (tt, tt)))
deed_of s (Querying found count) = (tt, of_then None (looks found) (remark (Rows count) ∷ []) (looks_of found) (tt, tt))
deed_of s (Refusing error) = (tt, tt)
deed_of s Closing = (tt, tt)

part_told : (context : Context) (s : State) (p : Part) → Sits context s → IsPart s p
    → TurnsTold (subject_of (line_of p.deed)) (turned context) (turns_notes p.turns) (part_entries p) (state_after s p.turns)
part_told context s p sits is =
    let subject = subject_of (line_of p.deed) in
    turns_told subject (turned context) s p.turns (λ thread q. sits thread q) (subst (AreOf subject) (sym is.steps_are) (deed_of s p.deed)) is.are_turns

pub notes_join : (xs ys : List Placed) → notes_of (xs ++ ys) ≡ notes_of xs ++ notes_of ys
notes_join [] ys = refl
notes_join (x ∷ xs) ys = ap (λ z. notes_at (subject_of x.line) x.context x.entry ++ z) (notes_join xs ys) ∙ sym (append_assoc (notes_at (subject_of x.line) x.context x.entry) (notes_of xs) (notes_of ys))

part_notes : (phase session : ℕ) (line : Line) (context : Context) (es : List Entry) → notes_of (placed_part phase session line context es) ≡ notes_in (subject_of line) context es
part_notes phase session line context [] = refl
part_notes phase session line context (e ∷ es) =
    ap (λ z. notes_at (subject_of line) context e ++ z) (part_notes phase session line (noted (subject_of line) context e) es)

pub told_all : ToldLaw
told_all = λ context s parts sits are. all context s parts sits are where
  all : (context : Context) (s : State) (parts : List Part) → Sits context s → AreParts s parts → AreTold context s parts
  all context s [] sits are = record { same = λ phase session. refl; sits = sits }
  all context s (p ∷ ps) sits are =
      let line : Line = line_of p.deed in
      let entries : List Entry = part_entries p in
      let t = part_told context s p sits are.0 in
      let next : Context = after context line entries in
      let r = all next (state_after s p.turns) ps t.sits are.1 in
      record {
        same = λ phase session.
            notes_join (placed_part phase session line (turned context) entries) (placed_lines phase session next (lines_of ps) (entries_of ps))
            ∙ (ap (λ z. z ++ notes_of (placed_lines phase session next (lines_of ps) (entries_of ps))) (part_notes phase session line (turned context) entries ∙ t.same)
            ∙ ap (λ z. turns_notes p.turns ++ z) (r.same phase session));
        sits = r.sits;
      }

-- of a session's own stints
parts_notes_then : (xs ys : List Part) → parts_notes (xs ++ ys) ≡ parts_notes xs ++ parts_notes ys
parts_notes_then [] ys = refl
parts_notes_then (x ∷ xs) ys = ap (λ z. turns_notes x.turns ++ z) (parts_notes_then xs ys) ∙ sym (append_assoc (turns_notes x.turns) (parts_notes xs) (parts_notes ys))

abbrev IsOwnTold : ℕ → List Stint → Bool → Context → State → Type 0
IsOwnTold session stints over context s = Sits context s → AreOwn session over s stints → notes_of (own_places session context stints) ≡ parts_notes (parts_by session stints)

own_told : (session : ℕ) (stints : List Stint) (over : Bool) (context : Context) (s : State) → Sits context s → AreOwn session over s stints
    → notes_of (own_places session context stints) ≡ parts_notes (parts_by session stints)
own_told session [] over context s sits are = refl
own_told session (stint ∷ stints) over context s sits are = at (stint.session == session) (own_told session stints) are where
  at : (b : Bool) → ((over : Bool) (context : Context) (s : State) → IsOwnTold session stints over context s)
      → IfOwn b over s stint.parts × AreOwn session (cond b (over_behind over stint.parts) over) (cond b (resumed (state_behind s stint.parts)) s) stints
      → notes_of (cond b (placed_lines stint.phase session context (lines_of stint.parts) (entries_of stint.parts)) []
      ++ own_places session (cond b (after_lines context (lines_of stint.parts) (entries_of stint.parts)) context) stints) ≡ parts_notes (cond b stint.parts [] ++ parts_by session stints)
  at true rest are =
      let ps : List Part = stint.parts in
      let is : IsStint over s ps = are.0 in
      let l = told_all context s ps sits is.are_parts in
      let now : Context = after_lines context (lines_of ps) (entries_of ps) in
      let here : List Placed = placed_lines stint.phase session context (lines_of ps) (entries_of ps) in
      let others : List Placed = own_places session now stints in
      notes_join here others
      ∙ (ap (λ z. z ++ notes_of others) (l.same stint.phase session)
      ∙ (ap (λ z. parts_notes ps ++ z) (rest (over_behind over ps) now (resumed (state_behind s ps)) (λ thread q. l.sits thread q) are.1) ∙ sym (parts_notes_then ps (parts_by session stints))))
  at false rest are = rest over context s sits are.1

pub told_through : ToldThroughLaw
told_through = λ stack depths session stints are.
    ap notes_of (own_is session [] empty stints refl)
    ∙ own_told session stints false empty (fresh session stack (depths session)) (λ thread q. q) (own_stints stack depths session [] 0 stints are)
