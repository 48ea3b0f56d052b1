-- The labels of a store are those of the printed actions.
use Rattle.std.proofs.Common.{ℕ, zero, suc, ◌≡◌, ◌+◌, ◌-◌, ◌==◌, Bool, true, false, cond, List, [], ◌∷◌, ◌++◌, length, Option, Some, None, refl, ap, sym, ◌∙◌, subst, length-append, arith}
use Rattle.std.specs.Prelude.{IfSome, slice_get}
use Rattle.std.proofs.lemmas.List.{append_assoc, append-nil}
use Rattle.std.proofs.lemmas.Option.{same_Some}
use Rattle.pfs_law_plain.proofs.InnerEntries.{told_then}
use Rattle.pfs_law_plain.proofs.LineNotes.{told_through}
use Rattle.pfs_law_plain.proofs.NextNotes.{acts}
use Rattle.pfs_law_plain.specs.Notes.{saw_all, notes_at, notes_of, all_told}
use Rattle.pfs_law_plain.specs.Spells.{Doing, Spell, around, entering, doing_calls, doings_calls, parts_in, stints_of, calls_of}
use Rattle.pfs_law_plain.specs.SessionNotes.{head_of, turns_notes, parts_notes}
use Rattle.pfs_board.specs.declared.view.Label.{Label}
use Rattle.pfs_event.specs.declared.entry.Entry.{Entry}
use Rattle.pfs_event.specs.declared.entry.Entry.TheVariants as says
use Rattle.pfs_event.specs.declared.open.Open.{Open}
use Rattle.pfs_levels.specs.Calls.{Call}
use Rattle.pfs_model.specs.Actions.{numbers_by}
use Rattle.pfs_model.specs.Chains.{action_change, change_at, each_of}
use Rattle.pfs_model.specs.Contexts.{Context, subject_of}
use Rattle.pfs_model.specs.EntryPlaces.{Placed, places, by_session}
use Rattle.pfs_model.specs.SetupFlags.{loads_at}
use Rattle.pfs_model.specs.Shapes.{is_stage}
use Rattle.pfs_model.specs.declared.changes.Change.{Change}
use Rattle.pfs_model.specs.declared.lines.Subject.{Subject}
use Rattle.pfs_law_session.specs.Deeds.{Deed, Connecting, Starting, Staging, StageEnding, Ending, Spending, Quitting, Truncating, Changing, Showing, Querying, Refusing, Closing, Part, IsPart, action_of, looks, part_calls, remark, steps_for}
use Rattle.pfs_law_session.specs.JournalLaws.{AreParts}
use Rattle.pfs_law_session.specs.Stints.{Stint, AreStints, AreDone, blocks_of, parts_by}
use Rattle.pfs_rows.specs.declared.table.Reading.{Reading}
use Rattle.pfs_session.specs.Ends.{no_numbers}
use Rattle.pfs_session.specs.SessionStates.{State}
use Rattle.pfs_session.specs.Turns.{Step, StartsEvent, EndsEvent, Turn, state_after, steps_of, stage_ends}
use Rattle.pfs_session.specs.declared.remarks.Remark.TheVariants.{Rows}
use Rattle.pfs_runs.specs.Labels.{AreLabels}
use Rattle.pfs_law_plain.proofs.ActionCounts.{AreLined, AllLined, none_made, one_of}
use Rattle.pfs_law_plain.proofs.EnteredLabels.{label_by, labels_in, all_labels}
use Rattle.pfs_law_plain.proofs.LabelWork.{StandsAmong, StandAmong, AllStandAmong}
use Rattle.pfs_law_plain.proofs.ConnectSlots.{own_doings, own_parts, own_lined}
use Rattle.pfs_law_plain.proofs.InnerCalls.{AreWithin, TurnsWithin, turns_within, calls_within, acts_then, no_acts}

-- the actions that entries begin are those that they tell
saw_none : (loads : List Change) → acts (saw_all loads) ≡ []
saw_none [] = refl
saw_none (l ∷ ls) = saw_none ls

entry_acts : (subject : Option Subject) (context : Context) (e : Entry) → acts (notes_at subject context e) ≡ action_change e
entry_acts subject context (says.Start event verdict consumers thread class table) = saw_none (loads_at subject context (says.Start event verdict consumers thread class table))
entry_acts subject context (says.End event last consumers thread) = saw_none (loads_at subject context (says.End event last consumers thread))
entry_acts subject context (says.Connect action thread account user host) = refl
entry_acts subject context (says.Act action) = refl
entry_acts subject context _ = refl

pub places_acts : (ps : List Placed) → each_of action_change ps ≡ acts (notes_of ps)
places_acts [] = refl
places_acts (p ∷ ps) =
    ap (λ z. action_change p.entry ++ z) (places_acts ps)
    ∙ (ap (λ z. z ++ acts (notes_of ps)) (sym (entry_acts (subject_of p.line) p.context p.entry)) ∙ sym (acts_then (notes_at (subject_of p.line) p.context p.entry) (notes_of ps)))

own_acts : (session : ℕ) (ps : List Placed) → numbers_by session ps ≡ each_of action_change (by_session session ps)
own_acts session [] = refl
own_acts session (p ∷ ps) = at (p.session == session) (own_acts session ps) where
  at : (b : Bool) → numbers_by session ps ≡ each_of action_change (by_session session ps) → cond b (action_change p.entry) [] ++ numbers_by session ps ≡ each_of action_change (cond b (p ∷ []) [] ++ by_session session ps)
  at true e = ap (λ z. action_change p.entry ++ z) e
  at false e = e

-- those of lines
abbrev act_by : Option ℕ → List Change
act_by None = []
act_by (Some number) = change_at 0 number ∷ []

abbrev acts_of : List Part → List Change
acts_of [] = []
acts_of (p ∷ ps) = act_by (action_of p.deed) ++ acts_of ps

abbrev heads : List Step → List Change
heads [] = []
heads (step ∷ steps) = acts (head_of step) ++ heads steps

heads_then : (xs ys : List Step) → heads (xs ++ ys) ≡ heads xs ++ heads ys
heads_then [] ys = refl
heads_then (x ∷ xs) ys = ap (λ z. acts (head_of x) ++ z) (heads_then xs ys) ∙ sym (append_assoc (acts (head_of x)) (heads xs) (heads ys))

turns_acts : (turns : List Turn) → TurnsWithin turns → acts (turns_notes turns) ≡ heads (steps_of turns)
turns_acts [] w = refl
turns_acts (t ∷ ts) w =
    acts_then (turns_notes ts) (head_of t.step ++ all_told t.calls)
    ∙ (ap (λ z. z ++ acts (head_of t.step ++ all_told t.calls)) (turns_acts ts w.1)
    ∙ (ap (λ z. heads (steps_of ts) ++ z) (acts_then (head_of t.step) (all_told t.calls) ∙ ap (λ z. acts (head_of t.step) ++ z) (no_acts t.calls w.0))
    ∙ sym (heads_then (steps_of ts) (t.step ∷ []))))

stage_heads : (events : List Open) (rest : List Step) → heads (stage_ends events ++ rest) ≡ heads rest
stage_heads [] rest = refl
stage_heads (what ∷ events) rest = by_test (is_stage what.kind) where
  by_test : (b : Bool) → heads (cond b (EndsEvent no_numbers ∷ []) [] ++ rest) ≡ heads rest
  by_test true = refl
  by_test false = refl

looks_heads : (readings : List Reading) (rest : List Step) → heads (looks readings ++ rest) ≡ heads rest
looks_heads [] rest = refl
looks_heads (reading ∷ readings) rest = looks_heads readings rest

deed_heads : (s : State) (deed : Deed) → heads (steps_for s deed) ≡ act_by (action_of deed)
deed_heads s (Connecting admin user host) = refl
deed_heads s (Quitting admin) = refl
deed_heads s (Truncating admin what) = refl
deed_heads s (Changing admin what) = refl
deed_heads s (Showing admin count) = refl
deed_heads s (Querying readings count) = looks_heads readings (remark (Rows count) ∷ [])
deed_heads s (Refusing error) = refl
deed_heads s (Starting subject) = refl
deed_heads s (Staging subject) = stage_heads s.opened.events (StartsEvent subject ∷ [])
deed_heads s StageEnding = stage_heads s.opened.events []
deed_heads s (Ending numbers) = stage_heads s.opened.events (EndsEvent numbers ∷ [])
deed_heads s (Spending time) = refl
deed_heads s Closing = refl

part_acts : (s : State) (p : Part) → IsPart s p → acts (turns_notes p.turns) ≡ act_by (action_of p.deed)
part_acts s p is = turns_acts p.turns (turns_within s p.turns is.are_turns) ∙ (ap heads is.steps_are ∙ deed_heads s p.deed)

parts_acts : (s : State) (ps : List Part) → AreParts s ps → acts (parts_notes ps) ≡ acts_of ps
parts_acts s [] are = refl
parts_acts s (p ∷ ps) are =
    acts_then (turns_notes p.turns) (parts_notes ps)
    ∙ (ap (λ z. z ++ acts (parts_notes ps)) (part_acts s p are.0) ∙ ap (λ z. act_by (action_of p.deed) ++ z) (parts_acts (state_after s p.turns) ps are.1))

notes_then : (xs ys : List Part) → parts_notes (xs ++ ys) ≡ parts_notes xs ++ parts_notes ys
notes_then [] ys = refl
notes_then (x ∷ xs) ys = ap (λ z. turns_notes x.turns ++ z) (notes_then xs ys) ∙ sym (append_assoc (turns_notes x.turns) (parts_notes xs) (parts_notes ys))

of_then : (xs ys : List Part) → acts_of (xs ++ ys) ≡ acts_of xs ++ acts_of ys
of_then [] ys = refl
of_then (x ∷ xs) ys = ap (λ z. act_by (action_of x.deed) ++ z) (of_then xs ys) ∙ sym (append_assoc (act_by (action_of x.deed)) (acts_of xs) (acts_of ys))

stints_acts : (session : ℕ) (stints : List Stint) → AreDone stints → acts (parts_notes (parts_by session stints)) ≡ acts_of (parts_by session stints)
stints_acts session [] done = refl
stints_acts session (stint ∷ stints) done =
    let own : List Part = cond (stint.session == session) stint.parts [] in
    ap acts (notes_then own (parts_by session stints))
    ∙ (acts_then (parts_notes own) (parts_notes (parts_by session stints))
    ∙ (ap (λ z. z ++ acts (parts_notes (parts_by session stints))) (at (stint.session == session))
    ∙ (ap (λ z. acts_of own ++ z) (stints_acts session stints done.1) ∙ sym (of_then own (parts_by session stints))))) where
      at : (b : Bool) → acts (parts_notes (cond b stint.parts [])) ≡ acts_of (cond b stint.parts [])
      at true = parts_acts done.0.from stint.parts done.0.are_parts
      at false = refl

-- a session's numbers are those of its lines
session_numbers : (stack : ℕ) (depths : ℕ → ℕ) (session : ℕ) (spells : List Spell) → AreStints stack depths (stints_of spells) → AreDone (stints_of spells)
    → numbers_by session (places (blocks_of (stints_of spells))) ≡ acts_of (parts_in (own_doings session spells))
session_numbers stack depths session spells are done =
    let all : List Placed = places (blocks_of (stints_of spells)) in
    own_acts session all
    ∙ (places_acts (by_session session all)
    ∙ (ap acts (told_through stack depths session (stints_of spells) are) ∙ (stints_acts session (stints_of spells) done ∙ ap acts_of (own_parts session spells))))

-- the label of each
among_then : (all : List Label) (xs ys : List Doing) → StandAmong all xs → StandAmong all ys → StandAmong all (xs ++ ys)
among_then all [] ys a b = b
among_then all (x ∷ xs) ys a b = (a.0, among_then all xs ys a.1 b)

own_among : (all : List Label) (session : ℕ) (spells : List Spell) → AllStandAmong all spells → StandAmong all (own_doings session spells)
own_among all session [] a = tt
own_among all session (spell ∷ spells) a = among_then all (cond (spell.session == session) spell.doings []) (own_doings session spells) (at (spell.session == session)) (own_among all session spells a.1) where
  at : (b : Bool) → StandAmong all (cond b spell.doings [])
  at true = a.0
  at false = tt

abbrev HaveLabel : List Label → ℕ → ℕ → List Doing → Type 0
HaveLabel all session made ds = (i : ℕ) (number : Change) → slice_get (acts_of (parts_in ds)) i ≡ Some number
    → slice_get all (number.version - 1) ≡ Some (record { session = session; line = made + i + 1 })

each_label : (all : List Label) (session made : ℕ) (ds : List Doing) → AreLined session made ds → StandAmong all ds → (i : ℕ) (number : Change) → slice_get (acts_of (parts_in ds)) i ≡ Some number
    → slice_get all (number.version - 1) ≡ Some (record { session = session; line = made + i + 1 })
each_label all session made [] l a = λ i number e. absurd (none number e) where
  none : (number : Change) → None ≡ Some number → ⊥
  none number e = absurd (cc)
each_label all session made (d ∷ ds) l a = by_action (action_of d.part.deed) l.0 a.0 l.1 (λ more lined. each_label all session more ds lined a.1) where
  by_action : (action : Option ℕ) → IfSome action (λ number. (number ≡ length d.labels + 1) × (d.label ≡ record { session = session; line = made + 1 }))
      → IfSome action (λ number. StandsAmong all d.label d.labels) → AreLined session (made + one_of action) ds → ((more : ℕ) → AreLined session more ds → HaveLabel all session more ds) → (i : ℕ) (number : Change) → slice_get (act_by action ++ acts_of (parts_in ds)) i ≡ Some number
      → slice_get all (number.version - 1) ≡ Some (record { session = session; line = made + i + 1 })
  by_action None is among lined rest i number e = rest made (subst (λ z. AreLined session z ds) (no_more made) lined) i number e where
    no_more : (n : ℕ) → n + 0 ≡ n
    no_more n = omega arith
  by_action (Some own) is among lined rest zero number e =
      let same : change_at 0 own ≡ number = same_Some (change_at 0 own) number e in
      ap (λ (z : Change). slice_get all (z.version - 1)) (sym same)
      ∙ (ap (slice_get all) (one_less own (length d.labels) is.0)
      ∙ (among.here ∙ (ap Some is.1 ∙ ap (λ z. Some (record { session = session; line = z })) (line_is made)))) where
        one_less : (n m : ℕ) → n ≡ m + 1 → n - 1 ≡ m
        one_less n m e = omega (arith, e)

        line_is : (n : ℕ) → n + 1 ≡ n + 0 + 1
        line_is n = omega arith
  by_action (Some own) is among lined rest (suc i) number e =
      rest (made + 1) lined i number e ∙ ap (λ z. Some (record { session = session; line = z })) (line_is made i) where
        line_is : (n i : ℕ) → n + 1 + i + 1 ≡ n + suc i + 1
        line_is n i = omega arith

-- and there are as many
doing_count : (label : Label) (labels : List Label) (met : Option (List ℕ)) (action : Option ℕ) (calls : List Call) → AreWithin calls
    → length (acts (all_told (around label labels met action calls))) ≡ length (label_by action label)
unfolding all_told
doing_count label labels met None calls w = ap length (no_acts calls w)
doing_count label labels None (Some number) calls w =
    ap (λ z. length (acts z)) (append-nil (all_told (calls ++ entering label labels None)) ∙ told_then calls (entering label labels None)) ∙ ap (λ z. suc (length z)) (no_acts calls w)
doing_count label labels (Some versions) (Some number) calls w =
    ap (λ z. length (acts z)) (append-nil (all_told (calls ++ entering label labels (Some versions))) ∙ told_then calls (entering label labels (Some versions)))
    ∙ ap (λ z. suc (length z)) (no_acts calls w)

count_then : (xs ys : List Call) → length (acts (all_told (xs ++ ys))) ≡ length (acts (all_told ys)) + length (acts (all_told xs))
count_then xs ys = ap (λ z. length (acts z)) (told_then xs ys) ∙ (ap length (acts_then (all_told ys) (all_told xs)) ∙ length-append (acts (all_told ys)) (acts (all_told xs)))

doings_count : (s : State) (ds : List Doing) → AreParts s (parts_in ds) → length (acts (all_told (doings_calls ds))) ≡ length (labels_in ds)
unfolding all_told
doings_count s [] are = refl
doings_count s (d ∷ ds) are =
    let own : List Label = label_by (action_of d.part.deed) d.label in
    let one : length (acts (all_told (doing_calls d))) ≡ length own =
    doing_count d.label d.labels d.met (action_of d.part.deed) (part_calls d.part) (calls_within d.part.turns (turns_within s d.part.turns are.0.are_turns)) in
    let rest : length (acts (all_told (doings_calls ds))) ≡ length (labels_in ds) = doings_count (state_after s d.part.turns) ds are.1 in
    let both : length (own ++ labels_in ds) ≡ length own + length (labels_in ds) = length-append own (labels_in ds) in
    count_then (doings_calls ds) (doing_calls d) ∙ omega (arith, one, rest, both)

spells_count : (spells : List Spell) → AreDone (stints_of spells) → length (acts (all_told (calls_of spells))) ≡ length (all_labels spells)
unfolding all_told
spells_count [] done = refl
spells_count (spell ∷ spells) done =
    let own : List Label = labels_in spell.doings in
    let one : length (acts (all_told (doings_calls spell.doings))) ≡ length own = doings_count done.0.from spell.doings done.0.are_parts in
    let rest : length (acts (all_told (calls_of spells))) ≡ length (all_labels spells) = spells_count spells done.1 in
    let both : length (own ++ all_labels spells) ≡ length own + length (all_labels spells) = length-append own (all_labels spells) in
    count_then (calls_of spells) (doings_calls spell.doings) ∙ omega (arith, one, rest, both)

-- as many as are printed
pub as_many : (spells : List Spell) → AreDone (stints_of spells) → notes_of (places (blocks_of (stints_of spells))) ≡ all_told (calls_of spells)
    → length (all_labels spells) ≡ length (each_of action_change (places (blocks_of (stints_of spells))))
as_many spells done same = sym (ap length (places_acts (places (blocks_of (stints_of spells))) ∙ ap acts same) ∙ spells_count spells done)

pub labelled : (stack : ℕ) (depths : ℕ → ℕ) (spells : List Spell) → AreStints stack depths (stints_of spells) → AreDone (stints_of spells) → AllLined none_made spells
    → AllStandAmong (all_labels spells) spells → notes_of (places (blocks_of (stints_of spells))) ≡ all_told (calls_of spells) → AreLabels (all_labels spells) (places (blocks_of (stints_of spells)))
labelled stack depths spells are done lined among same =
    let all : List Placed = places (blocks_of (stints_of spells)) in
    record {
      few = as_many spells done same;
      each = λ session i number e.
          each_label (all_labels spells) session 0 (own_doings session spells) (own_lined session none_made spells lined) (own_among (all_labels spells) session spells among) i number
          (sym (ap (λ z. slice_get z i) (session_numbers stack depths session spells are done)) ∙ e)
          ∙ ap (λ z. Some (record { session = session; line = z })) (line_is i);
    } where
      line_is : (i : ℕ) → 0 + i + 1 ≡ i + 1
      line_is i = omega arith
