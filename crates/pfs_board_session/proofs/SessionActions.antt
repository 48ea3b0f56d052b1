-- A session's action at a desk: which calls its turns made, and that its actor keeps to the words of its labels.
use Rattle.std.proofs.Common.{ℕ, ◌≡◌, ◌≤◌, ◌+◌, Bool, cond, List, [], ◌∷◌, ◌++◌, Option, None, Some, Result, Ok, Err, inl, inr, length, slice_set, refl, ap, sym, ◌∙◌, subst, arith, append_assoc, append-nil, eq-eqb}
use Rattle.std.proofs.lemmas.Bool.{cases_lt}
use Rattle.std.proofs.lemmas.List.{get_or_past}
use Rattle.atomic_table.specs.Seated.{TableId}
use Rattle.pfs_admin.specs.declared.changes.Change.{Change}
use Rattle.pfs_admin.specs.ConnectionAsks.{quit_work, work_of_connect, work_of_quit}
use Rattle.pfs_admin.specs.declared.changes.SetupStatement.{SetupStatement}
use Rattle.pfs_admin.specs.declared.changes.SetupStatement.TheVariants.{Update, Insert, Delete, Show}
use Rattle.pfs_admin.specs.Fold.{StandsFor, stepped}
use Rattle.pfs_admin.specs.SetupStatements.{first_of, first_word, flags_after, has_changed, most_of, word_count, work_of_statement}
use Rattle.pfs_admin.specs.Truncations.{off, truncation_flags, words_behind, work_of_truncation}
use Rattle.pfs_exec.specs.NewRows.{table_of}
use Rattle.pfs_rows.specs.declared.table.Table.{Table}
use Rattle.pfs_rows.specs.declared.table.Table.TheVariants as tables
use Rattle.pfs_rows.specs.declared.truncations.Truncation.{Truncation}
use Rattle.pfs_rows.specs.declared.truncations.Truncation.TheVariants.{Events, Summary, DigestSummary, Accounts, Users, Hosts, SetupActors, SetupObjects}
use Rattle.pfs_text.specs.declared.values.RowValue.{RowValue}
use Rattle.pfs_admin.specs.AdministrationStates.{words_by}
use Rattle.pfs_admin.specs.AdministrationStates.{State as Administration}
use Rattle.pfs_admin.proofs.FoldSteps.{step_law}
use Rattle.pfs_admin.specs.Works.{Flagging, Made, flagging, flagged, set_word, word_at}
use Rattle.pfs_law_plain.specs.Spells.{label_of}
use Rattle.pfs_board.specs.declared.view.Label.{Label}
use Rattle.pfs_classes.specs.declared.setting.Setting.{Setting}
use Rattle.pfs_containers.specs.declared.containers.Seated.{Seated}
use Rattle.pfs_containers.specs.Administration.{Containers}
use Rattle.pfs_board_admin.specs.Desks.{IsDesk, sets_by, sets_of, work_of_change}
use Rattle.pfs_board_admin.specs.LabelWords.{version_after, AllKeepWords, AreAsKnown}
use Rattle.pfs_board_admin.proofs.DeskActions.{IsInside, SetsEach, desk_wide, its_inside, its_of, its_sets, quiet_inside, sets_none, sets_one, worked}
use Rattle.pfs_board_admin.proofs.LabelWords.{AreQuiet, begun, still}
use Rattle.pfs_board_admin.proofs.WriterSets.{one_more_set, quiet_sets}
use Rattle.pfs_levels.specs.declared.answers.Word.{Word}
use Rattle.pfs_levels.specs.Calls.{Call, Opening, Enters, Leaves, Meets, known_version, label_in}
use Rattle.pfs_levels.specs.Moves.{Move}
use Rattle.pfs_law_session.proofs.FewTurns.{OneTurn, TwoTurns, ThreeTurns, one_turn, two_turns, three_turns}
use Rattle.pfs_law_session.proofs.LineEntries.{does_at}
use Rattle.pfs_board_store.specs.WriterWords.{sets_since_met}
use Rattle.pfs_board_store.specs.ActorCalls.{labels_in}
use Rattle.pfs_session.specs.Settlements.{Settles, Paid, paid_calls}
use Rattle.pfs_session.specs.SessionStates.{State, Book}
use Rattle.pfs_session.specs.Turns.{Step, Changes, Connects, Inquires, Quits, SettlesHeld, Truncates, Turn, AreTurns, Does, Inquired, steps_of, turns_calls, Played}
use Rattle.pfs_session.specs.Inquiries.{Remarks, remark_entry}
use Rattle.pfs_session.specs.declared.remarks.Remark.{Remark}
use Rattle.pfs_session.specs.declared.remarks.Remark.TheVariants.{Rows}
use Rattle.pfs_session.proofs.StepLists.{played_one}
use Rattle.pfs_switches.specs.SeatViews.{Known}
use Rattle.pfs_board_session.specs.SessionActions.{HasLed, KeepsToWords, action_calls, shown_steps}

-- calls of which the newer ones are an administration's work, and the older ones tell nothing of words
pub record AreWork (words : List Word) (flags : List Flagging) (its : List Call) : Type 0 where
  pub quiet : List Call
  pub is_quiet : AreQuiet quiet
  pub made : List Made
  pub moves : List Move
  pub is : its ≡ its_of words flags made moves ++ quiet

paid_quiet : (paid : List Paid) → AreQuiet (paid_calls paid)
paid_quiet [] = tt
paid_quiet (p ∷ paid) = paid_quiet paid

pub connect_calls : (s : State) (turns : List Turn) (admin : Administration) (user host : ℕ) → AreTurns s turns → steps_of turns ≡ Connects admin user host ∷ []
    → AreWork admin.words (work_of_connect admin s.number user host).flags (turns_calls turns)
connect_calls s turns admin user host are e =
    let o : OneTurn turns (Connects admin user host) = one_turn turns (Connects admin user host) e in
    let t : Turn = o.turn in
    let ours : AreTurns s (t ∷ []) = subst (AreTurns s) o.is are in
    let d = does_at s t (Connects admin user host) o.step_is ours.0 in
    record {
      quiet = [];
      is_quiet = tt;
      made = d.0.made;
      moves = d.0.moves;
      is = ap turns_calls o.is ∙ ap (λ z. z ++ []) d.0.calls_are;
    }

-- a session that settles what it holds and then does one step: the calls of both
record IsSettledFirst (s : State) (turns : List Turn) (step : Step) : Type 0 where
  pub paid : List Paid
  pub at : State
  pub turn : Turn
  pub does : Does at step turn.calls turn.entries turn.after
  pub number_is : at.number ≡ s.number
  pub calls_are : turns_calls turns ≡ turn.calls ++ paid_calls paid

settled_first : (s : State) (turns : List Turn) (step : Step) → AreTurns s turns → steps_of turns ≡ SettlesHeld ∷ step ∷ [] → IsSettledFirst s turns step
settled_first s turns step are e =
    let o : TwoTurns turns SettlesHeld step = two_turns turns SettlesHeld step e in
    let t : Turn = o.first in
    let u : Turn = o.second in
    let ours : AreTurns s (u ∷ t ∷ []) = subst (AreTurns s) o.is are in
    let settles : Settles s t.calls t.entries t.after = does_at s t SettlesHeld o.first_is ours.1.0 in
    record {
      paid = settles.paid;
      at = t.after;
      turn = u;
      does = does_at t.after u step o.second_is ours.0;
      number_is = ap (λ (z : State). z.number) settles.after_is;
      calls_are = ap turns_calls o.is ∙ ap (λ z. u.calls ++ z) (append-nil t.calls ∙ settles.calls_are);
    }

work_behind : (words : List Word) (flags : List Flagging) (made : List Made) (moves : List Move) (its calls : List Call) (paid : List Paid) → its ≡ its_of words flags made moves → calls ≡ its ++ paid_calls paid
    → AreWork words flags calls
work_behind words flags made moves its calls paid is behind = record {
  quiet = paid_calls paid;
  is_quiet = paid_quiet paid;
  made = made;
  moves = moves;
  is = behind ∙ ap (λ z. z ++ paid_calls paid) is;
}

pub quit_calls : (s : State) (turns : List Turn) (admin : Administration) → AreTurns s turns → steps_of turns ≡ SettlesHeld ∷ Quits admin ∷ []
    → AreWork admin.words (work_of_quit admin s.number).flags (turns_calls turns)
quit_calls s turns admin are e =
    let f = settled_first s turns (Quits admin) are e in
    let its : ℕ → List Call = λ n. its_of admin.words (work_of_quit admin n).flags f.does.0.made f.does.0.moves in
    work_behind admin.words (work_of_quit admin s.number).flags f.does.0.made f.does.0.moves f.turn.calls (turns_calls turns) f.paid (f.does.0.calls_are ∙ ap its f.number_is) f.calls_are

pub truncate_calls : (s : State) (turns : List Turn) (admin : Administration) (what : Truncation) → AreTurns s turns → steps_of turns ≡ SettlesHeld ∷ Truncates admin what ∷ []
    → AreWork admin.words (work_of_truncation admin what).flags (turns_calls turns)
truncate_calls s turns admin what are e =
    let f = settled_first s turns (Truncates admin what) are e in
    work_behind admin.words (work_of_truncation admin what).flags f.does.works.made f.does.works.moves f.turn.calls (turns_calls turns) f.paid f.does.works.calls_are f.calls_are

pub act_calls : (s : State) (turns : List Turn) (admin : Administration) (what : SetupStatement) → AreTurns s turns → steps_of turns ≡ SettlesHeld ∷ Changes admin what ∷ []
    → AreWork admin.words (work_of_statement admin what).flags (turns_calls turns)
act_calls s turns admin what are e =
    let f = settled_first s turns (Changes admin what) are e in
    work_behind admin.words (work_of_statement admin what).flags f.does.works.made f.does.works.moves f.turn.calls (turns_calls turns) f.paid f.does.works.calls_are f.calls_are

-- how many rows answer is told without a call
pub show_calls : {E : Type 0} (s : State) (turns : List Turn) (admin : Administration) (answer : Result (List (List RowValue)) E) → AreTurns s turns → steps_of turns ≡ shown_steps answer admin
    → AreWork admin.words (work_of_statement admin Show).flags (turns_calls turns)
show_calls s turns admin (Err fault) are e = act_calls s turns admin Show are e
show_calls s turns admin (Ok answer) are e =
    let tells : Step = Inquires (Remarks (Rows (length answer))) in
    let o : ThreeTurns turns SettlesHeld (Changes admin Show) tells = three_turns turns SettlesHeld (Changes admin Show) tells e in
    let front : List Turn = o.second ∷ o.first ∷ [] in
    let ours : AreTurns s (o.third ∷ front) = subst (AreTurns s) o.is are in
    let told : Inquired o.second.after (Remarks (Rows (length answer))) o.third.calls o.third.entries o.third.after = does_at o.second.after o.third tells o.third_is ours.0 in
    let steps : steps_of front ≡ SettlesHeld ∷ Changes admin Show ∷ [] = ap (λ z. z ∷ o.second.step ∷ []) o.first_is ∙ ap (λ z. SettlesHeld ∷ z ∷ []) o.second_is in
    let calls : turns_calls turns ≡ turns_calls front = ap turns_calls o.is ∙ ap (λ z. z ++ turns_calls front) told.calls_are in
    subst (AreWork admin.words (work_of_statement admin Show).flags) (sym calls) (act_calls s front admin Show ours.1 steps)

-- flags that stay set no word
sets_same : (words : List Word) (at : ℕ) → SetsEach words (flagging words at (word_at words at).flags) (flagged words at (word_at words at).flags)
sets_same words at =
    let flags : ℕ = (word_at words at).flags in
    let P : Bool → Type 0 = λ b. SetsEach words (cond b [] (record { word = at; flags = flags } ∷ [])) (cond b words (slice_set words at (set_word (word_at words at) flags))) in
    subst P (sym (eq-eqb flags flags refl)) (sets_none words)

-- a quit clears its thread's word, and no other
pub quit_sets : (words : List Word) (cells : List ℕ) (after : Containers) (seat : Option Seated) → length words ≡ 160 → SetsEach words (quit_work words cells after seat).flags (words_by words 0 seat)
quit_sets words cells after None wide = sets_none words
quit_sets words cells after (Some seat) wide =
    let at : ℕ = 1 + seat.slot in
    elim (cases_lt at 160) [
      | inl low ↦ sets_one words at 0 low
      | inr past ↦
          let zero_there : (word_at words at).flags ≡ 0 = ap (λ (w : Word). w.flags) (get_or_past words at (record { version = 0; flags = 0 }) (omega (arith, past, wide))) in
          subst (λ n. SetsEach words (flagging words at n) (flagged words at n)) zero_there (sets_same words at)
    ]

-- without any row of `setup_objects` no table is instrumented; no other truncation sets a word
pub truncated_sets : (words : List Word) (what : Truncation) → SetsEach words (truncation_flags words what) (words_behind what words)
truncated_sets words (Events kind table) = sets_none words
truncated_sets words (Summary kind table) = sets_none words
truncated_sets words DigestSummary = sets_none words
truncated_sets words Accounts = sets_none words
truncated_sets words Users = sets_none words
truncated_sets words Hosts = sets_none words
truncated_sets words SetupActors = sets_none words
truncated_sets words SetupObjects = record { to = off; first = 96; count = 64; low = omega arith; flags_are = refl; words_are = refl }

table_inside : (table : Table) → first_word table + word_count table ≤ 160
table_inside tables.SetupConsumers = omega arith
table_inside tables.Threads = omega arith
table_inside tables.SetupInstruments = omega arith
table_inside tables.SetupObjects = omega arith
table_inside tables.SetupActors = omega arith
table_inside tables.Accounts = omega arith
table_inside tables.Users = omega arith
table_inside tables.Hosts = omega arith
table_inside (tables.Events kind table) = omega arith
table_inside (tables.Summary kind table) = omega arith
table_inside tables.DigestSummary = omega arith

statement_inside : (what : SetupStatement) → first_of what + most_of what ≤ 160
statement_inside (Update update) = table_inside update.table
statement_inside (Insert insert) = table_inside (table_of insert.row)
statement_inside (Delete delete) = table_inside delete.table
statement_inside Show = omega arith

-- a statement sets words of its table's rows
pub stated_sets : (s : Administration) (what : SetupStatement) → SetsEach s.words (work_of_statement s what).flags (has_changed s what).words
stated_sets s what = record { to = flags_after s what; first = first_of what; count = most_of what; low = statement_inside what; flags_are = refl; words_are = refl }

-- in a desk's action such calls leave the action's label and the labels that it found
pub work_inside : (words : List Word) (flags : List Flagging) (its calls : List Call) → AreWork words flags its → IsInside calls (its ++ calls)
work_inside words flags its calls w =
    let e : its ++ calls ≡ its_of words flags w.made w.moves ++ (w.quiet ++ calls) = ap (λ z. z ++ calls) w.is ∙ append_assoc (its_of words flags w.made w.moves) w.quiet calls in
    let q = quiet_inside w.quiet calls w.is_quiet in
    let i = its_inside words flags w.made w.moves (w.quiet ++ calls) in
    record { label = ap label_in e ∙ (i.label ∙ q.label); labels = ap labels_in e ∙ (i.labels ∙ q.labels) }

-- behind a meet such calls made the sets of these flags
work_sets : (words : List Word) (flags : List Flagging) (its : List Call) (seen : List ℕ) (calls : List Call) → AreWork words flags its → sets_since_met (its ++ Meets seen ∷ calls) ≡ sets_by words flags
work_sets words flags its seen calls w =
    let first : List Call = Meets seen ∷ calls in
    ap (λ z. sets_since_met (z ++ first)) w.is
    ∙ (ap sets_since_met (append_assoc (its_of words flags w.made w.moves) w.quiet first)
    ∙ (its_sets words flags w.made w.moves (w.quiet ++ first)
    ∙ (ap (λ ss. sets_by words flags ++ ss) (quiet_sets w.quiet first w.is_quiet) ∙ append-nil (sets_by words flags))))

module _ (setting : Setting) (change : Label → Change) (switches : TableId) (label : Label) (labels : List Label) (admin : Administration) (pen : Known) (calls : List Call) where
  abbrev pub first : List Call
  first = Meets pen.view.seen ∷ Enters label labels ∷ calls

  -- the next label of a session is that of its action, by whose step the administration stands for one label more
  stood : (s : State) (what : Change) (next : Administration) → label ≡ label_of s → change (label_of s) ≡ what → IsDesk setting change switches labels admin pen → next ≡ stepped admin s.number what
      → StandsFor setting change (labels ++ label ∷ []) next
  stood s what next e names is step = step ∙ (step_law s.number what admin).stands setting change labels label (ap (λ (l : Label). l.session) e) (ap change e ∙ names) is.stands

  -- behind its calls the administration that it leaves stands for the labels that they tell
  stands_behind : (flags : List Flagging) (its : List Call) (next : Administration) → AreWork admin.words flags its → StandsFor setting change (labels ++ label ∷ []) next
      → StandsFor setting change (labels_in (its ++ first) ++ label_in (its ++ first) ∷ []) next
  stands_behind flags its next w stands =
      let i = work_inside admin.words flags its first w in
      let P : List Label → Label → Type 0 = λ ls l. StandsFor setting change (ls ++ l ∷ []) next in
      subst (λ ls. P ls (label_in (its ++ first))) (sym i.labels) (subst (λ l. P labels l) (sym i.label) stands)

  -- what the labels that they tell make of the sets: the calls' own, then those of the labels found
  sets_behind : (s : State) (what : Change) (its : List Call) → label ≡ label_of s → change (label_of s) ≡ what → IsDesk setting change switches labels admin pen
      → AreWork admin.words (work_of_change admin s.number what).flags its
      → (sets_of setting change (labels_in (its ++ first) ++ label_in (its ++ first) ∷ []) ≡ sets_since_met (its ++ first) ++ sets_of setting change (labels_in (its ++ first)))
      × (labels_in (its ++ first) ≡ labels)
  sets_behind s what its e names is w =
      let flags : List Flagging = (work_of_change admin s.number what).flags in
      let i = work_inside admin.words flags its first w in
      let next : sets_of setting change (labels ++ label ∷ []) ≡ sets_by admin.words (work_of_change admin label.session what).flags ++ sets_of setting change labels =
      one_more_set setting change labels label what admin (ap change e ∙ names) is.stands in
      let same : sets_by admin.words (work_of_change admin label.session what).flags ≡ sets_by admin.words flags = ap (λ (l : Label). sets_by admin.words (work_of_change admin l.session what).flags) e in (
        ap (λ l. sets_of setting change (labels_in (its ++ first) ++ l ∷ [])) i.label
            ∙ (ap (λ ls. sets_of setting change (ls ++ label ∷ [])) i.labels
            ∙ (next
            ∙ (ap (λ ss. ss ++ sets_of setting change labels) (same ∙ sym (work_sets admin.words flags its pen.view.seen (Enters label labels ∷ calls) w))
            ∙ ap (λ ls. sets_since_met (its ++ first) ++ sets_of setting change ls) (sym i.labels)))),
        i.labels,
      )

  keeps_behind : (flags : List Flagging) (its : List Call) (next : Administration) → IsDesk setting change switches labels admin pen → AreWork admin.words flags its → SetsEach admin.words flags next.words
      → StandsFor setting change (labels ++ label ∷ []) next → KeepsToWords setting change calls (Leaves ∷ (its ++ first))
  keeps_behind flags its next is w sets stands outside keeps =
      let versions = version_after setting change in
      let b = begun setting change switches label labels calls admin pen outside keeps is in
      let q = still versions w.quiet first w.is_quiet in
      let done = worked setting change (w.quiet ++ first) admin.words next.words flags w.made w.moves sets (desk_wide setting change switches labels admin pen is) q.met (q.keeps b.0) (λ at low. q.same at ∙ b.1 at low) in
      let e : its ++ first ≡ its_of admin.words flags w.made w.moves ++ (w.quiet ++ first) = ap (λ z. z ++ first) w.is ∙ append_assoc (its_of admin.words flags w.made w.moves) w.quiet first in
      let ends : AllKeepWords versions (its ++ first) × AreAsKnown versions (its ++ first) next.words =
      subst (λ z. AllKeepWords versions z × AreAsKnown versions z next.words) (sym e) done in
      let stood = stands_behind flags its next w stands in
      (λ at low. ends.1 at low ∙ ap (λ (a : Administration). known_version (Some a.words) at) stood, ends.0)

-- behind an action's calls its administration and its writer are a desk of one label more
pub record IsWhole (setting : Setting) (change : Label → Change) (labels : List Label) (its front calls : List Call) (next : Administration) : Type 0 where
  pub stands : StandsFor setting change (labels_in (its ++ front) ++ label_in (its ++ front) ∷ []) next
  pub sets : sets_of setting change (labels_in (its ++ front) ++ label_in (its ++ front) ∷ []) ≡ sets_since_met (its ++ front) ++ sets_of setting change (labels_in (its ++ front))
  pub labels_are : labels_in (its ++ front) ≡ labels
  pub keeps : KeepsToWords setting change calls (Leaves ∷ (its ++ front))

module _ (setting : Setting) (change : Label → Change) (switches : TableId) (label : Label) (labels : List Label) (admin : Administration) (pen : Known) (calls : List Call) where
  abbrev begun_calls : List Call
  begun_calls = Meets pen.view.seen ∷ Enters label labels ∷ calls

  pub whole : (s : State) (what : Change) (its : List Call) (next : Administration) → label ≡ label_of s → change (label_of s) ≡ what → IsDesk setting change switches labels admin pen → next ≡ stepped admin s.number what
      → AreWork admin.words (work_of_change admin s.number what).flags its → SetsEach admin.words (work_of_change admin s.number what).flags (stepped admin s.number what).words → IsWhole setting change labels its begun_calls calls next
  whole s what its next e names is step work sets =
      let flags : List Flagging = (work_of_change admin s.number what).flags in
      let each : SetsEach admin.words flags next.words = subst (λ (z : Administration). SetsEach admin.words flags z.words) (sym step) sets in
      let behind = stood setting change switches label labels admin pen calls s what next e names is step in
      let told = sets_behind setting change switches label labels admin pen calls s what its e names is work in
      record {
        stands = stands_behind setting change switches label labels admin pen calls flags its next work behind;
        sets = told.0;
        labels_are = told.1;
        keeps = keeps_behind setting change switches label labels admin pen calls flags its next is work each behind;
      }

  pub led : (s : State) (its : List Call) (next : Administration) (start : Opening) (now : Opening → List Call → Type 0) → label ≡ label_of s → IsDesk setting change switches labels admin pen
      → IsWhole setting change labels its begun_calls calls next → now start (Leaves ∷ (its ++ begun_calls)) → HasLed setting change (label_of s) admin its start calls now
  led s its next start now e is w reached =
      let Q : Label → Type 0 = λ l. now start (action_calls l labels pen.view.seen its calls) in
      let K : Label → Type 0 = λ l. KeepsToWords setting change calls (action_calls l labels pen.view.seen its calls) in
      record {
        labels = labels;
        stands = is.stands;
        seen = pen.view.seen;
        reached = subst Q e reached;
        keeps = subst K e w.keeps;
      }

-- a remark is one step
pub remarked : (what : Remark) (old new : Book) (was : Opening → List Call → Type 0) → Does old.state (Inquires (Remarks what)) [] (remark_entry what ∷ []) new.state → new.journal.entries ≡ old.journal.entries ++ remark_entry what ∷ []
    → Played (Inquires (Remarks what) ∷ []) old new was was
remarked what old new was does entries =
    played_one (Inquires (Remarks what)) [] (remark_entry what ∷ []) new.state old new was was does refl (record { entries_are = entries; goes = λ start calls h. h })
