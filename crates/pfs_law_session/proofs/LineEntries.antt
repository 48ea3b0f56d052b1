-- What a session writes at each line.
use Rattle.std.proofs.Common.{ℕ, ◌≡◌, ◌<◌, ◌+◌, Bool, true, false, List, [], ◌∷◌, ◌++◌, Option, Some, None, map, refl, ap, sym, ◌∙◌, subst}
use Rattle.std.specs.Prelude.{Ok, IfSome, if◌then◌else◌}
use Rattle.std.proofs.lemmas.Bool.{false≢true}
use Rattle.std.proofs.lemmas.List.{append-nil, append_assoc}
use Rattle.pfs_admin.specs.ConnectionAsks.{connect_entry, placed_of, work_of_connect, work_of_quit}
use Rattle.pfs_admin.specs.SetupStatements.{has_changed, reply_to, work_of_statement}
use Rattle.pfs_admin.specs.Truncations.{work_of_truncation, has_truncated}
use Rattle.pfs_admin.specs.declared.changes.Reply.{Reply}
use Rattle.pfs_admin.specs.declared.changes.Reply.TheVariants as replies
use Rattle.pfs_admin.specs.declared.changes.SetupStatement.{SetupStatement}
use Rattle.pfs_admin.specs.declared.changes.SetupStatement.TheVariants.{Update, Insert, Delete, Show}
use Rattle.pfs_rows.specs.declared.truncations.Truncation.{Truncation}
use Rattle.pfs_admin.specs.AdministrationStates.{seat_at, connected}
use Rattle.pfs_admin.specs.AdministrationStates.{State as Administration}
use Rattle.pfs_admin.specs.Works.{Work, signs_entries, flagging_entries}
use Rattle.pfs_event.specs.declared.entry.Entry.{Entry}
use Rattle.pfs_event.specs.declared.entry.Entry.TheVariants as says
use Rattle.pfs_event.specs.Verdicts.{is_let_through}
use Rattle.pfs_event.specs.declared.open.Open.{Open}
use Rattle.pfs_levels.specs.Calls.{Call}
use Rattle.pfs_levels.specs.Moves.{moves_entries}
use Rattle.pfs_model.specs.Contexts.{Context, subject_of, noted, turned, after, after_entries}
use Rattle.pfs_model.specs.Cuts.{cut}
use Rattle.pfs_model.specs.SetupFlags.{IsJudged}
use Rattle.pfs_model.specs.Shapes.{shape, starting, ending, ending_first, ending_stage, ending_both, is_stage, settling, changes, one}
use Rattle.pfs_model.specs.declared.lines.Line.{Line}
use Rattle.pfs_model.specs.declared.lines.Line.TheVariants as lines
use Rattle.pfs_model.specs.declared.lines.Opened.{Opened}
use Rattle.pfs_model.specs.declared.lines.Subject.{Subject}
use Rattle.pfs_model.specs.declared.shapes.Ask.{Ask}
use Rattle.pfs_model.specs.declared.shapes.Ask.TheVariants as asks
use Rattle.pfs_rows.specs.declared.table.Reading.{Reading}
use Rattle.pfs_session.specs.Ends.{Ends, EndsIn, no_numbers}
use Rattle.pfs_session.specs.Inquiries.{Remarks}
use Rattle.pfs_session.specs.Settlements.{Settles, owed_in, owed_by_state, settle_head, paid_entries}
use Rattle.pfs_session.specs.SessionStates.{State, nothing_held}
use Rattle.pfs_session.specs.Turns.{Step, StartsEvent, EndsEvent, Spends, SettlesHeld, Connects, Quits, Truncates, Changes, Does, Turn, AreTurns, Works, Truncated, Changed, Inquired, state_after, steps_of, turns_calls, turns_entries, stage_ends, stage_steps, acted, reply_entry, reply_entries}
use Rattle.pfs_session.specs.declared.events.Numbers.{Numbers}
use Rattle.pfs_session.specs.declared.remarks.Remark.TheVariants.{Query, Rows, Refused}
use Rattle.pfs_law_session.proofs.ActionShapes.{AreAll, IsLast, connected_context, connect_fits, connect_plain, quiet_context, quiet_plains, reply_last, rows_last, work_quiet, work_shaped, all_then, is_quiet, answered_shaped}
use Rattle.pfs_law_session.proofs.ShapeCuts.{cut_one, cut_nothing}
use Rattle.pfs_law_session.proofs.EndEntries.{EndIs, end_is, ending_closed}
use Rattle.pfs_law_session.proofs.Inquiries.{Told, told, asked_by, asked_steps, asked_entries, answers_to, answers_quiet, answers_shaped}
use Rattle.pfs_law_session.proofs.FewTurns.{OneTurn, TwoTurns, ThreeTurns, no_turns, one_turn, two_turns, three_turns}
use Rattle.pfs_law_session.proofs.LinePieces.{IsPiece, piece_none, piece_one, piece_plain, piece_then, cut_both}
use Rattle.pfs_law_session.proofs.SettlementEntries.{SettleIs, settle_is, settling_closed, settled_context, settle_shaped, settle_plain, piece_plains}
use Rattle.pfs_session.proofs.EndFrames.{through_leaves}
use Rattle.pfs_session.proofs.HeldAmounts.{nothing_owed}
use Rattle.pfs_law_session.proofs.RingPuts.{rings_piece}
use Rattle.pfs_law_session.proofs.StartEntries.{StartIs, start_is}
use Rattle.pfs_law_session.specs.Agreement.{LoadsAgree, AreAlike, Agrees, IsOver, Stands, row_owed}
use Rattle.pfs_law_session.specs.Deeds.{IsReplied, IsSubject, looks, remark}
use Rattle.pfs_law_session.specs.JournalLaws.{IsWritten}

-- a new line tells no more of its session
pub turned_agrees : (flags : ℕ → ℕ → ℕ) (context : Context) (s : State) → Agrees flags context s → Agrees flags (turned context) s
turned_agrees flags context s a = record { slot = a.slot; opened = a.opened; held = a.held; drawn = a.drawn; wide = a.wide; low = a.low }

-- a line's entries as one piece, with its shape
pub record IsLine (flags : ℕ → ℕ → ℕ) (stack : ℕ) (over : Bool) (context : Context) (line : Line) (entries : List Entry) (after : State) : Type 0 where
  pub shaped : cut (shape context line) entries ≡ Ok []
  pub behind : Context
  pub piece : IsPiece flags stack line (turned context) entries behind
  pub stands : Stands flags over behind after

pub written_by : (flags : ℕ → ℕ → ℕ) (stack : ℕ) (over : Bool) (context : Context) (line : Line) (entries : List Entry) (after : State) → IsLine flags stack over context line entries after
    → IsWritten flags stack over context line entries after
written_by flags stack over context line entries after l = record {
  shaped = l.shaped;
  judged = l.piece.judged;
  numbered = l.piece.numbered;
  stands = subst (λ z. Stands flags over z after) (sym l.piece.behind_is) l.stands;
}

-- a start, in a line that starts this
start_piece : (flags : ℕ → ℕ → ℕ) (stack : ℕ) (line : Line) (subject : Subject) (context : Context) (entries : List Entry) (after : State) → subject_of line ≡ Some subject
    → (s : StartIs flags stack context subject entries after) → IsPiece flags stack line context entries (noted (Some subject) context s.entry)
start_piece flags stack line subject context entries after e s =
    let P : Option Subject → Type 0 = λ z. IsPiece flags stack line context (s.entry ∷ []) (noted z context s.entry) in
    let J : IsJudged stack flags (subject_of line) context s.entry = subst (λ z. IsJudged stack flags z context s.entry) (sym e) s.judged in
    let one : IsPiece flags stack line context (s.entry ∷ []) (noted (Some subject) context s.entry) = subst P e (piece_one flags stack line context s.entry J s.numbered) in
    let next : Context = noted (Some subject) context s.entry in
    subst (λ z. IsPiece flags stack line context z next) (sym s.only)
    (piece_then flags stack line context next next (s.entry ∷ []) s.rings one (rings_piece flags stack line next s.rings s.ringed))

pub does_at : (s : State) (t : Turn) (step : Step) → t.step ≡ step → Does s t.step t.calls t.entries t.after → Does s step t.calls t.entries t.after
does_at s t step e d = subst (λ z. Does s z t.calls t.entries t.after) e d

-- the calls and entries of one turn, and of two
one_calls : (t : Turn) → turns_calls (t ∷ []) ≡ t.calls
one_calls t = append-nil t.calls

pub loads_one : (flags : ℕ → ℕ → ℕ) (t : Turn) → LoadsAgree flags (turns_calls (t ∷ [])) → LoadsAgree flags t.calls
loads_one flags t l = subst (LoadsAgree flags) (one_calls t) l

pub loads_front : (flags : ℕ → ℕ → ℕ) (xs ys : List Call) → LoadsAgree flags (xs ++ ys) → LoadsAgree flags xs
loads_front flags [] ys l = tt
loads_front flags (x ∷ xs) ys l = (l.0, loads_front flags xs ys l.1)

-- a line that starts an event and ends none
pub starting_line : (flags : ℕ → ℕ → ℕ) (context : Context) (s : State) (line : Line) (subject : Subject) (turns : List Turn) → Agrees flags context s → IsSubject subject
    → subject_of line ≡ Some subject → shape context line ≡ starting context.slot subject → AreTurns s turns
    → steps_of turns ≡ StartsEvent subject ∷ [] → LoadsAgree flags (turns_calls turns) → IsLine flags s.stack false context line (turns_entries turns) (state_after s turns)
starting_line flags context s line subject turns a is of same are steps loads =
    let o : OneTurn turns (StartsEvent subject) = one_turn turns (StartsEvent subject) steps in
    let t : Turn = o.turn in
    let P : List Turn → Type 0 = λ z. IsLine flags s.stack false context line (turns_entries z) (state_after s z) in
    let ours : AreTurns s (t ∷ []) = subst (AreTurns s) o.is are in
    let begun : StartIs flags s.stack (turned context) subject t.entries t.after =
    start_is flags (turned context) s subject t.calls t.entries t.after (turned_agrees flags context s a) is (does_at s t (StartsEvent subject) o.step_is ours.0)
    (loads_one flags t (subst (λ z. LoadsAgree flags (turns_calls z)) o.is loads)) in
    subst P (sym o.is) (record {
      shaped = ap (λ z. cut z t.entries) same ∙ begun.shaped;
      behind = noted (Some subject) (turned context) begun.entry;
      piece = start_piece flags s.stack line subject (turned context) t.entries t.after of begun;
      stands = begun.agrees;
    })

-- an end keeps how many statements may be open
pub ends_stack : (s : State) (numbers : Numbers) (calls : List Call) (entries : List Entry) (after : State) → Ends s numbers calls entries after → after.stack ≡ s.stack
ends_stack s numbers calls entries after e = by_case s.place.thread (is_let_through e.what.verdict) e.ends where
  by_case : (slot : Option ℕ) (b : Bool) → EndsIn s slot b e.what e.others numbers calls entries after → after.stack ≡ s.stack
  by_case slot false x = ap (λ (z : State). z.stack) x.after_is
  by_case None true x = absurd x
  by_case (Some slot) true x = ap (λ (z : State). z.stack) (through_leaves s slot e.what e.others numbers calls entries after x)

-- a line that ends an event and starts none
ending_line : (flags : ℕ → ℕ → ℕ) (context : Context) (s : State) (line : Line) (numbers : Numbers) (turns : List Turn) → Agrees flags context s
    → ((event : Opened) → (others : List Opened) → context.opened ≡ event ∷ others → shape context line ≡ ending context.slot event) → AreTurns s turns
    → steps_of turns ≡ EndsEvent numbers ∷ [] → IsLine flags s.stack false context line (turns_entries turns) (state_after s turns)
ending_line flags context s line numbers turns a same are steps =
    let o : OneTurn turns (EndsEvent numbers) = one_turn turns (EndsEvent numbers) steps in
    let t : Turn = o.turn in
    let P : List Turn → Type 0 = λ z. IsLine flags s.stack false context line (turns_entries z) (state_after s z) in
    let ours : AreTurns s (t ∷ []) = subst (AreTurns s) o.is are in
    let e : EndIs flags s.stack line (turned context) t.entries t.after =
    end_is flags line (turned context) s t.after numbers t.calls t.entries (turned_agrees flags context s a) (does_at s t (EndsEvent numbers) o.step_is ours.0) in
    subst P (sym o.is) (record {
      shaped = ap (λ z. cut z t.entries) (same e.event e.others e.opened_is) ∙ e.shaped;
      behind = e.behind;
      piece = e.piece;
      stands = e.agrees;
    })

-- a line that ends an event and then another
ending_two : (flags : ℕ → ℕ → ℕ) (context : Context) (s : State) (line : Line) (m n : Numbers) (turns : List Turn) → Agrees flags context s
    → ((event : Opened) → (others : List Opened) → context.opened ≡ event ∷ others → shape context line ≡ ending context.slot event ++ ending_first context.slot others)
    → AreTurns s turns → steps_of turns ≡ EndsEvent m ∷ EndsEvent n ∷ [] → IsLine flags s.stack false context line (turns_entries turns) (state_after s turns)
ending_two flags context s line m n turns a same are steps =
    let o : TwoTurns turns (EndsEvent m) (EndsEvent n) = two_turns turns (EndsEvent m) (EndsEvent n) steps in
    let t : Turn = o.first in
    let u : Turn = o.second in
    let P : List Turn → Type 0 = λ z. IsLine flags s.stack false context line (turns_entries z) (state_after s z) in
    let ours : AreTurns s (u ∷ t ∷ []) = subst (AreTurns s) o.is are in
    let first : Ends s m t.calls t.entries t.after = does_at s t (EndsEvent m) o.first_is ours.1.0 in
    let e : EndIs flags s.stack line (turned context) t.entries t.after = end_is flags line (turned context) s t.after m t.calls t.entries (turned_agrees flags context s a) first in
    let f0 : EndIs flags t.after.stack line e.behind u.entries u.after =
    end_is flags line e.behind t.after u.after n u.calls u.entries e.agrees (does_at t.after u (EndsEvent n) o.second_is ours.0) in
    let f : EndIs flags s.stack line e.behind u.entries u.after =
    subst (λ z. EndIs flags z line e.behind u.entries u.after) (ends_stack s m t.calls t.entries t.after first) f0 in
    let second : ending_first context.slot e.others ≡ ending e.behind.slot f.event =
    ap (λ z. ending_first z e.others) (sym e.behind_slot) ∙ ap (ending_first e.behind.slot) (sym e.behind_opened ∙ f.opened_is) in
    subst P (sym o.is) (record {
      shaped = ap (λ z. cut z (t.entries ++ u.entries)) (same e.event e.others e.opened_is ∙ ap (λ z. ending context.slot e.event ++ z) second)
          ∙ cut_both (ending context.slot e.event) (ending e.behind.slot f.event) t.entries u.entries (ending_closed context.slot e.event) f.headed e.shaped f.shaped;
      behind = f.behind;
      piece = piece_then flags s.stack line (turned context) e.behind f.behind t.entries u.entries e.piece f.piece;
      stands = f.agrees;
    })

-- a line that ends an event and then starts one
turning_line : (flags : ℕ → ℕ → ℕ) (context : Context) (s : State) (line : Line) (m : Numbers) (subject : Subject) (turns : List Turn) → Agrees flags context s → IsSubject subject
    → subject_of line ≡ Some subject
    → ((event : Opened) → (others : List Opened) → context.opened ≡ event ∷ others → shape context line ≡ ending context.slot event ++ starting context.slot subject)
    → AreTurns s turns → steps_of turns ≡ EndsEvent m ∷ StartsEvent subject ∷ [] → LoadsAgree flags (turns_calls turns)
    → IsLine flags s.stack false context line (turns_entries turns) (state_after s turns)
turning_line flags context s line m subject turns a is of same are steps loads =
    let o : TwoTurns turns (EndsEvent m) (StartsEvent subject) = two_turns turns (EndsEvent m) (StartsEvent subject) steps in
    let t : Turn = o.first in
    let u : Turn = o.second in
    let P : List Turn → Type 0 = λ z. IsLine flags s.stack false context line (turns_entries z) (state_after s z) in
    let ours : AreTurns s (u ∷ t ∷ []) = subst (AreTurns s) o.is are in
    let first : Ends s m t.calls t.entries t.after = does_at s t (EndsEvent m) o.first_is ours.1.0 in
    let e : EndIs flags s.stack line (turned context) t.entries t.after = end_is flags line (turned context) s t.after m t.calls t.entries (turned_agrees flags context s a) first in
    let begun0 : StartIs flags t.after.stack e.behind subject u.entries u.after =
    start_is flags e.behind t.after subject u.calls u.entries u.after e.agrees is (does_at t.after u (StartsEvent subject) o.second_is ours.0)
    (loads_front flags u.calls _ (subst (λ z. LoadsAgree flags (turns_calls z)) o.is loads)) in
    let begun : StartIs flags s.stack e.behind subject u.entries u.after =
    subst (λ z. StartIs flags z e.behind subject u.entries u.after) (ends_stack s m t.calls t.entries t.after first) begun0 in
    subst P (sym o.is) (record {
      shaped = ap (λ z. cut z (t.entries ++ u.entries)) (same e.event e.others e.opened_is ∙ ap (λ z. ending context.slot e.event ++ starting z subject) (sym e.behind_slot))
          ∙ cut_both (ending context.slot e.event) (starting e.behind.slot subject) t.entries u.entries (ending_closed context.slot e.event) begun.headed e.shaped begun.shaped;
      behind = noted (Some subject) e.behind begun.entry;
      piece = piece_then flags s.stack line (turned context) e.behind _ t.entries u.entries e.piece (start_piece flags s.stack line subject e.behind u.entries u.after of begun);
      stands = begun.agrees;
    })

-- whether the innermost open event is a stage
abbrev pub has_stage : List Open → Bool
has_stage [] = false
has_stage (what ∷ events) = is_stage what.kind

pub ends_by : (events : List Open) (b : Bool) → has_stage events ≡ b → stage_ends events ≡ (if b then EndsEvent no_numbers ∷ [] else [])
ends_by [] true e = absurd (false≢true e)
ends_by [] false e = refl
ends_by (what ∷ events) b e = ap (λ z. if z then EndsEvent no_numbers ∷ [] else []) e

-- the journal tells whether it is
told_stage : (flags : ℕ → ℕ → ℕ) (slot : Option ℕ) (opened : List Opened) (events : List Open) (b : Bool) → AreAlike flags slot opened events → has_stage events ≡ b
    → (event : Opened) → (others : List Opened) → opened ≡ event ∷ others → is_stage event.subject.kind ≡ b
told_stage flags slot [] [] b are e event others o = absurd (cc)
told_stage flags slot [] (w ∷ ws) b are e event others o = absurd are
told_stage flags slot (x ∷ xs) [] b are e event others o = absurd are
told_stage flags slot (x ∷ xs) (w ∷ ws) b are e event others o =
    let same : x ≡ event = cc in
    ap (λ (z : Opened). is_stage z.subject.kind) (sym same) ∙ (ap is_stage are.0.kind ∙ e)

-- nothing ends where no stage is open
no_ending : (flags : ℕ → ℕ → ℕ) (slot own : Option ℕ) (opened : List Opened) (events : List Open) → AreAlike flags slot opened events → has_stage events ≡ false
    → ending_stage own opened ≡ []
no_ending flags slot own [] [] are e = refl
no_ending flags slot own [] (w ∷ ws) are e = absurd are
no_ending flags slot own (x ∷ xs) [] are e = absurd are
no_ending flags slot own (x ∷ xs) (w ∷ ws) are e = ap (λ b. if b then ending own x else []) (ap is_stage are.0.kind ∙ e)

stage_shape : (own : Option ℕ) (opened : List Opened) (event : Opened) (others : List Opened) → opened ≡ event ∷ others → is_stage event.subject.kind ≡ true
    → ending_stage own opened ≡ ending own event
stage_shape own opened event others o e = ap (ending_stage own) o ∙ ap (λ b. if b then ending own event else []) e

both_shape : (own : Option ℕ) (opened : List Opened) (event : Opened) (others : List Opened) (b : Bool) → opened ≡ event ∷ others → is_stage event.subject.kind ≡ b
    → ending_both own opened ≡ ending own event ++ (if b then ending_first own others else [])
both_shape own opened event others b o e = ap (ending_both own) o ∙ ap (λ z. ending own event ++ (if z then ending_first own others else [])) e

-- a line that starts a stage
pub staging_line : (flags : ℕ → ℕ → ℕ) (context : Context) (s : State) (subject : Subject) (turns : List Turn) → Agrees flags context s → IsSubject subject → AreTurns s turns
    → steps_of turns ≡ stage_steps s.opened.events (Some subject) → LoadsAgree flags (turns_calls turns)
    → IsLine flags s.stack false context (lines.Stage subject) (turns_entries turns) (state_after s turns)
staging_line flags context s subject turns a is are steps loads = by_stage (has_stage s.opened.events) refl where
  by_stage : (b : Bool) → has_stage s.opened.events ≡ b → IsLine flags s.stack false context (lines.Stage subject) (turns_entries turns) (state_after s turns)
  by_stage false e =
      starting_line flags context s (lines.Stage subject) subject turns a is refl
      (ap (λ z. z ++ starting context.slot subject) (no_ending flags s.place.thread context.slot context.opened s.opened.events a.opened e)) are
      (steps ∙ ap (λ z. z ++ StartsEvent subject ∷ []) (ends_by s.opened.events false e)) loads
  by_stage true e =
      turning_line flags context s (lines.Stage subject) no_numbers subject turns a is refl
      (λ event others o. ap (λ z. z ++ starting context.slot subject) (stage_shape context.slot context.opened event others o
      (told_stage flags s.place.thread context.opened s.opened.events true a.opened e event others o))) are
      (steps ∙ ap (λ z. z ++ StartsEvent subject ∷ []) (ends_by s.opened.events true e)) loads

-- nothing stands at a line that asks for nothing
silent_line : (flags : ℕ → ℕ → ℕ) (stack : ℕ) (context : Context) (s : State) (line : Line) (turns : List Turn) → Agrees flags context s → shape context line ≡ [] → turns ≡ []
    → IsLine flags stack false context line (turns_entries turns) (state_after s turns)
silent_line flags stack context s line turns a same none =
    let P : List Turn → Type 0 = λ z. IsLine flags stack false context line (turns_entries z) (state_after s z) in
    subst P (sym none) (record {
      shaped = ap (λ z. cut z []) same ∙ cut_nothing [];
      behind = turned context;
      piece = piece_none flags stack line (turned context);
      stands = turned_agrees flags context s a;
    })

pub stage_end_line : (flags : ℕ → ℕ → ℕ) (context : Context) (s : State) (turns : List Turn) → Agrees flags context s → AreTurns s turns
    → steps_of turns ≡ stage_steps s.opened.events None → IsLine flags s.stack false context lines.StageEnd (turns_entries turns) (state_after s turns)
stage_end_line flags context s turns a are steps = by_stage (has_stage s.opened.events) refl where
  by_stage : (b : Bool) → has_stage s.opened.events ≡ b → IsLine flags s.stack false context lines.StageEnd (turns_entries turns) (state_after s turns)
  by_stage false e =
      silent_line flags s.stack context s lines.StageEnd turns a (no_ending flags s.place.thread context.slot context.opened s.opened.events a.opened e)
      (no_turns turns (steps ∙ (append-nil (stage_ends s.opened.events) ∙ ends_by s.opened.events false e)))
  by_stage true e =
      ending_line flags context s lines.StageEnd no_numbers turns a
      (λ event others o. stage_shape context.slot context.opened event others o (told_stage flags s.place.thread context.opened s.opened.events true a.opened e event others o)) are
      (steps ∙ (append-nil (stage_ends s.opened.events) ∙ ends_by s.opened.events true e))

pub end_line : (flags : ℕ → ℕ → ℕ) (context : Context) (s : State) (numbers : Numbers) (turns : List Turn) → Agrees flags context s → AreTurns s turns
    → steps_of turns ≡ stage_ends s.opened.events ++ EndsEvent numbers ∷ [] → IsLine flags s.stack false context lines.End (turns_entries turns) (state_after s turns)
end_line flags context s numbers turns a are steps = by_stage (has_stage s.opened.events) refl where
  by_stage : (b : Bool) → has_stage s.opened.events ≡ b → IsLine flags s.stack false context lines.End (turns_entries turns) (state_after s turns)
  by_stage false e =
      ending_line flags context s lines.End numbers turns a
      (λ event others o. both_shape context.slot context.opened event others false o (told_stage flags s.place.thread context.opened s.opened.events false a.opened e event others o)
      ∙ append-nil (ending context.slot event)) are
      (steps ∙ ap (λ z. z ++ EndsEvent numbers ∷ []) (ends_by s.opened.events false e))
  by_stage true e =
      ending_two flags context s lines.End no_numbers numbers turns a
      (λ event others o. both_shape context.slot context.opened event others true o (told_stage flags s.place.thread context.opened s.opened.events true a.opened e event others o)) are
      (steps ∙ ap (λ z. z ++ EndsEvent numbers ∷ []) (ends_by s.opened.events true e))

pub spend_line : (flags : ℕ → ℕ → ℕ) (context : Context) (s : State) (time : ℕ) (turns : List Turn) → Agrees flags context s → AreTurns s turns
    → steps_of turns ≡ Spends time ∷ [] → IsLine flags s.stack false context lines.Spend (turns_entries turns) (state_after s turns)
spend_line flags context s time turns a are steps =
    let o : OneTurn turns (Spends time) = one_turn turns (Spends time) steps in
    let t : Turn = o.turn in
    let P : List Turn → Type 0 = λ z. IsLine flags s.stack false context lines.Spend (turns_entries z) (state_after s z) in
    let ours : AreTurns s (t ∷ []) = subst (AreTurns s) o.is are in
    let d = does_at s t (Spends time) o.step_is ours.0 in
    let E : List Entry → Type 0 = λ z. IsPiece flags s.stack lines.Spend (turned context) z (turned context) in
    subst P (sym o.is) (record {
      shaped = ap (cut []) d.1 ∙ cut_nothing [];
      behind = turned context;
      piece = subst E (sym d.1) (piece_none flags s.stack lines.Spend (turned context));
      stands = subst (λ z. Agrees flags (turned context) z) (sym d.2)
          (record { slot = a.slot; opened = a.opened; held = a.held; drawn = a.drawn; wide = a.wide; low = a.low });
    })

-- a session with nothing open has a journal that tells of nothing open
none_open : (flags : ℕ → ℕ → ℕ) (slot : Option ℕ) (opened : List Opened) (events : List Open) → AreAlike flags slot opened events → events ≡ [] → opened ≡ []
none_open flags slot [] events are e = refl
none_open flags slot (x ∷ xs) [] are e = absurd are
none_open flags slot (x ∷ xs) (w ∷ ws) are e = absurd (cc)

pub connect_line : (flags : ℕ → ℕ → ℕ) (context : Context) (s : State) (admin : Administration) (user host : ℕ) (turns : List Turn) → Agrees flags context s
    → s.opened.events ≡ [] → s.held ≡ nothing_held → IfSome (placed_of (seat_at admin s.number user host)).thread (λ n. n < 32) → AreTurns s turns
    → steps_of turns ≡ Connects admin user host ∷ [] → IsLine flags s.stack false context lines.Connect (turns_entries turns) (state_after s turns)
connect_line flags context s admin user host turns a empty free low are steps =
    let o : OneTurn turns (Connects admin user host) = one_turn turns (Connects admin user host) steps in
    let t : Turn = o.turn in
    let P : List Turn → Type 0 = λ z. IsLine flags s.stack false context lines.Connect (turns_entries z) (state_after s z) in
    let ours : AreTurns s (t ∷ []) = subst (AreTurns s) o.is are in
    let d = does_at s t (Connects admin user host) o.step_is ours.0 in
    let w = d.0 in
    let seat = seat_at admin s.number user host in
    let work = work_of_connect admin s.number user host in
    let head : Entry = connect_entry (admin.actions + 1) seat in
    let rest : List Entry = moves_entries w.moves ++ (signs_entries w.made ++ flagging_entries admin.words work.flags) in
    let quiet = work_quiet w.moves w.made admin.words work.flags in
    let mid : Context = noted None (turned context) head in
    let behind : Context = after_entries None mid rest in
    let c = connected_context (turned context) (admin.actions + 1) seat in
    let k = quiet_context None mid rest quiet in
    let opened : behind.opened ≡ [] = k.untouched.opened ∙ (c.opened ∙ none_open flags s.place.thread context.opened s.opened.events a.opened empty) in
    let place = placed_of seat in
    let next : State = record (acted s (connected admin s.number user host)) { place = place } in
    let none_held : (slot : Option ℕ) → map row_owed (owed_in slot s.held) ≡ [] = λ slot. ap (λ z. map row_owed (owed_in slot z)) free ∙ ap (map row_owed) (nothing_owed slot) in
    let O : List Opened → Type 0 = λ z. AreAlike flags place.thread z s.opened.events in
    let F : List Open → Type 0 = λ z. AreAlike flags place.thread [] z in
    let E : List Entry → Type 0 = λ z. IsPiece flags s.stack lines.Connect (turned context) z behind in
    let stands : Agrees flags behind next = record {
      slot = k.untouched.slot ∙ c.slot;
      opened = subst O (sym opened) (subst F (sym empty) tt);
      held = k.held ∙ (c.held ∙ (a.held ∙ (none_held s.place.thread ∙ sym (none_held place.thread))));
      drawn = k.untouched.drawn ∙ (c.drawn ∙ a.drawn);
      wide = a.wide;
      low = low;
    } in
    subst P (sym o.is) (record {
      shaped = ap (cut (one asks.Connect ∷ changes)) w.entries_are
          ∙ (cut_one asks.Connect changes head rest (connect_fits (admin.actions + 1) seat) ∙ work_shaped w.moves w.made admin.words work.flags);
      behind = behind;
      piece = subst E (sym w.entries_are) (piece_then flags s.stack lines.Connect (turned context) mid behind (head ∷ []) rest
          (piece_plain flags s.stack lines.Connect (turned context) head (connect_plain (admin.actions + 1) seat))
          (piece_plains flags s.stack lines.Connect mid rest (quiet_plains rest quiet)));
      stands = subst (λ z. Agrees flags behind z) (sym d.1) stands;
    })

pub quit_line : (flags : ℕ → ℕ → ℕ) (context : Context) (s : State) (admin : Administration) (turns : List Turn) → Agrees flags context s → s.opened.events ≡ [] → AreTurns s turns
    → steps_of turns ≡ SettlesHeld ∷ Quits admin ∷ [] → IsLine flags s.stack true context lines.Quit (turns_entries turns) (state_after s turns)
quit_line flags context s admin turns a empty are steps =
    let o : TwoTurns turns SettlesHeld (Quits admin) = two_turns turns SettlesHeld (Quits admin) steps in
    let t : Turn = o.first in
    let u : Turn = o.second in
    let P : List Turn → Type 0 = λ z. IsLine flags s.stack true context lines.Quit (turns_entries z) (state_after s z) in
    let ours : AreTurns s (u ∷ t ∷ []) = subst (AreTurns s) o.is are in
    let e : SettleIs flags s.stack lines.Quit (turned context) t.entries t.after =
    settle_is flags lines.Quit (turned context) s t.after t.calls t.entries (turned_agrees flags context s a) (does_at s t SettlesHeld o.first_is ours.1.0) in
    let d = does_at t.after u (Quits admin) o.second_is ours.0 in
    let w = d.0 in
    let work = work_of_quit admin t.after.number in
    let head : Entry = says.Act (admin.actions + 1) in
    let rest : List Entry = moves_entries w.moves ++ (signs_entries w.made ++ flagging_entries admin.words work.flags) in
    let quiet = work_quiet w.moves w.made admin.words work.flags in
    let behind : Context = after_entries None e.behind (head ∷ rest) in
    let k = quiet_context None e.behind (head ∷ rest) (refl, quiet) in
    let E : List Entry → Type 0 = λ z. IsPiece flags s.stack lines.Quit (turned context) (t.entries ++ z) behind in
    let over : IsOver behind u.after = record {
      opened = k.untouched.opened ∙ (e.untouched.opened ∙ none_open flags s.place.thread context.opened s.opened.events a.opened empty);
      held = k.held ∙ e.held;
      nowhere = ap (λ (z : State). z.place.thread) d.1;
    } in
    subst P (sym o.is) (record {
      shaped = ap (λ z. cut (settling context.held ++ one asks.Act ∷ changes) (t.entries ++ z)) w.entries_are
          ∙ cut_both (settling context.held) (one asks.Act ∷ changes) t.entries (head ∷ rest) (settling_closed context.held) refl e.shaped
          (cut_one asks.Act changes head rest refl ∙ work_shaped w.moves w.made admin.words work.flags);
      behind = behind;
      piece = subst E (sym w.entries_are) (piece_then flags s.stack lines.Quit (turned context) e.behind behind t.entries (head ∷ rest) e.piece
          (piece_plains flags s.stack lines.Quit e.behind (head ∷ rest) (refl, quiet_plains rest quiet)));
      stands = over;
    })

-- a line that settles and does an action that an entry closes
action_line : (flags : ℕ → ℕ → ℕ) (context : Context) (s mid after : State) (line : Line) (ask : Ask) (answer : Entry) (admin next : Administration) (work : Work) (calls more : List Call)
    (entries changed : List Entry) → Agrees flags context s → shape context line ≡ settling context.held ++ one asks.Act ∷ (changes ++ one ask ∷ []) → IsLast ask answer
    → Settles s calls entries mid → Works work admin.words (says.Act (admin.actions + 1) ∷ []) more changed → after ≡ acted mid next
    → IsLine flags s.stack false context line (entries ++ (changed ++ answer ∷ [])) after
action_line flags context s mid after line ask answer admin next work calls more entries changed a same last settles w is_after =
    let e : SettleIs flags s.stack line (turned context) entries mid = settle_is flags line (turned context) s mid calls entries (turned_agrees flags context s a) settles in
    let head : Entry = says.Act (admin.actions + 1) in
    let rest : List Entry = moves_entries w.moves ++ (signs_entries w.made ++ flagging_entries admin.words work.flags) in
    let whole : List Entry = head ∷ (rest ++ answer ∷ []) in
    let quiet = all_then true is_quiet (head ∷ rest) (answer ∷ []) (refl, work_quiet w.moves w.made admin.words work.flags) (last.quiet, tt) in
    let behind : Context = after_entries (subject_of line) e.behind whole in
    let k = quiet_context (subject_of line) e.behind whole quiet in
    let is : changed ++ answer ∷ [] ≡ whole = ap (λ z. z ++ answer ∷ []) w.entries_are in
    let joined : rest ++ answer ∷ [] ≡ moves_entries w.moves ++ (signs_entries w.made ++ (flagging_entries admin.words work.flags ++ answer ∷ [])) =
    append_assoc (moves_entries w.moves) (signs_entries w.made ++ flagging_entries admin.words work.flags) (answer ∷ [])
    ∙ ap (λ z. moves_entries w.moves ++ z) (append_assoc (signs_entries w.made) (flagging_entries admin.words work.flags) (answer ∷ [])) in
    let stands : Agrees flags behind (acted mid next) = record {
      slot = k.untouched.slot ∙ e.agrees.slot;
      opened = subst (λ z. AreAlike flags mid.place.thread z mid.opened.events) (sym k.untouched.opened) e.agrees.opened;
      held = k.held ∙ e.agrees.held;
      drawn = k.untouched.drawn ∙ e.agrees.drawn;
      wide = e.agrees.wide;
      low = e.agrees.low;
    } in
    let own : IsLine flags s.stack false context line (entries ++ whole) (acted mid next) = record {
      shaped = ap (λ z. cut z (entries ++ whole)) same
          ∙ cut_both (settling context.held) (one asks.Act ∷ (changes ++ one ask ∷ [])) entries whole (settling_closed context.held) refl e.shaped
          (cut_one asks.Act (changes ++ one ask ∷ []) head (rest ++ answer ∷ []) refl
          ∙ (ap (cut (changes ++ one ask ∷ [])) joined ∙ answered_shaped w.moves w.made admin.words work.flags ask answer last));
      behind = behind;
      piece = piece_then flags s.stack line (turned context) e.behind behind entries whole e.piece (piece_plains flags s.stack line e.behind whole (quiet_plains whole quiet));
      stands = stands;
    } in
    subst (λ z. IsLine flags s.stack false context line (entries ++ z) after) (sym is) (subst (λ z. IsLine flags s.stack false context line (entries ++ whole) z) (sym is_after) own)

pub truncation_line : (flags : ℕ → ℕ → ℕ) (context : Context) (s : State) (admin : Administration) (what : Truncation) (turns : List Turn) → Agrees flags context s → AreTurns s turns
    → steps_of turns ≡ SettlesHeld ∷ Truncates admin what ∷ [] → IsLine flags s.stack false context lines.Change (turns_entries turns) (state_after s turns)
truncation_line flags context s admin what turns a are steps =
    let o : TwoTurns turns SettlesHeld (Truncates admin what) = two_turns turns SettlesHeld (Truncates admin what) steps in
    let t : Turn = o.first in
    let u : Turn = o.second in
    let P : List Turn → Type 0 = λ z. IsLine flags s.stack false context lines.Change (turns_entries z) (state_after s z) in
    let ours : AreTurns s (u ∷ t ∷ []) = subst (AreTurns s) o.is are in
    let settles : Settles s t.calls t.entries t.after = does_at s t SettlesHeld o.first_is ours.1.0 in
    let d : Truncated t.after admin what u.calls u.entries u.after = does_at t.after u (Truncates admin what) o.second_is ours.0 in
    subst P (sym o.is) (subst (λ z. IsLine flags s.stack false context lines.Change (t.entries ++ z) u.after) (sym d.entries_are)
    (action_line flags context s t.after u.after lines.Change asks.Answer (says.Reply 0) admin (has_truncated admin what) (work_of_truncation admin what) t.calls u.calls t.entries d.changes
    a refl (reply_last (replies.Changed 0)) settles d.works d.after_is))

-- any but a SELECT is answered
pub replied : (what : SetupStatement) (reply : Reply) → IsReplied what → reply_entries what reply ≡ reply_entry reply ∷ []
replied Show reply r = absurd r
replied (Update update) reply r = refl
replied (Insert insert) reply r = refl
replied (Delete delete) reply r = refl

pub change_line : (flags : ℕ → ℕ → ℕ) (context : Context) (s : State) (admin : Administration) (what : SetupStatement) (turns : List Turn) → Agrees flags context s → IsReplied what
    → AreTurns s turns → steps_of turns ≡ SettlesHeld ∷ Changes admin what ∷ [] → IsLine flags s.stack false context lines.Change (turns_entries turns) (state_after s turns)
change_line flags context s admin what turns a answered are steps =
    let o : TwoTurns turns SettlesHeld (Changes admin what) = two_turns turns SettlesHeld (Changes admin what) steps in
    let t : Turn = o.first in
    let u : Turn = o.second in
    let P : List Turn → Type 0 = λ z. IsLine flags s.stack false context lines.Change (turns_entries z) (state_after s z) in
    let ours : AreTurns s (u ∷ t ∷ []) = subst (AreTurns s) o.is are in
    let settles : Settles s t.calls t.entries t.after = does_at s t SettlesHeld o.first_is ours.1.0 in
    let d : Changed t.after admin what u.calls u.entries u.after = does_at t.after u (Changes admin what) o.second_is ours.0 in
    let reply : Reply = reply_to admin what in
    let is : u.entries ≡ d.changes ++ reply_entry reply ∷ [] = d.entries_are ∙ ap (λ z. d.changes ++ z) (replied what reply answered) in
    subst P (sym o.is) (subst (λ z. IsLine flags s.stack false context lines.Change (t.entries ++ z) u.after) (sym is)
    (action_line flags context s t.after u.after lines.Change asks.Answer (reply_entry reply) admin (has_changed admin what) (work_of_statement admin what) t.calls u.calls t.entries d.changes
    a refl (reply_last reply) settles d.works d.after_is))

-- of a SELECT of a setup table the rows close the action
pub show_line : (flags : ℕ → ℕ → ℕ) (context : Context) (s : State) (admin : Administration) (count : ℕ) (turns : List Turn) → Agrees flags context s → AreTurns s turns
    → steps_of turns ≡ SettlesHeld ∷ Changes admin Show ∷ remark (Rows count) ∷ [] → IsLine flags s.stack false context lines.Show (turns_entries turns) (state_after s turns)
show_line flags context s admin count turns a are steps =
    let o : ThreeTurns turns SettlesHeld (Changes admin Show) (remark (Rows count)) = three_turns turns SettlesHeld (Changes admin Show) (remark (Rows count)) steps in
    let t : Turn = o.first in
    let u : Turn = o.second in
    let v : Turn = o.third in
    let P : List Turn → Type 0 = λ z. IsLine flags s.stack false context lines.Show (turns_entries z) (state_after s z) in
    let ours : AreTurns s (v ∷ u ∷ t ∷ []) = subst (AreTurns s) o.is are in
    let settles : Settles s t.calls t.entries t.after = does_at s t SettlesHeld o.first_is ours.1.1.0 in
    let d : Changed t.after admin Show u.calls u.entries u.after = does_at t.after u (Changes admin Show) o.second_is ours.1.0 in
    let r : Inquired u.after (Remarks (Rows count)) v.calls v.entries v.after = does_at u.after v (remark (Rows count)) o.third_is ours.0 in
    let is : (t.entries ++ u.entries) ++ v.entries ≡ t.entries ++ (d.changes ++ says.Rows count ∷ []) =
    append_assoc t.entries u.entries v.entries
    ∙ ap (λ z. t.entries ++ z) (ap (λ z. z ++ v.entries) (d.entries_are ∙ append-nil d.changes) ∙ ap (λ z. d.changes ++ z) r.entries_are) in
    subst P (sym o.is) (subst (λ z. IsLine flags s.stack false context lines.Show z v.after) (sym is)
    (action_line flags context s t.after v.after lines.Show asks.Rows (says.Rows count) admin (has_changed admin Show) (work_of_statement admin Show) t.calls u.calls t.entries d.changes
    a refl (rows_last count) settles d.works (r.after_is ∙ d.after_is)))

-- a line of which all entries are quiet, and which leaves its session as it was
quiet_line : (flags : ℕ → ℕ → ℕ) (context : Context) (s after : State) (line : Line) (entries : List Entry) → Agrees flags context s → cut (shape context line) entries ≡ Ok []
    → AreAll true is_quiet entries → after ≡ s → IsLine flags s.stack false context line entries after
quiet_line flags context s after line entries a shaped quiet same =
    let behind : Context = after_entries (subject_of line) (turned context) entries in
    let k = quiet_context (subject_of line) (turned context) entries quiet in
    let stands : Agrees flags behind s = record {
      slot = k.untouched.slot ∙ a.slot;
      opened = subst (λ z. AreAlike flags s.place.thread z s.opened.events) (sym k.untouched.opened) a.opened;
      held = k.held ∙ a.held;
      drawn = k.untouched.drawn ∙ a.drawn;
      wide = a.wide;
      low = a.low;
    } in
    record {
      shaped = shaped;
      behind = behind;
      piece = piece_plains flags s.stack line (turned context) entries (quiet_plains entries quiet);
      stands = subst (λ z. Agrees flags behind z) (sym same) stands;
    }

pub query_line : (flags : ℕ → ℕ → ℕ) (context : Context) (s : State) (readings : List Reading) (count : ℕ) (turns : List Turn) → Agrees flags context s → AreTurns s turns
    → steps_of turns ≡ remark Query ∷ (looks readings ++ remark (Rows count) ∷ []) → IsLine flags s.stack false context lines.Query (turns_entries turns) (state_after s turns)
query_line flags context s readings count turns a are steps =
    let t : Told s (asked_by readings count) turns = told s (asked_by readings count) turns are (steps ∙ asked_steps readings count) in
    let is : turns_entries turns ≡ answers_to readings count = t.entries_are ∙ asked_entries readings count in
    subst (λ z. IsLine flags s.stack false context lines.Query z (state_after s turns)) (sym is)
    (quiet_line flags context s (state_after s turns) lines.Query (answers_to readings count) a (answers_shaped readings count) (answers_quiet readings count) t.after_is)

pub refusal_line : (flags : ℕ → ℕ → ℕ) (context : Context) (s : State) (error : ℕ) (turns : List Turn) → Agrees flags context s → AreTurns s turns
    → steps_of turns ≡ remark (Refused error) ∷ [] → IsLine flags s.stack false context (lines.Refused error) (turns_entries turns) (state_after s turns)
refusal_line flags context s error turns a are steps =
    let t : Told s (Remarks (Refused error) ∷ []) turns = told s (Remarks (Refused error) ∷ []) turns are steps in
    subst (λ z. IsLine flags s.stack false context (lines.Refused error) z (state_after s turns)) (sym t.entries_are)
    (quiet_line flags context s (state_after s turns) (lines.Refused error) (says.Error error ∷ []) a (cut_one asks.Error [] (says.Error error) [] refl ∙ cut_nothing []) (refl, tt) t.after_is)

pub close_line : (flags : ℕ → ℕ → ℕ) (context : Context) (s : State) (turns : List Turn) → Agrees flags context s → AreTurns s turns
    → steps_of turns ≡ SettlesHeld ∷ [] → IsLine flags s.stack false context lines.Close (turns_entries turns) (state_after s turns)
close_line flags context s turns a are steps =
    let o : OneTurn turns SettlesHeld = one_turn turns SettlesHeld steps in
    let t : Turn = o.turn in
    let P : List Turn → Type 0 = λ z. IsLine flags s.stack false context lines.Close (turns_entries z) (state_after s z) in
    let ours : AreTurns s (t ∷ []) = subst (AreTurns s) o.is are in
    let e : SettleIs flags s.stack lines.Close (turned context) t.entries t.after =
    settle_is flags lines.Close (turned context) s t.after t.calls t.entries (turned_agrees flags context s a) (does_at s t SettlesHeld o.step_is ours.0) in
    subst P (sym o.is) (record { shaped = e.shaped; behind = e.behind; piece = e.piece; stands = e.agrees })

-- behind a session's end
pub over_line : (flags : ℕ → ℕ → ℕ) (context : Context) (s : State) (turns : List Turn) → IsOver context s → AreTurns s turns
    → steps_of turns ≡ SettlesHeld ∷ [] → IsLine flags s.stack true context lines.Close (turns_entries turns) (state_after s turns)
over_line flags context s turns a are steps =
    let o : OneTurn turns SettlesHeld = one_turn turns SettlesHeld steps in
    let t : Turn = o.turn in
    let P : List Turn → Type 0 = λ z. IsLine flags s.stack true context lines.Close (turns_entries z) (state_after s z) in
    let ours : AreTurns s (t ∷ []) = subst (AreTurns s) o.is are in
    let e : Settles s t.calls t.entries t.after = does_at s t SettlesHeld o.step_is ours.0 in
    let owed = owed_by_state s in
    let none : owed ≡ [] = ap (λ z. owed_in z s.held) a.nowhere in
    let held : context.held ≡ map row_owed owed = a.held ∙ sym (ap (map row_owed) none) in
    let whole : List Entry = settle_head owed ++ paid_entries e.paid in
    let behind : Context = after_entries None (turned context) whole in
    let c = settled_context None owed e.paid (turned context) e.owed_are held in
    let E : List Entry → Type 0 = λ z. IsPiece flags s.stack lines.Close (turned context) z behind in
    subst P (sym o.is) (record {
      shaped = ap (cut (settling context.held)) e.entries_are ∙ (ap (λ z. cut (settling z) whole) held ∙ settle_shaped owed e.paid e.owed_are);
      behind = behind;
      piece = subst E (sym e.entries_are) (piece_plains flags s.stack lines.Close (turned context) whole (settle_plain owed e.paid));
      stands = record { opened = c.untouched.opened ∙ a.opened; held = c.held; nowhere = ap (λ (z : State). z.place.thread) e.after_is ∙ a.nowhere };
    })
