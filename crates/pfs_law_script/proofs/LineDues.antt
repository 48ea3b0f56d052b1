-- Each line of a session brings what is due.
use Rattle.std.proofs.Common.{ℕ, ◌≡◌, ◌+◌, Bool, true, false, List, [], ◌∷◌, ◌++◌, Option, Some, refl, ap, sym, ◌∙◌, subst}
use Rattle.std.proofs.lemmas.List.{append_assoc, append-nil}
use Rattle.pfs_admin.specs.ConnectionAsks.{work_of_connect, work_of_quit}
use Rattle.pfs_admin.specs.AdministrationStates.{seat_at}
use Rattle.pfs_admin.specs.AdministrationStates.{State as Administration}
use Rattle.pfs_admin.specs.declared.changes.SetupStatement.{SetupStatement}
use Rattle.pfs_admin.specs.declared.changes.SetupStatement.TheVariants.{Show}
use Rattle.pfs_event.specs.declared.entry.Entry.{Entry}
use Rattle.pfs_event.specs.declared.entry.Entry.TheVariants as says
use Rattle.pfs_model.specs.Contexts.{Context, subject_of, turned, after_entries}
use Rattle.pfs_model.specs.declared.lines.Line.{Line}
use Rattle.pfs_model.specs.declared.lines.Subject.{Subject}
use Rattle.pfs_law_session.proofs.EndEntries.{EndIs, end_is}
use Rattle.pfs_law_session.proofs.Inquiries.{Told, told, asked_by, asked_steps, asked_entries, answers_quiet}
use Rattle.pfs_law_session.proofs.FewTurns.{OneTurn, TwoTurns, ThreeTurns, no_turns, one_turn, two_turns, three_turns}
use Rattle.pfs_law_session.proofs.StartEntries.{loads_behind}
use Rattle.pfs_law_session.proofs.LineEntries.{turned_agrees, does_at, has_stage, ends_by, loads_one, loads_front}
use Rattle.pfs_law_session.specs.Agreement.{LoadsAgree, Agrees, Stands}
use Rattle.pfs_law_session.specs.Deeds.{Deed, Connecting, Starting, Staging, StageEnding, Ending, Spending, Quitting, Truncating, Changing, Showing, Querying, Refusing, Closing, Part, IsPart, MayDo, looks, remark, line_of, steps_for, part_calls, part_entries}
use Rattle.pfs_rows.specs.declared.table.Reading.{Reading}
use Rattle.pfs_session.specs.Ends.{Ends, no_numbers}
use Rattle.pfs_session.specs.Inquiries.{Remarks}
use Rattle.pfs_session.specs.Settlements.{Settles}
use Rattle.pfs_session.specs.SessionStates.{State}
use Rattle.pfs_session.specs.Turns.{Step, StartsEvent, EndsEvent, Spends, SettlesHeld, Connects, Quits, Truncates, Changes, Turn, AreTurns, state_after, steps_of, turns_calls, turns_entries, stage_ends}
use Rattle.pfs_session.specs.declared.events.Numbers.{Numbers}
use Rattle.pfs_session.specs.declared.remarks.Remark.TheVariants.{Query, Rows, Refused}
use Rattle.pfs_rows.specs.declared.truncations.Truncation.{Truncation}
use Rattle.pfs_law_script.proofs.StepDues.{Brings, brings_none, brings_then, works_bring, connect_brings, truncated_bring, changed_bring, quiet_brings, settles_bring, starts_bring, ends_bring}
use Rattle.pfs_law_script.proofs.HistoryDues.{Marks}
use Rattle.pfs_law_script.proofs.SessionSlots.{Keeps, begun_deep, does_keeps}
use Rattle.pfs_law_script.proofs.RingDues.{Fits}

-- one turn and two turns of a part
module _ (flags : ℕ → ℕ → ℕ) (home : Option ℕ) (number : ℕ) (line : Line) (context : Context) (s : State) (turns : List Turn) (are : AreTurns s turns) (loads : LoadsAgree flags (turns_calls turns))
    (k : Keeps home number s) (marks : Marks) (fits : Fits marks s.nexts) where
  abbrev BringAll : List Turn → Type 0
  BringAll ts = Brings flags home (subject_of line) context marks (turns_entries ts) (state_after s ts).nexts

  abbrev Done : Type 0
  Done = BringAll turns

  -- what stands at one turn, and at two
  record AtOne (step : Step) (o : OneTurn turns step) : Type 0 where
    are_turns : AreTurns s (o.turn ∷ [])
    agree : LoadsAgree flags o.turn.calls

  at_one : (step : Step) (o : OneTurn turns step) → AtOne step o
  at_one step o = record { are_turns = subst (AreTurns s) o.is are; agree = loads_one flags o.turn (subst (λ z. LoadsAgree flags (turns_calls z)) o.is loads) }

  record AtTwo (a b : Step) (o : TwoTurns turns a b) : Type 0 where
    are_turns : AreTurns s (o.second ∷ o.first ∷ [])
    agree_first : LoadsAgree flags o.first.calls
    agree_second : LoadsAgree flags o.second.calls

  at_two : (a b : Step) (o : TwoTurns turns a b) → AtTwo a b o
  at_two a b o =
      let both : LoadsAgree flags (turns_calls (o.second ∷ o.first ∷ [])) = subst (λ z. LoadsAgree flags (turns_calls z)) o.is loads in
      record {
        are_turns = subst (AreTurns s) o.is are;
        agree_first = loads_one flags o.first (loads_behind flags o.second.calls (turns_calls (o.first ∷ [])) both);
        agree_second = loads_front flags o.second.calls (turns_calls (o.first ∷ [])) both;
      }

  by_none : steps_of turns ≡ [] → Done
  by_none e = subst BringAll (sym (no_turns turns e)) (brings_none flags home (subject_of line) context marks s.nexts fits)

  by_start : (what : Subject) → subject_of line ≡ Some what → Agrees flags context s → steps_of turns ≡ StartsEvent what ∷ [] → Done
  by_start what own a e =
      let o : OneTurn turns (StartsEvent what) = one_turn turns (StartsEvent what) e in
      let t : Turn = o.turn in
      let at : AtOne (StartsEvent what) o = at_one (StartsEvent what) o in
      let d = does_at s t (StartsEvent what) o.step_is at.are_turns.0 in
      subst BringAll (sym o.is)
      (subst (λ (z : Option Subject). Brings flags home z context marks t.entries t.after.nexts) (sym own)
      (starts_bring flags home context marks s what t.calls t.entries t.after a k.seat d (begun_deep s what _ _ t.after k.stack d.begins) at.agree fits))

  by_end : (numbers : Numbers) → Agrees flags context s → steps_of turns ≡ EndsEvent numbers ∷ [] → Done
  by_end numbers a e =
      let o : OneTurn turns (EndsEvent numbers) = one_turn turns (EndsEvent numbers) e in
      let t : Turn = o.turn in
      let at : AtOne (EndsEvent numbers) o = at_one (EndsEvent numbers) o in
      subst BringAll (sym o.is)
      (ends_bring flags home (subject_of line) context marks s numbers t.calls t.entries t.after a k.seat k.placed (does_at s t (EndsEvent numbers) o.step_is at.are_turns.0) at.agree fits)

  by_spend : (time : ℕ) → steps_of turns ≡ Spends time ∷ [] → Done
  by_spend time e =
      let o : OneTurn turns (Spends time) = one_turn turns (Spends time) e in
      let t : Turn = o.turn in
      let at : AtOne (Spends time) o = at_one (Spends time) o in
      let d = does_at s t (Spends time) o.step_is at.are_turns.0 in
      subst BringAll (sym o.is)
      (subst (λ (z : List Entry). Brings flags home (subject_of line) context marks z t.after.nexts) (sym d.1)
      (subst (λ (z : State). Brings flags home (subject_of line) context marks [] z.nexts) (sym d.2) (brings_none flags home (subject_of line) context marks s.nexts fits)))

  by_settle : steps_of turns ≡ SettlesHeld ∷ [] → Done
  by_settle e =
      let o : OneTurn turns SettlesHeld = one_turn turns SettlesHeld e in
      let t : Turn = o.turn in
      let at : AtOne SettlesHeld o = at_one SettlesHeld o in
      subst BringAll (sym o.is) (settles_bring flags home (subject_of line) context marks s t.calls t.entries t.after (does_at s t SettlesHeld o.step_is at.are_turns.0) fits)

  by_connect : (admin : Administration) (user host : ℕ) → steps_of turns ≡ Connects admin user host ∷ [] → Done
  by_connect admin user host e =
      let o : OneTurn turns (Connects admin user host) = one_turn turns (Connects admin user host) e in
      let t : Turn = o.turn in
      let at : AtOne (Connects admin user host) o = at_one (Connects admin user host) o in
      let d = does_at s t (Connects admin user host) o.step_is at.are_turns.0 in
      let next : Fits marks t.after.nexts = subst (λ (z : State). Fits marks z.nexts) (sym d.1) fits in
      subst BringAll (sym o.is)
      (connect_brings flags home (subject_of line) context marks (work_of_connect admin s.number user host) admin.words (admin.actions + 1) (seat_at admin s.number user host) t.calls t.entries t.after.nexts d.0 next)

  by_quit : (admin : Administration) → steps_of turns ≡ SettlesHeld ∷ Quits admin ∷ [] → Done
  by_quit admin e =
      let o : TwoTurns turns SettlesHeld (Quits admin) = two_turns turns SettlesHeld (Quits admin) e in
      let t : Turn = o.first in
      let u : Turn = o.second in
      let at : AtTwo SettlesHeld (Quits admin) o = at_two SettlesHeld (Quits admin) o in
      let settles : Settles s t.calls t.entries t.after = does_at s t SettlesHeld o.first_is at.are_turns.1.0 in
      let d = does_at t.after u (Quits admin) o.second_is at.are_turns.0 in
      subst BringAll (sym o.is)
      (brings_then flags home (subject_of line) context marks t.entries u.entries t.after.nexts u.after.nexts (settles_bring flags home (subject_of line) context marks s t.calls t.entries t.after settles fits)
      (λ m mid. works_bring flags home (subject_of line) (after_entries (subject_of line) context t.entries) m (work_of_quit admin t.after.number) admin.words (says.Act (admin.actions + 1)) u.calls u.entries u.after.nexts
      refl refl refl d.0 (subst (λ (z : State). Fits m z.nexts) (sym d.1) mid)))

  by_truncate : (admin : Administration) (what : Truncation) → steps_of turns ≡ SettlesHeld ∷ Truncates admin what ∷ [] → Done
  by_truncate admin what e =
      let o : TwoTurns turns SettlesHeld (Truncates admin what) = two_turns turns SettlesHeld (Truncates admin what) e in
      let t : Turn = o.first in
      let u : Turn = o.second in
      let at : AtTwo SettlesHeld (Truncates admin what) o = at_two SettlesHeld (Truncates admin what) o in
      let settles : Settles s t.calls t.entries t.after = does_at s t SettlesHeld o.first_is at.are_turns.1.0 in
      let d = does_at t.after u (Truncates admin what) o.second_is at.are_turns.0 in
      subst BringAll (sym o.is)
      (brings_then flags home (subject_of line) context marks t.entries u.entries t.after.nexts u.after.nexts (settles_bring flags home (subject_of line) context marks s t.calls t.entries t.after settles fits)
      (λ m mid. truncated_bring flags home (subject_of line) (after_entries (subject_of line) context t.entries) m t.after admin what u.calls u.entries u.after u.after.nexts d
      (subst (λ (z : State). Fits m z.nexts) (sym d.after_is) mid)))

  by_change : (admin : Administration) (what : SetupStatement) → steps_of turns ≡ SettlesHeld ∷ Changes admin what ∷ [] → Done
  by_change admin what e =
      let o : TwoTurns turns SettlesHeld (Changes admin what) = two_turns turns SettlesHeld (Changes admin what) e in
      let t : Turn = o.first in
      let u : Turn = o.second in
      let at : AtTwo SettlesHeld (Changes admin what) o = at_two SettlesHeld (Changes admin what) o in
      let settles : Settles s t.calls t.entries t.after = does_at s t SettlesHeld o.first_is at.are_turns.1.0 in
      let d = does_at t.after u (Changes admin what) o.second_is at.are_turns.0 in
      let next : Context = after_entries (subject_of line) context t.entries in
      subst BringAll (sym o.is)
      (brings_then flags home (subject_of line) context marks t.entries u.entries t.after.nexts u.after.nexts (settles_bring flags home (subject_of line) context marks s t.calls t.entries t.after settles fits)
      (λ m mid. subst (λ (z : List Entry). Brings flags home (subject_of line) next m z u.after.nexts) (append-nil u.entries)
      (changed_bring flags home (subject_of line) next m t.after admin what u.calls u.entries u.after [] u.after.nexts d tt (subst (λ (z : State). Fits m z.nexts) (sym d.after_is) mid))))

  by_show : (admin : Administration) (count : ℕ) → steps_of turns ≡ SettlesHeld ∷ Changes admin Show ∷ remark (Rows count) ∷ [] → Done
  by_show admin count e =
      let o : ThreeTurns turns SettlesHeld (Changes admin Show) (remark (Rows count)) = three_turns turns SettlesHeld (Changes admin Show) (remark (Rows count)) e in
      let t : Turn = o.first in
      let u : Turn = o.second in
      let v : Turn = o.third in
      let ours : AreTurns s (v ∷ u ∷ t ∷ []) = subst (AreTurns s) o.is are in
      let settles : Settles s t.calls t.entries t.after = does_at s t SettlesHeld o.first_is ours.1.1.0 in
      let d = does_at t.after u (Changes admin Show) o.second_is ours.1.0 in
      let r = does_at u.after v (remark (Rows count)) o.third_is ours.0 in
      let next : Context = after_entries (subject_of line) context t.entries in
      let rows : List Entry = says.Rows count ∷ [] in
      let is : (t.entries ++ u.entries) ++ v.entries ≡ t.entries ++ (u.entries ++ rows) = append_assoc t.entries u.entries v.entries ∙ ap (λ (z : List Entry). t.entries ++ (u.entries ++ z)) r.entries_are in
      subst BringAll (sym o.is)
      (subst (λ (z : List Entry). Brings flags home (subject_of line) context marks z v.after.nexts) (sym is)
      (brings_then flags home (subject_of line) context marks t.entries (u.entries ++ rows) t.after.nexts v.after.nexts (settles_bring flags home (subject_of line) context marks s t.calls t.entries t.after settles fits)
      (λ m mid. changed_bring flags home (subject_of line) next m t.after admin Show u.calls u.entries u.after rows v.after.nexts d (refl, tt)
      (subst (λ (z : State). Fits m z.nexts) (sym (r.after_is ∙ d.after_is)) mid))))

  by_query : (found : List Reading) (count : ℕ) → steps_of turns ≡ remark Query ∷ (looks found ++ remark (Rows count) ∷ []) → Done
  by_query found count e =
      let t : Told s (asked_by found count) turns = told s (asked_by found count) turns are (e ∙ asked_steps found count) in
      subst (λ (z : List Entry). Brings flags home (subject_of line) context marks z (state_after s turns).nexts) (sym (t.entries_are ∙ asked_entries found count))
      (quiet_brings flags home (subject_of line) context marks says.Query _ (state_after s turns).nexts refl (answers_quiet found count)
      (subst (λ (z : State). Fits marks z.nexts) (sym t.after_is) fits))

  by_refuse : (error : ℕ) → steps_of turns ≡ remark (Refused error) ∷ [] → Done
  by_refuse error e =
      let t : Told s (Remarks (Refused error) ∷ []) turns = told s (Remarks (Refused error) ∷ []) turns are e in
      subst (λ (z : List Entry). Brings flags home (subject_of line) context marks z (state_after s turns).nexts) (sym t.entries_are)
      (quiet_brings flags home (subject_of line) context marks (says.Error error) [] (state_after s turns).nexts refl (refl, tt) (subst (λ (z : State). Fits marks z.nexts) (sym t.after_is) fits))

  -- behind an end the session stands as its journal tells, and keeps what it kept
  record IsEnded (numbers : Numbers) (t : Turn) : Type 0 where
    brings : Brings flags home (subject_of line) context marks t.entries t.after.nexts
    agrees : Agrees flags (after_entries (subject_of line) context t.entries) t.after
    keeps : Keeps home number t.after

  is_ended : (numbers : Numbers) (t : Turn) → Agrees flags context s → Ends s numbers t.calls t.entries t.after → LoadsAgree flags t.calls → IsEnded numbers t
  is_ended numbers t a first agree =
      let is : EndIs flags s.stack line context t.entries t.after = end_is flags line context s t.after numbers t.calls t.entries a first in
      record {
        brings = ends_bring flags home (subject_of line) context marks s numbers t.calls t.entries t.after a k.seat k.placed first agree fits;
        agrees = subst (λ z. Agrees flags z t.after) (sym is.piece.behind_is) is.agrees;
        keeps = does_keeps home number s (EndsEvent numbers) t.calls t.entries t.after k tt first;
      }

  by_end_start : (numbers : Numbers) (what : Subject) → subject_of line ≡ Some what → Agrees flags context s → steps_of turns ≡ EndsEvent numbers ∷ StartsEvent what ∷ [] → Done
  by_end_start numbers what own a e =
      let o : TwoTurns turns (EndsEvent numbers) (StartsEvent what) = two_turns turns (EndsEvent numbers) (StartsEvent what) e in
      let t : Turn = o.first in
      let u : Turn = o.second in
      let at : AtTwo (EndsEvent numbers) (StartsEvent what) o = at_two (EndsEvent numbers) (StartsEvent what) o in
      let i : IsEnded numbers t = is_ended numbers t a (does_at s t (EndsEvent numbers) o.first_is at.are_turns.1.0) at.agree_first in
      let d = does_at t.after u (StartsEvent what) o.second_is at.are_turns.0 in
      let next : Context = after_entries (subject_of line) context t.entries in
      subst BringAll (sym o.is)
      (brings_then flags home (subject_of line) context marks t.entries u.entries t.after.nexts u.after.nexts i.brings
      (λ m mid. subst (λ (z : Option Subject). Brings flags home z next m u.entries u.after.nexts) (sym own)
      (starts_bring flags home next m t.after what u.calls u.entries u.after i.agrees i.keeps.seat d (begun_deep t.after what _ _ u.after i.keeps.stack d.begins) at.agree_second mid)))

  by_two_ends : (one other : Numbers) → Agrees flags context s → steps_of turns ≡ EndsEvent one ∷ EndsEvent other ∷ [] → Done
  by_two_ends one other a e =
      let o : TwoTurns turns (EndsEvent one) (EndsEvent other) = two_turns turns (EndsEvent one) (EndsEvent other) e in
      let t : Turn = o.first in
      let u : Turn = o.second in
      let at : AtTwo (EndsEvent one) (EndsEvent other) o = at_two (EndsEvent one) (EndsEvent other) o in
      let i : IsEnded one t = is_ended one t a (does_at s t (EndsEvent one) o.first_is at.are_turns.1.0) at.agree_first in
      let next : Context = after_entries (subject_of line) context t.entries in
      subst BringAll (sym o.is)
      (brings_then flags home (subject_of line) context marks t.entries u.entries t.after.nexts u.after.nexts i.brings
      (λ m mid. ends_bring flags home (subject_of line) next m t.after other u.calls u.entries u.after i.agrees i.keeps.seat i.keeps.placed (does_at t.after u (EndsEvent other) o.second_is at.are_turns.0) at.agree_second mid))

  -- an open stage ends first
  by_stage_end : (b : Bool) → has_stage s.opened.events ≡ b → Agrees flags context s → steps_of turns ≡ stage_ends s.opened.events ++ [] → Done
  by_stage_end false q a e = by_none (e ∙ (append-nil (stage_ends s.opened.events) ∙ ends_by s.opened.events false q))
  by_stage_end true q a e = by_end no_numbers a (e ∙ (append-nil (stage_ends s.opened.events) ∙ ends_by s.opened.events true q))

  by_staging : (what : Subject) → subject_of line ≡ Some what → (b : Bool) → has_stage s.opened.events ≡ b → Agrees flags context s → steps_of turns ≡ stage_ends s.opened.events ++ StartsEvent what ∷ [] → Done
  by_staging what own false q a e = by_start what own a (e ∙ ap (λ z. z ++ StartsEvent what ∷ []) (ends_by s.opened.events false q))
  by_staging what own true q a e = by_end_start no_numbers what own a (e ∙ ap (λ z. z ++ StartsEvent what ∷ []) (ends_by s.opened.events true q))

  by_ending : (numbers : Numbers) (b : Bool) → has_stage s.opened.events ≡ b → Agrees flags context s → steps_of turns ≡ stage_ends s.opened.events ++ EndsEvent numbers ∷ [] → Done
  by_ending numbers false q a e = by_end numbers a (e ∙ ap (λ z. z ++ EndsEvent numbers ∷ []) (ends_by s.opened.events false q))
  by_ending numbers true q a e = by_two_ends no_numbers numbers a (e ∙ ap (λ z. z ++ EndsEvent numbers ∷ []) (ends_by s.opened.events true q))

-- a line of a session
agrees_at : (flags : ℕ → ℕ → ℕ) (over : Bool) (context : Context) (s : State) → over ≡ false → Stands flags over context s → Agrees flags (turned context) s
agrees_at flags over context s e stands = turned_agrees flags context s (subst (λ b. Stands flags b context s) e stands)

deed_brings : (flags : ℕ → ℕ → ℕ) (home : Option ℕ) (number : ℕ) (over : Bool) (context : Context) (s : State) (turns : List Turn) (deed : Deed) → Stands flags over context s → MayDo over s deed → AreTurns s turns
    → steps_of turns ≡ steps_for s deed → LoadsAgree flags (turns_calls turns) → Keeps home number s → (marks : Marks) → Fits marks s.nexts
    → Brings flags home (subject_of (line_of deed)) (turned context) marks (turns_entries turns) (state_after s turns).nexts
deed_brings flags home number over context s turns (Connecting admin user host) stands may are steps loads k marks fits =
    by_connect flags home number (line_of (Connecting admin user host)) (turned context) s turns are loads k marks fits admin user host steps
deed_brings flags home number over context s turns (Starting subject) stands may are steps loads k marks fits =
    by_start flags home number (line_of (Starting subject)) (turned context) s turns are loads k marks fits subject refl (agrees_at flags over context s may.0 stands) steps
deed_brings flags home number over context s turns (Staging subject) stands may are steps loads k marks fits =
    by_staging flags home number (line_of (Staging subject)) (turned context) s turns are loads k marks fits subject refl (has_stage s.opened.events) refl (agrees_at flags over context s may.0 stands) steps
deed_brings flags home number over context s turns StageEnding stands may are steps loads k marks fits =
    by_stage_end flags home number (line_of StageEnding) (turned context) s turns are loads k marks fits (has_stage s.opened.events) refl (agrees_at flags over context s may stands) steps
deed_brings flags home number over context s turns (Ending numbers) stands may are steps loads k marks fits =
    by_ending flags home number (line_of (Ending numbers)) (turned context) s turns are loads k marks fits numbers (has_stage s.opened.events) refl (agrees_at flags over context s may stands) steps
deed_brings flags home number over context s turns (Spending time) stands may are steps loads k marks fits =
    by_spend flags home number (line_of (Spending time)) (turned context) s turns are loads k marks fits time steps
deed_brings flags home number over context s turns (Quitting admin) stands may are steps loads k marks fits =
    by_quit flags home number (line_of (Quitting admin)) (turned context) s turns are loads k marks fits admin steps
deed_brings flags home number over context s turns (Truncating admin what) stands may are steps loads k marks fits =
    by_truncate flags home number (line_of (Truncating admin what)) (turned context) s turns are loads k marks fits admin what steps
deed_brings flags home number over context s turns (Changing admin what) stands may are steps loads k marks fits =
    by_change flags home number (line_of (Changing admin what)) (turned context) s turns are loads k marks fits admin what steps
deed_brings flags home number over context s turns (Showing admin count) stands may are steps loads k marks fits =
    by_show flags home number (line_of (Showing admin count)) (turned context) s turns are loads k marks fits admin count steps
deed_brings flags home number over context s turns (Querying found count) stands may are steps loads k marks fits =
    by_query flags home number (line_of (Querying found count)) (turned context) s turns are loads k marks fits found count steps
deed_brings flags home number over context s turns (Refusing error) stands may are steps loads k marks fits =
    by_refuse flags home number (line_of (Refusing error)) (turned context) s turns are loads k marks fits error steps
deed_brings flags home number over context s turns Closing stands may are steps loads k marks fits =
    by_settle flags home number (line_of Closing) (turned context) s turns are loads k marks fits steps

pub part_brings : (flags : ℕ → ℕ → ℕ) (home : Option ℕ) (number : ℕ) (over : Bool) (context : Context) (s : State) (p : Part) → Stands flags over context s → MayDo over s p.deed → IsPart s p
    → LoadsAgree flags (part_calls p) → Keeps home number s → (marks : Marks) → Fits marks s.nexts
    → Brings flags home (subject_of (line_of p.deed)) (turned context) marks (part_entries p) (state_after s p.turns).nexts
part_brings flags home number over context s p stands may is loads k marks fits =
    deed_brings flags home number over context s p.turns p.deed stands may is.are_turns is.steps_are loads k marks fits
