-- The law of amounts: of a line, and of lines one after another.
use Rattle.std.proofs.Common.{ℕ, ◌≡◌, ◌<◌, ◌+◌, ◌%◌, ◌^◌, Bool, true, false, List, [], ◌∷◌, ◌++◌, Option, Some, None, map, refl, ap, sym, ◌∙◌, subst}
use Rattle.std.specs.Prelude.{IfSome}
use Rattle.std.proofs.lemmas.Bool.{true≢false}
use Rattle.std.proofs.lemmas.List.{append-nil}
use Rattle.pfs_admin.specs.ConnectionAsks.{connect_entry, placed_of, work_of_connect, work_of_quit}
use Rattle.pfs_admin.specs.SetupStatements.{has_changed, reply_to, work_of_statement}
use Rattle.pfs_admin.specs.Truncations.{work_of_truncation, has_truncated}
use Rattle.pfs_admin.specs.declared.changes.Reply.{Reply}
use Rattle.pfs_admin.specs.declared.changes.SetupStatement.{SetupStatement}
use Rattle.pfs_admin.specs.declared.changes.SetupStatement.TheVariants.{Update, Insert, Delete, Show}
use Rattle.pfs_rows.specs.declared.truncations.Truncation.{Truncation}
use Rattle.pfs_admin.specs.AdministrationStates.{seat_at, connected, has_quit}
use Rattle.pfs_admin.specs.AdministrationStates.{State as Administration}
use Rattle.pfs_admin.specs.Works.{Work, signs_entries, flagging_entries}
use Rattle.pfs_event.specs.declared.entry.Entry.{Entry}
use Rattle.pfs_event.specs.declared.entry.Entry.TheVariants as says
use Rattle.pfs_levels.specs.Calls.{Call}
use Rattle.pfs_levels.specs.Moves.{moves_entries}
use Rattle.pfs_model.specs.Contents.{Facts, amount_by}
use Rattle.pfs_model.specs.Contexts.{Context, Waiting, held_for, subject_of, noted, turned, after_entries}
use Rattle.pfs_model.specs.Contexts.{after as context_after}
use Rattle.pfs_model.specs.EntryPlaces.{Placed, placed_part}
use Rattle.pfs_model.specs.declared.lines.Line.{Line}
use Rattle.pfs_model.specs.declared.lines.Line.TheVariants as lines
use Rattle.pfs_model.specs.declared.lines.Opened.{Opened}
use Rattle.pfs_model.specs.declared.lines.Subject.{Subject}
use Rattle.pfs_session.specs.Ends.{Ends, no_numbers}
use Rattle.pfs_session.specs.Inquiries.{Inquiry, Remarks, inquiry_entry}
use Rattle.pfs_session.specs.Settlements.{owed_in, owed_by_state}
use Rattle.pfs_session.specs.SessionStates.{State, no_place, nothing_held}
use Rattle.pfs_session.specs.Turns.{Step, StartsEvent, EndsEvent, Spends, SettlesHeld, Connects, Quits, Truncates, Changes, Inquires, Does, Turn, AreTurns, Works, Inquired, state_after, steps_of, turns_calls, turns_entries, stage_ends, acted, reply_entries}
use Rattle.pfs_session.specs.declared.events.Numbers.{Numbers}
use Rattle.pfs_session.specs.declared.remarks.Remark.TheVariants.{Rows, Refused}
use Rattle.pfs_stat.specs.Stat.{MergeIsMonoid}
use Rattle.pfs_stat.specs.declared.Stat.{Stat}
use Rattle.pfs_law_session.proofs.ActionShapes.{AreAll, work_quiet, is_quiet, all_then, reply_last}
use Rattle.pfs_law_session.proofs.StepAmounts.{AddedBy, Accounts, brings_as, brings_then, turned_sums, start_brings, end_brings, quiet_added, quiet_context, quiet_then, connect_quiet, connect_added, quiet_once, connect_once}
use Rattle.pfs_law_session.proofs.EndEntries.{EndIs, end_is}
use Rattle.pfs_law_session.proofs.Inquiries.{Told, told, inquired_at, all_quiet, asked_by, asked_steps}
use Rattle.pfs_law_session.proofs.FewTurns.{OneTurn, TwoTurns, ThreeTurns, no_turns, one_turn, two_turns, three_turns}
use Rattle.pfs_law_session.proofs.JournalLines.{written, turns_number}
use Rattle.pfs_law_session.proofs.EventAmounts.{once_then, once_lines}
use Rattle.pfs_law_session.proofs.OwedAmounts.{Ascend, ascending, wait_same}
use Rattle.pfs_law_session.proofs.SettlementAmounts.{settle_brings, acted_sums, is_seated}
use Rattle.pfs_law_session.proofs.LineEntries.{turned_agrees, does_at, ends_by, has_stage}
use Rattle.pfs_law_session.proofs.PutWords.{PutBy, quiet_put, connect_put, none_worded}
use Rattle.pfs_law_session.specs.Agreement.{Agrees, Stands, LoadsAgree}
use Rattle.pfs_law_session.specs.Amounts.{Clocked, stepped, all_stepped, StepFacts, AreFacts, AllFacts, AllPlaced, IsPlaced, ContentsAgree, AllContentsAgree, AreAdded, ArePut, AreWorded, Sums, going_of, sum_of, owed_to, IsAccounted, AmountsLaw, SumsLaw}
use Rattle.pfs_law_session.specs.Deeds.{IsSubject, Deed, Connecting, Starting, Staging, StageEnding, Ending, Spending, Quitting, Truncating, Changing, Showing, Querying, Refusing, Closing, Part, MayDo, is_over, line_of, steps_for}
use Rattle.pfs_law_session.specs.JournalLaws.{AreParts, MayDoAll, AllLoadsAgree}

ascend_state : (slot : Option ℕ) (s : State) → IfSome slot (λ n. n < 32) → Ascend (owed_in slot s.held)
ascend_state None s low = tt
ascend_state (Some n) s low = ascending n 0 s.held low

replies_quiet : (what : SetupStatement) (reply : Reply) → AreAll true is_quiet (reply_entries what reply)
replies_quiet Show reply = tt
replies_quiet (Update update) reply = ((reply_last reply).quiet, tt)
replies_quiet (Insert insert) reply = ((reply_last reply).quiet, tt)
replies_quiet (Delete delete) reply = ((reply_last reply).quiet, tt)

-- inquiries take no time
asked_clock : (k : Clocked) (asked : List Inquiry) → all_stepped k (map Inquires asked) ≡ k
asked_clock k [] = refl
asked_clock k (i ∷ is) = asked_clock k is

module _ (m : MergeIsMonoid) (flags : ℕ → ℕ → ℕ) (slots : ℕ → Option ℕ) (facts : ℕ → ℕ → Facts) (session : ℕ) (content : ℕ → ℕ → List ℕ) where
  abbrev Rests : Clocked → Context → State → Type 0
  Rests k context s = Sums flags slots facts session k context s

  abbrev Brings : Option Subject → Context → List Entry → Clocked → State → Type 0
  Brings subject context entries k after = Accounts flags slots facts session content subject context entries k after

  -- the turns of a line bring what they say
  abbrev OfLine : Option Subject → Clocked → Context → State → List Turn → Type 0
  OfLine subject k context s turns = AreTurns s turns → AreFacts (facts session) k (steps_of turns) → ContentsAgree content (turns_calls turns) → LoadsAgree flags (turns_calls turns)
      → Brings subject (turned context) (turns_entries turns) (all_stepped k (steps_of turns)) (state_after s turns)

  -- so does a step, behind these entries
  abbrev OfStep : Option Subject → Clocked → Context → State → Step → List Call → List Entry → State → Type 0
  OfStep subject k context s step calls entries after = Does s step calls entries after → StepFacts (facts session) k step → ContentsAgree content calls → LoadsAgree flags calls
      → Brings subject context entries (stepped k step) after

  front_loads : (xs ys : List Call) → LoadsAgree flags (xs ++ ys) → LoadsAgree flags xs
  front_loads [] ys l = tt
  front_loads (x ∷ xs) ys l = (l.0, front_loads xs ys l.1)

  back_loads : (xs ys : List Call) → LoadsAgree flags (xs ++ ys) → LoadsAgree flags ys
  back_loads [] ys l = l
  back_loads (x ∷ xs) ys l = back_loads xs ys l.1

  front : (xs ys : List Call) → ContentsAgree content (xs ++ ys) → ContentsAgree content xs
  front [] ys c = tt
  front (x ∷ xs) ys c = (c.0, front xs ys c.1)

  back : (xs ys : List Call) → ContentsAgree content (xs ++ ys) → ContentsAgree content ys
  back [] ys c = c
  back (x ∷ xs) ys c = back xs ys c.1

  one_line : (subject : Option Subject) (k : Clocked) (context : Context) (s : State) (turns : List Turn) (step : Step) → steps_of turns ≡ step ∷ []
      → ((calls : List Call) (entries : List Entry) (after : State) → OfStep subject k (turned context) s step calls entries after) → OfLine subject k context s turns
  one_line subject k context s turns step steps go =
      let o : OneTurn turns step = one_turn turns step steps in
      let t : Turn = o.turn in
      subst (OfLine subject k context s) (sym o.is) (λ are f c l.
      subst (λ z. Brings subject (turned context) t.entries (stepped k z) t.after) (sym o.step_is)
      (go t.calls t.entries t.after (does_at s t step o.step_is are.0) (subst (StepFacts (facts session) k) o.step_is f.0) (front t.calls [] c) (front_loads t.calls [] l)))

  two_line : (subject : Option Subject) (k : Clocked) (context : Context) (s : State) (turns : List Turn) (a b : Step) → steps_of turns ≡ a ∷ b ∷ []
      → ((calls : List Call) (entries : List Entry) (after : State) → OfStep subject k (turned context) s a calls entries after)
      → ((calls : List Call) (entries : List Entry) (mid : State) → Does s a calls entries mid → Rests (stepped k a) (after_entries subject (turned context) entries) mid
      → (more : List Call) (next : List Entry) (after : State) → OfStep subject (stepped k a) (after_entries subject (turned context) entries) mid b more next after)
      → OfLine subject k context s turns
  two_line subject k context s turns a b steps go on =
      let o : TwoTurns turns a b = two_turns turns a b steps in
      let t : Turn = o.first in
      let u : Turn = o.second in
      subst (OfLine subject k context s) (sym o.is) (λ are f c l.
      let does : Does s a t.calls t.entries t.after = does_at s t a o.first_is are.1.0 in
      let one : Brings subject (turned context) t.entries (stepped k a) t.after =
      go t.calls t.entries t.after does (subst (StepFacts (facts session) k) o.first_is f.0) (front t.calls [] (back u.calls (t.calls ++ []) c)) (front_loads t.calls [] (back_loads u.calls (t.calls ++ []) l)) in
      let f2 : StepFacts (facts session) (stepped k a) b =
      subst (StepFacts (facts session) (stepped k a)) o.second_is (subst (λ z. StepFacts (facts session) (stepped k z) u.step) o.first_is f.1.0) in
      let two : Brings subject (after_entries subject (turned context) t.entries) u.entries (stepped (stepped k a) b) u.after =
      on t.calls t.entries t.after does one.sums u.calls u.entries u.after (does_at t.after u b o.second_is are.0) f2 (front u.calls (t.calls ++ []) c) (front_loads u.calls (t.calls ++ []) l) in
      let same : stepped (stepped k a) b ≡ stepped (stepped k t.step) u.step =
      ap (λ z. stepped (stepped k z) b) (sym o.first_is) ∙ ap (stepped (stepped k t.step)) (sym o.second_is) in
      subst (λ z. Brings subject (turned context) (t.entries ++ u.entries) z u.after) same
      (brings_then m flags slots facts session content subject (turned context) t.entries u.entries (stepped k a) (stepped (stepped k a) b) t.after u.after one two))

  no_line : (subject : Option Subject) (k : Clocked) (context : Context) (s : State) (turns : List Turn) → Rests k context s → turns ≡ [] → OfLine subject k context s turns
  no_line subject k context s turns a none =
      subst (OfLine subject k context s) (sym none) (λ are f c l. record { added = tt; put = tt; once = λ h. refl; sums = turned_sums m flags slots facts session content k context s a })

  of_start : (subject : Subject) (k : Clocked) (context : Context) (s : State) → Agrees flags context s → IsSubject subject → Rests k context s → (calls : List Call) (entries : List Entry) (after : State)
      → OfStep (Some subject) k context s (StartsEvent subject) calls entries after
  of_start subject k context s agrees is a calls entries after d f c l = start_brings m flags slots facts session content k context s after subject calls entries agrees a is d l f c

  of_end : (subject : Option Subject) (numbers : Numbers) (k : Clocked) (context : Context) (s : State) → Agrees flags context s → Rests k context s
      → (calls : List Call) (entries : List Entry) (after : State) → OfStep subject k context s (EndsEvent numbers) calls entries after
  of_end subject numbers k context s agrees a calls entries after d f c l = end_brings m flags slots facts session content subject k context s after numbers calls entries agrees a d f c

  of_settle : (subject : Option Subject) (k : Clocked) (context : Context) (s : State) → Rests k (turned context) s → Ascend (owed_by_state s)
      → (calls : List Call) (entries : List Entry) (after : State) → OfStep subject k (turned context) s SettlesHeld calls entries after
  of_settle subject k context s a up calls entries after d f c l = settle_brings m flags slots facts session content subject k (turned context) s after calls entries a refl up d c

  of_spend : (subject : Option Subject) (time : ℕ) (k : Clocked) (context : Context) (s : State) → Rests k context s
      → (calls : List Call) (entries : List Entry) (after : State) → OfStep subject k context s (Spends time) calls entries after
  of_spend subject time k context s a calls entries after d f c l =
      brings_as m flags slots facts session content subject context entries [] _ after _ d.1 d.2 (record {
        added = tt;
        put = tt;
        once = λ h. refl;
        sums = record {
          clock = ap (λ z. (z + time) % 2 ^ 64) a.clock;
          begun = a.begun;
          going = a.going;
          starts = a.starts;
          held = a.held;
          seat = a.seat;
          own = a.own;
          worded = a.worded;
        };
      })

  of_connect : (admin : Administration) (user host : ℕ) (k : Clocked) (context : Context) (s : State) → Rests k context s → s.held ≡ nothing_held → s.opened.events ≡ []
      → (placed_of (seat_at admin s.number user host)).thread ≡ slots session → (calls : List Call) (entries : List Entry) (after : State)
      → OfStep None k context s (Connects admin user host) calls entries after
  of_connect admin user host k context s a free closed placed calls entries after d f c l =
      let w = d.0 in
      let seat = seat_at admin s.number user host in
      let work = work_of_connect admin s.number user host in
      let head : Entry = connect_entry (admin.actions + 1) seat in
      let rest : List Entry = moves_entries w.moves ++ (signs_entries w.made ++ flagging_entries admin.words work.flags) in
      let quiet = work_quiet w.moves w.made admin.words work.flags in
      let mid : Context = noted None context head in
      let next : State = record (acted s (connected admin s.number user host)) { place = placed_of seat } in
      let q = quiet_then context mid (after_entries None mid rest) (connect_quiet context (admin.actions + 1) seat) (quiet_context mid rest quiet) in
      brings_as m flags slots facts session content None context entries (head ∷ rest) _ after next w.entries_are d.1 (record {
        put = (connect_put flags (facts session) content session context (admin.actions + 1) seat, quiet_put flags (facts session) content session mid rest quiet);
        added = (connect_added (amount_by flags slots facts session) content context (admin.actions + 1) seat, quiet_added (amount_by flags slots facts session) content mid rest quiet);
        once = once_then flags None context (head ∷ []) rest (connect_once flags context (admin.actions + 1) seat) (quiet_once flags mid rest quiet);
        sums = acted_sums m flags slots facts session content k context (after_entries None mid rest) s next a free q refl refl refl (is_seated (slots session) (placed_of seat).thread placed) refl
            (none_worded flags (placed_of seat).thread session context.opened s.opened.events closed);
      })

  of_quit : (admin : Administration) (k : Clocked) (context : Context) (s : State) → Rests k context s → s.held ≡ nothing_held → s.opened.events ≡ []
      → (calls : List Call) (entries : List Entry) (after : State) → OfStep None k context s (Quits admin) calls entries after
  of_quit admin k context s a free closed calls entries after d f c l =
      let w = d.0 in
      let work = work_of_quit admin s.number in
      let head : Entry = says.Act (admin.actions + 1) in
      let rest : List Entry = moves_entries w.moves ++ (signs_entries w.made ++ flagging_entries admin.words work.flags) in
      let quiet = work_quiet w.moves w.made admin.words work.flags in
      let next : State = record (acted s (has_quit admin s.number)) { place = no_place } in
      let q = quiet_context context (head ∷ rest) (refl, quiet) in
      brings_as m flags slots facts session content None context entries (head ∷ rest) _ after next w.entries_are d.1 (record {
        put = quiet_put flags (facts session) content session context (head ∷ rest) (refl, quiet);
        added = quiet_added (amount_by flags slots facts session) content context (head ∷ rest) (refl, quiet);
        once = quiet_once flags context (head ∷ rest) (refl, quiet);
        sums = acted_sums m flags slots facts session content k context (after_entries None context (head ∷ rest)) s next a free q refl refl refl tt refl
            (none_worded flags None session context.opened s.opened.events closed);
      })

  -- an action of which all entries are quiet
  of_action : (admin after_it : Administration) (work : Work) (answers : List Entry) (k : Clocked) (context : Context) (s : State) → Rests k context s → s.held ≡ nothing_held
      → AreAll true is_quiet answers → (calls : List Call) (changes entries : List Entry) (after : State) → Works work admin.words (says.Act (admin.actions + 1) ∷ []) calls changes
      → entries ≡ changes ++ answers → after ≡ acted s after_it → Brings None context entries k after
  of_action admin after_it work answers k context s a free said calls changes entries after w entries_are after_is =
      let head : Entry = says.Act (admin.actions + 1) in
      let rest : List Entry = moves_entries w.moves ++ (signs_entries w.made ++ flagging_entries admin.words work.flags) in
      let whole : List Entry = (head ∷ rest) ++ answers in
      let quiet = all_then true is_quiet (head ∷ rest) answers (refl, work_quiet w.moves w.made admin.words work.flags) said in
      let next : State = acted s after_it in
      let q = quiet_context context whole quiet in
      brings_as m flags slots facts session content None context entries whole _ after next (entries_are ∙ ap (λ z. z ++ answers) w.entries_are) after_is (record {
        put = quiet_put flags (facts session) content session context whole quiet;
        added = quiet_added (amount_by flags slots facts session) content context whole quiet;
        once = quiet_once flags context whole quiet;
        sums = acted_sums m flags slots facts session content k context (after_entries None context whole) s next a free q refl refl refl a.seat refl a.worded;
      })

  of_truncation : (admin : Administration) (what : Truncation) (k : Clocked) (context : Context) (s : State) → Rests k context s → s.held ≡ nothing_held
      → (calls : List Call) (entries : List Entry) (after : State) → OfStep None k context s (Truncates admin what) calls entries after
  of_truncation admin what k context s a free calls entries after d f c l =
      of_action admin (has_truncated admin what) (work_of_truncation admin what) (says.Reply 0 ∷ []) k context s a free (refl, tt) calls d.changes entries after d.works d.entries_are d.after_is

  of_change : (admin : Administration) (what : SetupStatement) (k : Clocked) (context : Context) (s : State) → Rests k context s → s.held ≡ nothing_held
      → (calls : List Call) (entries : List Entry) (after : State) → OfStep None k context s (Changes admin what) calls entries after
  of_change admin what k context s a free calls entries after d f c l =
      of_action admin (has_changed admin what) (work_of_statement admin what) (reply_entries what (reply_to admin what)) k context s a free (replies_quiet what (reply_to admin what))
      calls d.changes entries after d.works d.entries_are d.after_is

  -- entries of which all are quiet, behind which the session stands as it stood
  of_quiet : (k : Clocked) (context : Context) (s after : State) (entries es : List Entry) → Rests k context s → AreAll true is_quiet es → entries ≡ es → after ≡ s
      → Brings None context entries k after
  of_quiet k context s after entries es a quiet entries_are after_is =
      let behind : Context = after_entries None context es in
      let q = quiet_context context es quiet in
      brings_as m flags slots facts session content None context entries es k after s entries_are after_is (record {
        put = quiet_put flags (facts session) content session context es quiet;
        added = quiet_added (amount_by flags slots facts session) content context es quiet;
        once = quiet_once flags context es quiet;
        sums = record {
          clock = a.clock;
          begun = a.begun ∙ sym q.begun;
          going = a.going ∙ ap (λ z. going_of z s.opened.events) (sym q.opened);
          starts = a.starts;
          held = λ row. a.held row ∙ ap (λ z. sum_of (map (amount_by flags slots facts session) (held_for row z))) (sym q.waiting);
          seat = a.seat;
          own = a.own;
          worded = subst (λ z. AreWorded flags s.place.thread session z s.opened.events) (sym q.opened) a.worded;
        };
      })

  -- a line of inquiries
  asked_line : (k : Clocked) (context : Context) (s : State) (turns : List Turn) (asked : List Inquiry) → Rests k context s → steps_of turns ≡ map Inquires asked → OfLine None k context s turns
  asked_line k context s turns asked a steps are f c l =
      let t : Told s asked turns = told s asked turns are steps in
      subst (λ z. Brings None (turned context) (turns_entries turns) z (state_after s turns)) (sym (ap (all_stepped k) steps ∙ asked_clock k asked))
      (of_quiet k (turned context) s (state_after s turns) (turns_entries turns) (map inquiry_entry asked) (turned_sums m flags slots facts session content k context s a) (all_quiet asked)
      t.entries_are t.after_is)

  -- a line of two steps and an inquiry behind them
  remark_line : (k : Clocked) (context : Context) (s : State) (turns : List Turn) (a b : Step) (what : Inquiry) → steps_of turns ≡ a ∷ b ∷ Inquires what ∷ []
      → ((turns : List Turn) → steps_of turns ≡ a ∷ b ∷ [] → OfLine None k context s turns) → OfLine None k context s turns
  remark_line k context s turns a b what steps go =
      let o : ThreeTurns turns a b (Inquires what) = three_turns turns a b (Inquires what) steps in
      let front : List Turn = o.second ∷ o.first ∷ [] in
      let last : Turn = o.third in
      subst (OfLine None k context s) (sym o.is) (λ are f c l.
      let one : Brings None (turned context) (turns_entries front) (all_stepped k (steps_of front)) o.second.after =
      go front (ap (λ z. z ∷ o.second.step ∷ []) o.first_is ∙ ap (λ z. a ∷ z ∷ []) o.second_is) are.1 (f.0, (f.1.0, tt)) (back last.calls (turns_calls front) c) (back_loads last.calls (turns_calls front) l) in
      let then : Clocked = all_stepped k (steps_of front) in
      let d : Inquired o.second.after what last.calls last.entries last.after = inquired_at o.second.after last.step what last o.third_is are.0 in
      let two : Brings None (after_entries None (turned context) (turns_entries front)) last.entries then last.after =
      of_quiet then (after_entries None (turned context) (turns_entries front)) o.second.after last.after last.entries (inquiry_entry what ∷ []) one.sums (all_quiet (what ∷ [])) d.entries_are d.after_is in
      subst (λ z. Brings None (turned context) (turns_entries front ++ last.entries) z last.after) (ap (stepped then) (sym o.third_is))
      (brings_then m flags slots facts session content None (turned context) (turns_entries front) last.entries then then o.second.after last.after one two))

  -- the session behind an end agrees with what the end wrote
  mid_agrees : (line : Line) (context : Context) (s mid : State) (numbers : Numbers) (calls : List Call) (entries : List Entry) → Agrees flags context s
      → Ends s numbers calls entries mid → Agrees flags (after_entries (subject_of line) context entries) mid
  mid_agrees line context s mid numbers calls entries a d =
      let e : EndIs flags s.stack line context entries mid = end_is flags line context s mid numbers calls entries a d in
      subst (λ z. Agrees flags z mid) (sym e.piece.behind_is) e.agrees

  -- a line that settles and does a statement on the setup tables
  changed_line : (k : Clocked) (context : Context) (s : State) (admin : Administration) (what : SetupStatement) (turns : List Turn) → Agrees flags context s → Rests k context s
      → steps_of turns ≡ SettlesHeld ∷ Changes admin what ∷ [] → OfLine None k context s turns
  changed_line k context s admin what turns a r steps =
      two_line None k context s turns SettlesHeld (Changes admin what) steps
      (of_settle None k context s (turned_sums m flags slots facts session content k context s r) (ascend_state s.place.thread s a.low))
      (λ calls entries mid d now. of_change admin what k (after_entries None (turned context) entries) mid now (ap (λ (z : State). z.held) d.after_is))

  by_deed : (over : Bool) (k : Clocked) (context : Context) (s : State) (deed : Deed) (turns : List Turn) → Stands flags over context s → Rests k context s → MayDo over s deed
      → IsPlaced (slots session) s.number deed → steps_of turns ≡ steps_for s deed → OfLine (subject_of (line_of deed)) k context s turns
  by_deed false k context s (Connecting admin user host) turns a r may placed steps =
      one_line None k context s turns (Connects admin user host) steps (of_connect admin user host k (turned context) s (turned_sums m flags slots facts session content k context s r) may.2 may.1 placed)
  by_deed false k context s (Starting subject) turns a r may placed steps =
      one_line (Some subject) k context s turns (StartsEvent subject) steps (of_start subject k (turned context) s (turned_agrees flags context s a) may.1 (turned_sums m flags slots facts session content k context s r))
  by_deed false k context s (Staging subject) turns a r may placed steps = by_stage (has_stage s.opened.events) refl where
    by_stage : (b : Bool) → has_stage s.opened.events ≡ b → OfLine (Some subject) k context s turns
    by_stage false e =
        one_line (Some subject) k context s turns (StartsEvent subject) (steps ∙ ap (λ z. z ++ StartsEvent subject ∷ []) (ends_by s.opened.events false e))
        (of_start subject k (turned context) s (turned_agrees flags context s a) may.1 (turned_sums m flags slots facts session content k context s r))
    by_stage true e =
        two_line (Some subject) k context s turns (EndsEvent no_numbers) (StartsEvent subject) (steps ∙ ap (λ z. z ++ StartsEvent subject ∷ []) (ends_by s.opened.events true e))
        (of_end (Some subject) no_numbers k (turned context) s (turned_agrees flags context s a) (turned_sums m flags slots facts session content k context s r))
        (λ calls entries mid d now. of_start subject (stepped k (EndsEvent no_numbers)) (after_entries (Some subject) (turned context) entries) mid
        (mid_agrees (lines.Stage subject) (turned context) s mid no_numbers calls entries (turned_agrees flags context s a) d) may.1 now)
  by_deed false k context s StageEnding turns a r may placed steps = by_stage (has_stage s.opened.events) refl where
    by_stage : (b : Bool) → has_stage s.opened.events ≡ b → OfLine None k context s turns
    by_stage false e = no_line None k context s turns r (no_turns turns (steps ∙ (append-nil (stage_ends s.opened.events) ∙ ends_by s.opened.events false e)))
    by_stage true e =
        one_line None k context s turns (EndsEvent no_numbers) (steps ∙ (append-nil (stage_ends s.opened.events) ∙ ends_by s.opened.events true e))
        (of_end None no_numbers k (turned context) s (turned_agrees flags context s a) (turned_sums m flags slots facts session content k context s r))
  by_deed false k context s (Ending numbers) turns a r may placed steps = by_stage (has_stage s.opened.events) refl where
    by_stage : (b : Bool) → has_stage s.opened.events ≡ b → OfLine None k context s turns
    by_stage false e =
        one_line None k context s turns (EndsEvent numbers) (steps ∙ ap (λ z. z ++ EndsEvent numbers ∷ []) (ends_by s.opened.events false e))
        (of_end None numbers k (turned context) s (turned_agrees flags context s a) (turned_sums m flags slots facts session content k context s r))
    by_stage true e =
        two_line None k context s turns (EndsEvent no_numbers) (EndsEvent numbers) (steps ∙ ap (λ z. z ++ EndsEvent numbers ∷ []) (ends_by s.opened.events true e))
        (of_end None no_numbers k (turned context) s (turned_agrees flags context s a) (turned_sums m flags slots facts session content k context s r))
        (λ calls entries mid d now. of_end None numbers (stepped k (EndsEvent no_numbers)) (after_entries None (turned context) entries) mid
        (mid_agrees lines.End (turned context) s mid no_numbers calls entries (turned_agrees flags context s a) d) now)
  by_deed false k context s (Spending time) turns a r may placed steps =
      one_line None k context s turns (Spends time) steps (of_spend None time k (turned context) s (turned_sums m flags slots facts session content k context s r))
  by_deed false k context s (Quitting admin) turns a r may placed steps =
      two_line None k context s turns SettlesHeld (Quits admin) steps
      (of_settle None k context s (turned_sums m flags slots facts session content k context s r) (ascend_state s.place.thread s a.low))
      (λ calls entries mid d now. of_quit admin k (after_entries None (turned context) entries) mid now (ap (λ (z : State). z.held) d.after_is)
      (ap (λ (z : State). z.opened.events) d.after_is ∙ may.1))
  by_deed false k context s (Truncating admin what) turns a r may placed steps =
      two_line None k context s turns SettlesHeld (Truncates admin what) steps
      (of_settle None k context s (turned_sums m flags slots facts session content k context s r) (ascend_state s.place.thread s a.low))
      (λ calls entries mid d now. of_truncation admin what k (after_entries None (turned context) entries) mid now (ap (λ (z : State). z.held) d.after_is))
  by_deed false k context s (Changing admin what) turns a r may placed steps = changed_line k context s admin what turns a r steps
  by_deed false k context s (Showing admin count) turns a r may placed steps =
      remark_line k context s turns SettlesHeld (Changes admin Show) (Remarks (Rows count)) steps (λ front are. changed_line k context s admin Show front a r are)
  by_deed false k context s (Querying readings count) turns a r may placed steps = asked_line k context s turns (asked_by readings count) r (steps ∙ asked_steps readings count)
  by_deed false k context s (Refusing error) turns a r may placed steps = asked_line k context s turns (Remarks (Refused error) ∷ []) r steps
  by_deed false k context s Closing turns a r may placed steps =
      one_line None k context s turns SettlesHeld steps
      (of_settle None k context s (turned_sums m flags slots facts session content k context s r) (ascend_state s.place.thread s a.low))
  by_deed true k context s (Connecting admin user host) turns a r may placed steps = absurd (true≢false may.0)
  by_deed true k context s (Starting subject) turns a r may placed steps = absurd (true≢false may.0)
  by_deed true k context s (Staging subject) turns a r may placed steps = absurd (true≢false may.0)
  by_deed true k context s StageEnding turns a r may placed steps = absurd (true≢false may)
  by_deed true k context s (Ending numbers) turns a r may placed steps = absurd (true≢false may)
  by_deed true k context s (Spending time) turns a r may placed steps = absurd (true≢false may)
  by_deed true k context s (Quitting admin) turns a r may placed steps = absurd (true≢false may.0)
  by_deed true k context s (Truncating admin what) turns a r may placed steps = absurd (true≢false may)
  by_deed true k context s (Changing admin what) turns a r may placed steps = absurd (true≢false may.0)
  by_deed true k context s (Showing admin count) turns a r may placed steps = absurd (true≢false may)
  by_deed true k context s (Querying readings count) turns a r may placed steps = absurd (true≢false may.0)
  by_deed true k context s (Refusing error) turns a r may placed steps = absurd (true≢false may)
  by_deed true k context s Closing turns a r may placed steps =
      one_line None k context s turns SettlesHeld steps
      (of_settle None k context s (turned_sums m flags slots facts session content k context s r) (subst (λ z. Ascend (owed_in z s.held)) (sym a.nowhere) tt))

pub put_more : (flags : ℕ → ℕ → ℕ) (facts : ℕ → Facts) (content : ℕ → ℕ → List ℕ) (session : ℕ) (xs ys : List Placed) → ArePut flags facts content session xs → ArePut flags facts content session ys
    → ArePut flags facts content session (xs ++ ys)
put_more flags facts content session [] ys a b = b
put_more flags facts content session (x ∷ xs) ys a b = (a.0, put_more flags facts content session xs ys a.1 b)

put_places : (flags : ℕ → ℕ → ℕ) (facts : ℕ → Facts) (content : ℕ → ℕ → List ℕ) (phase session : ℕ) (line : Line) (context : Context) (entries : List Entry)
    → PutBy flags facts content session (subject_of line) context entries → ArePut flags facts content session (placed_part phase session line context entries)
put_places flags facts content phase session line context [] a = tt
put_places flags facts content phase session line context (e ∷ es) a = (a.0, put_places flags facts content phase session line (noted (subject_of line) context e) es a.1)

pub added_more : (amounts : Opened → Stat) (content : ℕ → ℕ → List ℕ) (xs ys : List Placed) → AreAdded amounts content xs → AreAdded amounts content ys → AreAdded amounts content (xs ++ ys)
added_more amounts content [] ys a b = b
added_more amounts content (x ∷ xs) ys a b = (a.0, added_more amounts content xs ys a.1 b)

at_places : (amounts : Opened → Stat) (content : ℕ → ℕ → List ℕ) (phase session : ℕ) (line : Line) (context : Context) (entries : List Entry)
    → AddedBy amounts content (subject_of line) context entries → AreAdded amounts content (placed_part phase session line context entries)
at_places amounts content phase session line context [] a = tt
at_places amounts content phase session line context (e ∷ es) a = (a.0, at_places amounts content phase session line (noted (subject_of line) context e) es a.1)

pub accounted : MergeIsMonoid → AmountsLaw
accounted m = λ flags slots facts session content over k context s parts stands sums may are loads placed given contents.
    all flags slots facts session content over k context s parts stands sums may are loads placed given contents where
      all : (flags : ℕ → ℕ → ℕ) (slots : ℕ → Option ℕ) (facts : ℕ → ℕ → Facts) (session : ℕ) (content : ℕ → ℕ → List ℕ) (over : Bool) (k : Clocked) (context : Context) (s : State)
          (parts : List Part) → Stands flags over context s → Sums flags slots facts session k context s → MayDoAll over s parts → AreParts s parts → AllLoadsAgree flags parts
          → AllPlaced (slots session) s.number parts → AllFacts (facts session) k parts → AllContentsAgree content parts → IsAccounted flags slots facts session content k context s parts
      all flags slots facts session content over k context s [] stands sums may are loads placed given contents = record { added = λ phase. tt; put = λ phase. tt; once = λ phase h. refl; sums = sums }
      all flags slots facts session content over k context s (p ∷ ps) stands sums may are loads placed given contents =
          let w = written flags over context s p stands may.0 are.0 loads.0 in
          let line : Line = line_of p.deed in
          let next : Context = context_after context line (turns_entries p.turns) in
          let then : Clocked = all_stepped k (steps_of p.turns) in
          let b : Accounts flags slots facts session content (subject_of line) (turned context) (turns_entries p.turns) then (state_after s p.turns) =
          by_deed m flags slots facts session content over k context s p.deed p.turns stands sums may.0 placed.0 are.0.steps_are are.0.are_turns given.0 contents.0 loads.0 in
          let r : IsAccounted flags slots facts session content then next (state_after s p.turns) ps =
          all flags slots facts session content (is_over over p.deed) then next (state_after s p.turns) ps w.stands b.sums may.1 are.1 loads.1
          (subst (λ z. AllPlaced (slots session) z ps) (sym (turns_number s p.turns are.0.are_turns)) placed.1) given.1 contents.1 in
          record {
            added = λ phase. added_more _ content _ _ (at_places (amount_by flags slots facts session) content phase session line (turned context) (turns_entries p.turns) b.added) (r.added phase);
            put = λ phase. put_more flags (facts session) content session _ _ (put_places flags (facts session) content phase session line (turned context) (turns_entries p.turns) b.put) (r.put phase);
            once = λ phase. once_lines flags phase session line (turned context) (turns_entries p.turns) _ _ b.once (r.once phase);
            sums = r.sums;
          }

no_wait : (waiting : List Waiting) → ((row : ℕ) → held_for row waiting ≡ []) → waiting ≡ []
no_wait [] none = refl
no_wait (one ∷ others) none =
    let some : one.event ∷ held_for one.row others ≡ [] = sym (wait_same one.row one.event others) ∙ none one.row in
    absurd (cc)

no_sum : (amounts : Opened → Stat) (events : List Opened) → sum_of (map amounts events) ≡ None → events ≡ []
no_sum amounts [] e = refl
no_sum amounts (x ∷ xs) e = absurd (cc)

pub sums : SumsLaw
sums = record {
  fresh = λ flags slots facts session stack depth. record { clock = refl; begun = refl; going = refl; starts = tt; held = λ row. refl; seat = tt; own = refl; worded = tt };
  nothing = λ flags slots facts session clocked context s a none. no_wait context.waiting
      (λ row. no_sum (amount_by flags slots facts session) (held_for row context.waiting) (sym (a.held row) ∙ ap (owed_to row) none));
}
