-- No action takes a row twice.
use Rattle.std.proofs.Common.{ℕ, ◌≡◌, ◌≤◌, ◌+◌, ◌==◌, ◌<◌, Bool, true, false, cond, List, [], ◌∷◌, ◌++◌, map, Option, Some, None, ne_eqb, eq-eqb, refl, ap, sym, ◌∙◌, subst, arith}
use Rattle.std.specs.Prelude.{◌&&◌, nat_lt, IfSome}
use Rattle.std.proofs.lemmas.Bool.{false≢true, eqb-true, ltb-true, ltb-false}
use Rattle.std.proofs.lemmas.List.{append_assoc, append-nil, map-append}
use Rattle.pfs_model.proofs.EachLists.{each_join}
use Rattle.pfs_lemmas.proofs.Bools.{and_false}
use Rattle.pfs_admin.proofs.ActionRows.{quit_rows}
use Rattle.pfs_admin.specs.ConnectionAsks.{connect_entry, connect_work, quit_work, work_of_connect, work_of_quit}
use Rattle.pfs_admin.specs.AdministrationStates.{seat_at, seat_in, has_quit, connected, thread_flags}
use Rattle.pfs_admin.specs.AdministrationStates.{State as Administration}
use Rattle.pfs_admin.specs.SetupStatements.{reply_to, work_of_statement}
use Rattle.pfs_admin.specs.Truncations.{work_of_truncation}
use Rattle.pfs_admin.specs.Works.{Sign, Releases, Tags, Made, Flagging, Work, signs_entries, made_entries, sign_entry, flagging_entries}
use Rattle.pfs_admin.specs.declared.changes.Reply.{Reply}
use Rattle.pfs_admin.specs.declared.changes.Reply.TheVariants as replies
use Rattle.pfs_admin.specs.declared.changes.SetupStatement.{SetupStatement}
use Rattle.pfs_admin.specs.declared.changes.SetupStatement.TheVariants.{Update, Insert, Delete, Show}
use Rattle.pfs_containers.specs.ContainerState.{IsInRange}
use Rattle.pfs_containers.specs.declared.containers.Seated.{Seated}
use Rattle.pfs_event.specs.declared.entry.Entry.{Entry}
use Rattle.pfs_event.specs.declared.entry.Entry.TheVariants as says
use Rattle.pfs_levels.specs.Flushes.{Ascends, from_of}
use Rattle.pfs_levels.specs.Moves.{Ask, Gift, Move, IsMove, AreMoves, gift_entries, move_entries, moves_entries}
use Rattle.pfs_levels.specs.declared.answers.Word.{Word}
use Rattle.pfs_model.specs.Chains.{Each, times}
use Rattle.pfs_law_session.proofs.JournalLines.{turns_number}
use Rattle.pfs_law_session.proofs.FewTurns.{OneTurn, TwoTurns, ThreeTurns, one_turn, two_turns, three_turns}
use Rattle.pfs_law_session.specs.Deeds.{Deed, Connecting, Starting, Staging, StageEnding, Ending, Spending, Quitting, Truncating, Changing, Showing, Querying, Refusing, Closing, Part, part_entries, steps_for}
use Rattle.pfs_law_session.specs.JournalLaws.{AreParts}
use Rattle.pfs_law_session.specs.Stints.{Stint}
use Rattle.pfs_session.specs.Inquiries.{Remarks}
use Rattle.pfs_session.specs.SessionStates.{State}
use Rattle.pfs_session.specs.declared.remarks.Remark.TheVariants.{Rows, Refused}
use Rattle.pfs_session.specs.Turns.{Step, Connects, Quits, Truncates, Changes, Inquires, SettlesHeld, Changed, Does, Turn, AreTurns, state_after, steps_of, turns_entries, reply_entries}
use Rattle.pfs_law_session.proofs.ActionPieces.{is_calm, AreCalm}
use Rattle.pfs_law_session.proofs.QuietSteps.{AreIdleSteps, IsIdleDeed, does_calm, turns_calm, deed_idle}
use Rattle.pfs_law_session.proofs.PartActions.{work_entries}
use Rattle.pfs_law_session.specs.Demands.{number_of, work_of}
use Rattle.pfs_law_session.specs.AllActions.{numbers_of, all_numbers}
use Rattle.pfs_law_session.specs.Takes.{Taken, taken_at, taken_in, taken_by, all_taken, is_of, AreApart, AreOnce, AreSeated, IsSeated, IsSeatedStint, ApartLaw}

abbrev row_in : Taken → ℕ
row_in taken = taken.row

taken_then : (action : ℕ) (es fs : List Entry) → taken_in action (es ++ fs) ≡ taken_in action es ++ taken_in action fs
taken_then action [] fs = refl
taken_then action (e ∷ es) fs = ap (λ z. taken_at action e ++ z) (taken_then action es fs) ∙ sym (append_assoc (taken_at action e) (taken_in action es) (taken_in action fs))

-- entries that take nothing
abbrev takes_none : Entry → Bool
takes_none (says.Take _ _) = false
takes_none _ = true

abbrev TakeNone : List Entry → Type 0
TakeNone [] = Unit {0}
TakeNone (e ∷ es) = (takes_none e ≡ true) × TakeNone es

none_then : (es fs : List Entry) → TakeNone es → TakeNone fs → TakeNone (es ++ fs)
none_then [] fs a b = b
none_then (e ∷ es) fs a b = (a.0, none_then es fs a.1 b)

none_at : (action : ℕ) (e : Entry) → takes_none e ≡ true → taken_at action e ≡ []
none_at action (says.Take _ _) q = absurd (false≢true q)
none_at action _ q = refl

none_taken : (action : ℕ) (es : List Entry) → TakeNone es → taken_in action es ≡ []
none_taken action [] a = refl
none_taken action (e ∷ es) a = ap (λ z. z ++ taken_in action es) (none_at action e a.0) ∙ none_taken action es a.1

calm_none : (e : Entry) → is_calm e ≡ true → takes_none e ≡ true
calm_none (says.Take _ _) q = absurd (false≢true q)
calm_none _ q = refl

calms_none : (es : List Entry) → AreCalm es → TakeNone es
calms_none [] a = tt
calms_none (e ∷ es) a = (calm_none e a.0, calms_none es a.1)

gifts_none : (from : ℕ) (gs : List Gift) → TakeNone (gift_entries from gs)
gifts_none from [] = tt
gifts_none from (g ∷ gs) = (refl, gifts_none from gs)

sign_none : (sign : Sign) (version : ℕ) → takes_none (sign_entry sign version) ≡ true
sign_none (Releases row) version = refl
sign_none (Tags row content) version = refl

signs_none : (ms : List Made) → TakeNone (signs_entries ms)
signs_none [] = tt
signs_none (m ∷ ms) = none_then (signs_entries ms) (made_entries m) (signs_none ms) (sign_none m.sign m.version, tt)

sets_none : (words : List Word) (fs : List Flagging) → TakeNone (flagging_entries words fs)
sets_none words [] = tt
sets_none words (f ∷ fs) = (refl, sets_none words fs)

moves_taken : (action : ℕ) (asks : List Ask) (ms : List Move) → AreMoves asks ms → map row_in (taken_in action (moves_entries ms)) ≡ map from_of asks
moves_taken action asks [] are = ap (map from_of) (sym are)
moves_taken action asks (m ∷ ms) are =
    let before : List Ask = are.0 in
    let last : Ask = are.1.0 in
    let is : IsMove last m = are.1.1.1.0 in
    let own : List Taken = record { action = action; row = m.from; version = m.version } ∷ [] in
    ap (map row_in) (taken_then action (moves_entries ms) (move_entries m))
    ∙ (ap (λ z. map row_in (taken_in action (moves_entries ms) ++ (own ++ z))) (none_taken action (gift_entries m.from m.gifts) (gifts_none m.from m.gifts))
    ∙ (map-append row_in (taken_in action (moves_entries ms)) own
    ∙ (ap (λ z. z ++ m.from ∷ []) (moves_taken action before ms are.1.1.1.1)
    ∙ (ap (λ z. map from_of before ++ z ∷ []) is.from_is ∙ (sym (map-append from_of before (last ∷ [])) ∙ ap (map from_of) (sym are.1.1.0))))))

work_taken : (action : ℕ) (work : Work) (moves : List Move) (made : List Made) (words : List Word) → AreMoves work.moves moves
    → map row_in (taken_in action (work_entries moves made words work)) ≡ map from_of work.moves
work_taken action work moves made words are =
    let rest : List Entry = signs_entries made ++ flagging_entries words work.flags in
    ap (map row_in) (taken_then action (moves_entries moves) rest)
    ∙ (ap (λ z. map row_in (taken_in action (moves_entries moves) ++ z)) (none_taken action rest (none_then (signs_entries made) (flagging_entries words work.flags) (signs_none made) (sets_none words work.flags)))
    ∙ (ap (map row_in) (append-nil (taken_in action (moves_entries moves))) ∙ moves_taken action work.moves moves are))

does_at : (s : State) (t : Turn) (step : Step) → t.step ≡ step → Does s t.step t.calls t.entries t.after → Does s step t.calls t.entries t.after
does_at s t step e d = subst (λ z. Does s z t.calls t.entries t.after) e d

head_taken : (action : ℕ) (seat : Option Seated) (n : ℕ) (rest : List Entry) → taken_in action (connect_entry n seat ∷ rest) ≡ taken_in action rest
head_taken action None n rest = refl
head_taken action (Some seat) n rest = refl

-- a line that is no action takes nothing
lines_none : (s : State) (deed : Deed) (turns : List Turn) → AreTurns s turns → steps_of turns ≡ steps_for s deed → number_of deed ≡ 0 → TakeNone (turns_entries turns)
lines_none s deed turns are steps none = by_deed deed steps none where
  calm : (deed : Deed) → steps_of turns ≡ steps_for s deed → IsIdleDeed deed → TakeNone (turns_entries turns)
  calm deed steps idle = calms_none (turns_entries turns) (turns_calm s turns are (subst AreIdleSteps (sym steps) (deed_idle s deed idle)))

  by_deed : (deed : Deed) → steps_of turns ≡ steps_for s deed → number_of deed ≡ 0 → TakeNone (turns_entries turns)
  by_deed (Connecting admin user host) steps e = absurd (omega (arith, e))
  by_deed (Quitting admin) steps e = absurd (omega (arith, e))
  by_deed (Truncating admin what) steps e = absurd (omega (arith, e))
  by_deed (Changing admin what) steps e = absurd (omega (arith, e))
  by_deed (Showing admin count) steps e = absurd (omega (arith, e))
  by_deed (Querying found count) steps e = calm (Querying found count) steps tt
  by_deed (Refusing error) steps e =
      let step : Step = Inquires (Remarks (Refused error)) in
      let one : OneTurn turns step = one_turn turns step steps in
      let t : Turn = one.turn in
      let ours : AreTurns s (t ∷ []) = subst (AreTurns s) one.is are in
      let d = does_at s t step one.step_is ours.0 in
      subst (λ z. TakeNone (turns_entries z)) (sym one.is) (subst TakeNone (sym d.entries_are) (refl, tt))
  by_deed (Starting subject) steps e = calm (Starting subject) steps tt
  by_deed (Staging subject) steps e = calm (Staging subject) steps tt
  by_deed StageEnding steps e = calm StageEnding steps tt
  by_deed (Ending numbers) steps e = calm (Ending numbers) steps tt
  by_deed (Spending time) steps e = calm (Spending time) steps tt
  by_deed Closing steps e = calm Closing steps tt

idle_rows : (action : ℕ) (s : State) (deed : Deed) (turns : List Turn) → AreTurns s turns → steps_of turns ≡ steps_for s deed → number_of deed ≡ 0
    → map row_in (taken_in action (turns_entries turns)) ≡ map from_of (work_of s.number deed).moves
idle_rows action s deed turns are steps none =
    ap (map row_in) (none_taken action (turns_entries turns) (lines_none s deed turns are steps none)) ∙ no_moves deed none where
      no_moves : (deed : Deed) → number_of deed ≡ 0 → [] ≡ map from_of (work_of s.number deed).moves
      no_moves (Connecting admin user host) e = absurd (omega (arith, e))
      no_moves (Quitting admin) e = absurd (omega (arith, e))
      no_moves (Truncating admin what) e = absurd (omega (arith, e))
      no_moves (Changing admin what) e = refl
      no_moves (Showing admin count) e = refl
      no_moves (Querying found count) e = refl
      no_moves (Refusing error) e = refl
      no_moves (Starting subject) e = refl
      no_moves (Staging subject) e = refl
      no_moves StageEnding e = refl
      no_moves (Ending numbers) e = refl
      no_moves (Spending time) e = refl
      no_moves Closing e = refl

-- a statement on the setup tables takes nothing
answers_none : (what : SetupStatement) (reply : Reply) → TakeNone (reply_entries what reply)
answers_none Show reply = tt
answers_none (Update update) (replies.Changed count) = (refl, tt)
answers_none (Update update) (replies.Error error) = (refl, tt)
answers_none (Insert insert) (replies.Changed count) = (refl, tt)
answers_none (Insert insert) (replies.Error error) = (refl, tt)
answers_none (Delete delete) (replies.Changed count) = (refl, tt)
answers_none (Delete delete) (replies.Error error) = (refl, tt)

changed_none : (action : ℕ) (s : State) (admin : Administration) (what : SetupStatement) (u : Turn) → Changed s admin what u.calls u.entries u.after → taken_in action u.entries ≡ []
changed_none action s admin what u d =
    let w = d.works in
    let work : Work = work_of_statement admin what in
    let rest : List Entry = work_entries w.moves w.made admin.words work in
    let answer : List Entry = reply_entries what (reply_to admin what) in
    ap (taken_in action) (d.entries_are ∙ ap (λ z. z ++ answer) w.entries_are)
    ∙ (taken_then action rest answer
    ∙ (ap (λ z. taken_in action rest ++ z) (none_taken action answer (answers_none what (reply_to admin what)))
    ∙ (append-nil (taken_in action rest) ∙ no_rows (taken_in action rest) (work_taken action work w.moves w.made admin.words w.are_moves)))) where
      no_rows : (ts : List Taken) → map row_in ts ≡ [] → ts ≡ []
      no_rows [] e = refl
      no_rows (t ∷ ts) e = absurd (cc)

settled_none : (action : ℕ) (s : State) (t : Turn) → Does s SettlesHeld t.calls t.entries t.after → taken_in action t.entries ≡ []
settled_none action s t d = none_taken action t.entries (calms_none t.entries (does_calm s SettlesHeld t.calls t.entries t.after refl d))

-- the rows that a part takes are those that its action moves
part_rows : (action : ℕ) (s : State) (deed : Deed) (turns : List Turn) → AreTurns s turns → steps_of turns ≡ steps_for s deed
    → map row_in (taken_in action (turns_entries turns)) ≡ map from_of (work_of s.number deed).moves
part_rows action s (Connecting admin user host) turns are steps =
    let step : Step = Connects admin user host in
    let one : OneTurn turns step = one_turn turns step steps in
    let t : Turn = one.turn in
    let ours : AreTurns s (t ∷ []) = subst (AreTurns s) one.is are in
    let d = does_at s t step one.step_is ours.0 in
    let w = d.0 in
    let work : Work = work_of_connect admin s.number user host in
    ap (λ z. map row_in (taken_in action (turns_entries z))) one.is
    ∙ (ap (λ z. map row_in (taken_in action z)) w.entries_are
    ∙ (ap (map row_in) (head_taken action (seat_at admin s.number user host) (admin.actions + 1) (work_entries w.moves w.made admin.words work))
    ∙ work_taken action work w.moves w.made admin.words w.are_moves))
part_rows action s (Quitting admin) turns are steps =
    let two : TwoTurns turns SettlesHeld (Quits admin) = two_turns turns SettlesHeld (Quits admin) steps in
    let t : Turn = two.first in
    let u : Turn = two.second in
    let ours : AreTurns s (u ∷ t ∷ []) = subst (AreTurns s) two.is are in
    let settles = does_at s t SettlesHeld two.first_is ours.1.0 in
    let d = does_at t.after u (Quits admin) two.second_is ours.0 in
    let w = d.0 in
    let same : t.after.number ≡ s.number = ap (λ (z : State). z.number) settles.after_is in
    let work : Work = work_of_quit admin t.after.number in
    ap (λ z. map row_in (taken_in action (turns_entries z))) two.is
    ∙ (ap (map row_in) (taken_then action t.entries u.entries)
    ∙ (ap (λ z. map row_in (z ++ taken_in action u.entries)) (settled_none action s t settles)
    ∙ (ap (λ z. map row_in (taken_in action z)) w.entries_are
    ∙ (work_taken action work w.moves w.made admin.words w.are_moves ∙ ap (λ z. map from_of (work_of_quit admin z).moves) same))))
part_rows action s (Truncating admin what) turns are steps =
    let two : TwoTurns turns SettlesHeld (Truncates admin what) = two_turns turns SettlesHeld (Truncates admin what) steps in
    let t : Turn = two.first in
    let u : Turn = two.second in
    let ours : AreTurns s (u ∷ t ∷ []) = subst (AreTurns s) two.is are in
    let settles = does_at s t SettlesHeld two.first_is ours.1.0 in
    let d = does_at t.after u (Truncates admin what) two.second_is ours.0 in
    let w = d.works in
    let work : Work = work_of_truncation admin what in
    let rest : List Entry = work_entries w.moves w.made admin.words work in
    ap (λ z. map row_in (taken_in action (turns_entries z))) two.is
    ∙ (ap (map row_in) (taken_then action t.entries u.entries)
    ∙ (ap (λ z. map row_in (z ++ taken_in action u.entries)) (settled_none action s t settles)
    ∙ (ap (λ z. map row_in (taken_in action z)) (d.entries_are ∙ ap (λ z. z ++ says.Reply 0 ∷ []) w.entries_are)
    ∙ (ap (map row_in) (taken_then action rest (says.Reply 0 ∷ []))
    ∙ (ap (map row_in) (append-nil (taken_in action rest))
    ∙ work_taken action work w.moves w.made admin.words w.are_moves)))))
part_rows action s (Changing admin what) turns are steps =
    let two : TwoTurns turns SettlesHeld (Changes admin what) = two_turns turns SettlesHeld (Changes admin what) steps in
    let t : Turn = two.first in
    let u : Turn = two.second in
    let ours : AreTurns s (u ∷ t ∷ []) = subst (AreTurns s) two.is are in
    let settles = does_at s t SettlesHeld two.first_is ours.1.0 in
    let d = does_at t.after u (Changes admin what) two.second_is ours.0 in
    ap (λ z. map row_in (taken_in action (turns_entries z))) two.is
    ∙ (ap (map row_in) (taken_then action t.entries u.entries)
    ∙ (ap (λ z. map row_in (z ++ taken_in action u.entries)) (settled_none action s t settles) ∙ ap (map row_in) (changed_none action t.after admin what u d)))
part_rows action s (Showing admin count) turns are steps =
    let last : Step = Inquires (Remarks (Rows count)) in
    let three : ThreeTurns turns SettlesHeld (Changes admin Show) last = three_turns turns SettlesHeld (Changes admin Show) last steps in
    let t : Turn = three.first in
    let u : Turn = three.second in
    let v : Turn = three.third in
    let ours : AreTurns s (v ∷ u ∷ t ∷ []) = subst (AreTurns s) three.is are in
    let settles = does_at s t SettlesHeld three.first_is ours.1.1.0 in
    let d = does_at t.after u (Changes admin Show) three.second_is ours.1.0 in
    let tells = does_at u.after v last three.third_is ours.0 in
    ap (λ z. map row_in (taken_in action (turns_entries z))) three.is
    ∙ (ap (map row_in) (taken_then action (t.entries ++ u.entries) v.entries ∙ ap (λ z. z ++ taken_in action v.entries) (taken_then action t.entries u.entries))
    ∙ (ap (λ z. map row_in ((z ++ taken_in action u.entries) ++ taken_in action v.entries)) (settled_none action s t settles)
    ∙ (ap (λ z. map row_in (z ++ taken_in action v.entries)) (changed_none action t.after admin Show u d)
    ∙ ap (map row_in) (none_taken action v.entries (calms_none v.entries (does_calm u.after last v.calls v.entries v.after refl tells))))))
part_rows action s (Querying found count) turns are steps = idle_rows action s (Querying found count) turns are steps refl
part_rows action s (Refusing error) turns are steps = idle_rows action s (Refusing error) turns are steps refl
part_rows action s (Starting subject) turns are steps = idle_rows action s (Starting subject) turns are steps refl
part_rows action s (Staging subject) turns are steps = idle_rows action s (Staging subject) turns are steps refl
part_rows action s StageEnding turns are steps = idle_rows action s StageEnding turns are steps refl
part_rows action s (Ending numbers) turns are steps = idle_rows action s (Ending numbers) turns are steps refl
part_rows action s (Spending time) turns are steps = idle_rows action s (Spending time) turns are steps refl
part_rows action s Closing turns are steps = idle_rows action s Closing turns are steps refl

-- a list that ascends has no number twice
none_below : (low limit row : ℕ) (rows : List ℕ) → row < low → Ascends low limit rows → times (λ n. n == row) rows ≡ 0
none_below low limit row [] l a = refl
none_below low limit row (x ∷ xs) l a =
    let rest : times (λ n. n == row) xs ≡ 0 = none_below (x + 1) limit row xs (omega (arith, l, a.0)) a.1.1 in
    at (x == row) (ne_eqb x row (λ q. absurd (omega (arith, q, l, a.0)))) rest where
      at : (b : Bool) → b ≡ false → times (λ n. n == row) xs ≡ 0 → (cond b 1 0 + times (λ n. n == row) xs) ≡ 0
      at true e r = absurd (false≢true (sym e))
      at false e r = omega (arith, r)

ascends_once : (low limit : ℕ) (rows : List ℕ) → Ascends low limit rows → AreOnce rows
ascends_once low limit [] a row = omega arith
ascends_once low limit (x ∷ xs) a row = at (x == row) refl (ascends_once (x + 1) limit xs a.1.1 row) where
  at : (b : Bool) → (x == row) ≡ b → times (λ n. n == row) xs ≤ 1 → (cond b 1 0 + times (λ n. n == row) xs) ≤ 1
  at true e rest = omega (arith, none_below (x + 1) limit row xs (omega (arith, eqb-true x row e)) a.1.1)
  at false e rest = omega (arith, rest)

-- no row stands there twice
rows_once : (session : ℕ) (deed : Deed) → IsSeated session deed → AreOnce (map from_of (work_of session deed).moves)
rows_once session (Connecting admin user host) is = by_seat (seat_at admin session user host) where
  by_seat : (seat : Option Seated) → AreOnce (map from_of (connect_work admin.words (thread_flags admin user host) (connected admin session user host).kept.now seat).moves)
  by_seat None = λ row. omega arith
  by_seat (Some seat) = λ row. omega arith
rows_once session (Quitting admin) is = by_seat (seat_in admin session) is.1 where
  by_seat : (seat : Option Seated) → IfSome seat IsInRange → AreOnce (map from_of (quit_work admin.words admin.cells (has_quit admin session).kept.now seat).moves)
  by_seat None h = λ row. omega arith
  by_seat (Some seat) h = ascends_once 129 2177 _ (quit_rows admin.words admin.cells (has_quit admin session).kept.now seat h is.0).0
rows_once session (Truncating admin what) is = is.0
rows_once session (Changing admin what) is = λ row. omega arith
rows_once session (Showing admin count) is = λ row. omega arith
rows_once session (Querying found count) is = λ row. omega arith
rows_once session (Refusing error) is = λ row. omega arith
rows_once session (Starting subject) is = λ row. omega arith
rows_once session (Staging subject) is = λ row. omega arith
rows_once session StageEnding is = λ row. omega arith
rows_once session (Ending numbers) is = λ row. omega arith
rows_once session (Spending time) is = λ row. omega arith
rows_once session Closing is = λ row. omega arith

-- takes of these rows, all of one action
all_own : (action : ℕ) (es : List Entry) → Each (λ taken. taken.action ≡ action) (taken_in action es)
all_own action [] = tt
all_own action (says.Take row version ∷ es) = (refl, all_own action es)
all_own action (_ ∷ es) = all_own action es

-- one row among others: the others are not it
rest_no_row : (row : ℕ) (rows : List ℕ) → (times (λ n. n == row) (row ∷ rows)) ≤ 1 → times (λ n. n == row) rows ≡ 0
rest_no_row row rows few = at (row == row) (eq-eqb row row refl) few where
  at : (b : Bool) → b ≡ true → (cond b 1 0 + times (λ n. n == row) rows) ≤ 1 → times (λ n. n == row) rows ≡ 0
  at true e h = omega (arith, h)
  at false e h = absurd (false≢true e)

others_apart : (taken : Taken) (ts : List Taken) → times (λ n. n == taken.row) (map row_in ts) ≡ 0 → Each (λ other. is_of other.action other.row taken ≡ false) ts
others_apart taken [] none = tt
others_apart taken (t ∷ ts) none = (at (t.row == taken.row) refl none, others_apart taken ts (omega (arith, none))) where
  at : (b : Bool) → (t.row == taken.row) ≡ b → (cond b 1 0 + times (λ n. n == taken.row) (map row_in ts)) ≡ 0 → is_of t.action t.row taken ≡ false
  at true e h = absurd (omega (arith, h))
  at false e h =
      ap (λ b. (taken.action == t.action) && b) (ne_eqb taken.row t.row (λ q. absurd (false≢true (sym e ∙ eq-eqb t.row taken.row (sym q)))))
      ∙ and_false (taken.action == t.action)

once_apart : (ts : List Taken) → AreOnce (map row_in ts) → AreApart ts
once_apart [] few = tt
once_apart (t ∷ ts) few =
    (others_apart t ts (rest_no_row t.row (map row_in ts) (few t.row)), once_apart ts (λ row. less row (few row))) where
      less : (row : ℕ) → (cond (t.row == row) 1 0 + times (λ n. n == row) (map row_in ts)) ≤ 1 → times (λ n. n == row) (map row_in ts) ≤ 1
      less row h = omega (arith, h)

-- takes of two actions
abbrev Away : ℕ → List Taken → Type 0
Away action ts = Each (λ taken. (action == taken.action) ≡ false) ts

away_all : (action : ℕ) (taken : Taken) (ts : List Taken) → taken.action ≡ action → Away action ts → Each (λ other. is_of other.action other.row taken ≡ false) ts
away_all action taken [] e a = tt
away_all action taken (t ∷ ts) e a = (ap (λ z. (z == t.action) && (taken.row == t.row)) e ∙ ap (λ b. b && (taken.row == t.row)) a.0, away_all action taken ts e a.1)

apart_then : (action : ℕ) (xs ys : List Taken) → Each (λ taken. taken.action ≡ action) xs → AreApart xs → AreApart ys → Away action ys → AreApart (xs ++ ys)
apart_then action [] ys own a b w = b
apart_then action (x ∷ xs) ys own a b w = (each_join (λ other. is_of other.action other.row x ≡ false) xs ys a.0 (away_all action x ys own.0 w), apart_then action xs ys own.1 a.1 b w)

-- takes of actions with these numbers
record IsApart (ns : List ℕ) (ts : List Taken) : Type 0 where
  pub apart : AreApart ts
  pub away : (action : ℕ) → times (λ n. n == action) ns ≡ 0 → Away action ts

abbrev IsUnique : List ℕ → Type 0
IsUnique ns = (number : ℕ) → 0 < number → times (λ n. n == number) ns ≤ 1

own_away : (action number : ℕ) (ts : List Taken) → (action == number) ≡ false → Each (λ taken. taken.action ≡ action) ts → Away number ts
own_away action number [] e a = tt
own_away action number (t ∷ ts) e a = (other_way, own_away action number ts e a.1) where
  other_way : (number == t.action) ≡ false
  other_way = ne_eqb number t.action (λ q. absurd (false≢true (sym e ∙ eq-eqb action number (sym (q ∙ a.0)))))

sum_small : (x y : ℕ) → (x + y) ≤ 1 → y ≤ 1
sum_small x y h = omega (arith, h)

tail_unique : (a : ℕ) (ns : List ℕ) → IsUnique (a ∷ ns) → IsUnique ns
tail_unique a ns u = λ number p. sum_small (cond (a == number) 1 0) (times (λ n. n == number) ns) (u number p)

back_unique : (xs ys : List ℕ) → IsUnique (xs ++ ys) → IsUnique ys
back_unique [] ys u = u
back_unique (x ∷ xs) ys u = back_unique xs ys (tail_unique x (xs ++ ys) u)

rest_none : (a : ℕ) (ns : List ℕ) → 0 < a → IsUnique (a ∷ ns) → times (λ n. n == a) ns ≡ 0
rest_none a ns p u = at (a == a) (eq-eqb a a refl) (u a p) where
  at : (b : Bool) → b ≡ true → (cond b 1 0 + times (λ n. n == a) ns) ≤ 1 → times (λ n. n == a) ns ≡ 0
  at true e h = omega (arith, h)
  at false e h = absurd (false≢true e)

record NotThis (a number : ℕ) (ns : List ℕ) : Type 0 where
  pub first : (a == number) ≡ false
  pub rest : times (λ n. n == number) ns ≡ 0

not_this : (a number : ℕ) (ns : List ℕ) → times (λ n. n == number) (a ∷ ns) ≡ 0 → NotThis a number ns
not_this a number ns e = at (a == number) refl e where
  at : (b : Bool) → (a == number) ≡ b → (cond b 1 0 + times (λ n. n == number) ns) ≡ 0 → NotThis a number ns
  at true q e = absurd (omega (arith, e))
  at false q e = record { first = q; rest = omega (arith, e) }

-- one part more in front
part_more : (a : ℕ) (xs : List Taken) (ns : List ℕ) (ts : List Taken) → Each (λ taken. taken.action ≡ a) xs → AreApart xs → (a ≡ 0 → xs ≡ []) → IsUnique (a ∷ ns) → IsApart ns ts
    → IsApart (a ∷ ns) (xs ++ ts)
part_more a xs ns ts own apart none u r = record { apart = at (nat_lt 0 a) refl; away = aways } where
  at : (b : Bool) → nat_lt 0 a ≡ b → AreApart (xs ++ ts)
  at true e = apart_then a xs ts own apart r.apart (r.away a (rest_none a ns (ltb-true 0 a e) u))
  at false e = subst (λ z. AreApart (z ++ ts)) (sym (none (omega (arith, ltb-false 0 a e)))) r.apart

  aways : (number : ℕ) → times (λ n. n == number) (a ∷ ns) ≡ 0 → Away number (xs ++ ts)
  aways number e =
      let q : NotThis a number ns = not_this a number ns e in
      each_join (λ taken. (number == taken.action) ≡ false) xs ts (own_away a number xs q.first own) (r.away number q.rest)

parts_apart : (number : ℕ) (s : State) (parts : List Part) (ns : List ℕ) (ts : List Taken) → s.number ≡ number → AreParts s parts → AreSeated number parts
    → IsUnique (numbers_of parts ++ ns) → IsApart ns ts → IsApart (numbers_of parts ++ ns) (taken_by parts ++ ts)
parts_apart number s [] ns ts same are seated u r = r
parts_apart number s (p ∷ ps) ns ts same are seated u r =
    let a : ℕ = number_of p.deed in
    let own : List Taken = taken_in a (part_entries p) in
    let rows : AreOnce (map row_in own) =
    subst AreOnce (sym (part_rows a s p.deed p.turns are.0.are_turns are.0.steps_are ∙ ap (λ z. map from_of (work_of z p.deed).moves) same)) (rows_once number p.deed seated.0) in
    let none : a ≡ 0 → own ≡ [] = λ e. none_taken a (turns_entries p.turns) (lines_none s p.deed p.turns are.0.are_turns are.0.steps_are e) in
    subst (IsApart (a ∷ (numbers_of ps ++ ns))) (sym (append_assoc own (taken_by ps) ts))
    (part_more a own (numbers_of ps ++ ns) (taken_by ps ++ ts) (all_own a (part_entries p)) (once_apart own rows) none u
    (parts_apart number (state_after s p.turns) ps ns ts (turns_number s p.turns are.0.are_turns ∙ same) are.1 seated.1 (tail_unique a (numbers_of ps ++ ns) u) r))

stints_apart : (stints : List Stint) → Each IsSeatedStint stints → IsUnique (all_numbers stints) → IsApart (all_numbers stints) (all_taken stints)
stints_apart [] are u = record { apart = tt; away = λ action e. tt }
stints_apart (stint ∷ stints) are u =
    parts_apart stint.session are.0.done.from stint.parts (all_numbers stints) (all_taken stints) are.0.done.number_is are.0.done.are_parts are.0.seated u
    (stints_apart stints are.1 (back_unique (numbers_of stint.parts) (all_numbers stints) u))

pub apart : ApartLaw
apart = λ stints are u. (stints_apart stints are u).apart
