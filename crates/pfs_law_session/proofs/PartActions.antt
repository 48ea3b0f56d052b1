-- What a part of a session's journal says was done is what its line asks for.
use Rattle.std.proofs.Common.{ℕ, ◌≡◌, ◌+◌, ◌==◌, ◌<◌, Bool, true, false, cond, List, [], ◌∷◌, ◌++◌, Option, Some, None, ne_eqb, refl, ap, sym, ◌∙◌, subst, arith}
use Rattle.std.proofs.lemmas.Bool.{eqb-true}
use Rattle.std.proofs.lemmas.List.{append_assoc, append-nil}
use Rattle.pfs_model.proofs.EachLists.{each_join}
use Rattle.pfs_admin.specs.ConnectionAsks.{connect_entry, placed_of, work_of_connect, work_of_quit}
use Rattle.pfs_admin.specs.AdministrationStates.{seat_at}
use Rattle.pfs_admin.specs.AdministrationStates.{State as Administration}
use Rattle.pfs_admin.specs.Truncations.{work_of_truncation}
use Rattle.pfs_admin.specs.WordChanges.{flags_changed}
use Rattle.pfs_admin.specs.SetupStatements.{has_changed, reply_to, work_of_statement}
use Rattle.pfs_admin.specs.declared.changes.Reply.{Reply}
use Rattle.pfs_admin.specs.declared.changes.Reply.TheVariants as replies
use Rattle.pfs_admin.specs.declared.changes.SetupStatement.{SetupStatement}
use Rattle.pfs_admin.specs.declared.changes.SetupStatement.TheVariants.{Update, Insert, Delete, Show}
use Rattle.pfs_rows.specs.declared.truncations.Truncation.{Truncation}
use Rattle.pfs_admin.specs.Works.{Work, no_work, Made, signs_of, signs_calls, signs_entries, flagging_calls, flagging_entries}
use Rattle.pfs_containers.specs.declared.containers.Seated.{Seated}
use Rattle.pfs_event.specs.declared.entry.Entry.{Entry}
use Rattle.pfs_event.specs.declared.entry.Entry.TheVariants as says
use Rattle.pfs_levels.specs.Moves.{Move, AreMoves, moves_calls, moves_entries}
use Rattle.pfs_levels.specs.declared.answers.Word.{Word}
use Rattle.pfs_model.specs.ActionAsks.{Did, did, of_action, asked_of, moved_by, signed_by}
use Rattle.pfs_model.specs.Chains.{Each, each_of}
use Rattle.pfs_model.specs.Contents.{Given}
use Rattle.pfs_model.specs.Contexts.{Context, noted, after_entries, subject_of, turned}
use Rattle.pfs_model.specs.EntryPlaces.{Placed, placed_part}
use Rattle.pfs_model.specs.declared.lines.Line.{Line}
use Rattle.pfs_model.specs.declared.lines.Line.TheVariants as lines
use Rattle.pfs_model.specs.declared.lines.Subject.{Subject}
use Rattle.pfs_law_session.proofs.FewTurns.{OneTurn, TwoTurns, ThreeTurns, one_turn, two_turns, three_turns}
use Rattle.pfs_law_session.specs.Amounts.{ContentsAgree}
use Rattle.pfs_law_session.specs.Deeds.{Deed, Connecting, Starting, Staging, StageEnding, Ending, Spending, Quitting, Truncating, Changing, Showing, Querying, Refusing, Closing, Part, IsPart, line_of, part_calls, part_entries, steps_for}
use Rattle.pfs_session.specs.Inquiries.{Remarks}
use Rattle.pfs_session.specs.SessionStates.{State}
use Rattle.pfs_session.specs.declared.remarks.Remark.TheVariants.{Rows, Refused}
use Rattle.pfs_session.specs.Turns.{Step, Connects, Quits, Truncates, Changes, Inquires, SettlesHeld, Changed, Does, Turn, AreTurns, steps_of, turns_calls, turns_entries, reply_entry, reply_entries}
use Rattle.pfs_law_session.proofs.ActionPieces.{placed_then, AreActed, acted_then, all_keep, acted_at, Fact, IsBit, bit_then, still_bit, AreCalm, calm_bit, calm_idle, all_of, each_placed, all_found, all_made, all_answered}
use Rattle.pfs_law_session.proofs.QuietSteps.{AreIdleSteps, IsIdleDeed, does_calm, turns_calm, deed_idle}
use Rattle.pfs_law_session.proofs.DoneWork.{dids, dids_then, signs_done, sets_done}
use Rattle.pfs_law_session.proofs.WorkContents.{contents_front, contents_back, counted_front, counted_back, moves_acted, signs_acted, sets_acted, MovesAre, moves_are, signs_facts, sets_facts}
use Rattle.pfs_law_session.specs.Demands.{Orders, AreOrders, AreWords, AreCounted, answer_by, moves_asked, signs_asked, asked_by, number_of, rooms_of, work_of}
use Rattle.pfs_law_session.specs.DoneActions.{DoneLaw, AreIdle}

-- what an action of this number owes under each number
abbrev pub owes : Orders → ℕ → ℕ → List Did
owes orders action number = cond (action == number) (asked_of (orders.counted number) (orders.asked number)) []

abbrev pub work_entries : List Move → List Made → List Word → Work → List Entry
work_entries moves made words work = moves_entries moves ++ (signs_entries made ++ flagging_entries words work.flags)

work_bit : (orders : Orders) (given : Given) (content : ℕ → ℕ → List ℕ) (phase session : ℕ) (line : Line) (action : ℕ) (work : Work) (words : List Word) (moves : List Move) (made : List Made)
    (context : Context) → context.action ≡ action → AreMoves work.moves moves → signs_of made ≡ work.signs
    → ContentsAgree content (flagging_calls words work.flags ++ (signs_calls made ++ moves_calls moves)) → AreCounted content orders.counted action (work_entries moves made words work)
    → AreWords (given.info_words action) work.signs → orders.asked action ≡ asked_by work
    → IsBit orders given content (owes orders action) (placed_part phase session line context (work_entries moves made words work))
work_bit orders given content phase session line action work words moves made context at are signs calls counts infos asks =
    let counted : ℕ → Bool = orders.counted action in
    let M : List Entry = moves_entries moves in
    let S : List Entry = signs_entries made in
    let F : List Entry = flagging_entries words work.flags in
    let rest : List Entry = M ++ (S ++ F) in
    let behind : Context = after_entries (subject_of line) context M in
    let last : Context = after_entries (subject_of line) behind S in
    let acted : AreActed rest = acted_then M (S ++ F) (moves_acted moves) (acted_then S F (signs_acted made) (sets_acted words work.flags)) in
    let later : ContentsAgree content (signs_calls made ++ moves_calls moves) = contents_back content (flagging_calls words work.flags) (signs_calls made ++ moves_calls moves) calls in
    let m : MovesAre orders given content action work.moves moves phase session line context =
    moves_are orders given content phase session line action work.moves moves context at are (contents_back content (signs_calls made) (moves_calls moves) later) (counted_front content orders.counted action M (S ++ F) counts) in
    let ps : List Placed = placed_part phase session line context rest in
    let told : dids rest ≡ asked_of counted (asked_by work) =
    dids_then M (S ++ F)
    ∙ (ap (λ z. z ++ dids (S ++ F)) m.done
    ∙ ap (λ z. moved_by counted (moves_asked work.moves) ++ z)
    (dids_then S F
    ∙ (ap (λ z. z ++ dids F) (signs_done made ∙ ap (λ z. signed_by (signs_asked z)) signs) ∙ ap (λ z. signed_by (signs_asked work.signs) ++ z) (sets_done words work.flags)))) in
    record {
      done = λ number. ap (each_of did) (all_of number action ps (acted_at phase session line context action rest acted at))
          ∙ by_test number ps (action == number) refl (each_placed phase session line context rest ∙ (told ∙ ap (asked_of counted) (sym asks)));
      facts = subst (Each (Fact orders given content)) (sym (placed_then phase session line context M (S ++ F)))
          (each_join (Fact orders given content) _ _ m.facts (subst (Each (Fact orders given content)) (sym (placed_then phase session line behind S F))
          (each_join (Fact orders given content) _ _
          (signs_facts orders given content phase session line action made behind (all_keep (subject_of line) context M (moves_acted moves) ∙ at) (subst (AreWords (given.info_words action)) (sym signs) infos)
          (contents_front content (signs_calls made) (moves_calls moves) later))
          (sets_facts orders given content phase session line words work.flags last))));
    } where
      by_test : (number : ℕ) (ps : List Placed) (b : Bool) → (action == number) ≡ b → each_of did ps ≡ asked_of (orders.counted action) (orders.asked action)
          → each_of did (cond b ps []) ≡ cond b (asked_of (orders.counted number) (orders.asked number)) []
      by_test number ps true e d = d ∙ ap (λ n. asked_of (orders.counted n) (orders.asked n)) (eqb-true action number e)
      by_test number ps false e d = refl

-- the entry of a connect
connect_did : (action : ℕ) (seat : Option Seated) → did (connect_entry action seat) ≡ []
connect_did action None = refl
connect_did action (Some seat) = refl

connect_at : (subject : Option Subject) (context : Context) (action : ℕ) (seat : Option Seated) → (noted subject context (connect_entry action seat)).action ≡ action
connect_at subject context action None = refl
connect_at subject context action (Some seat) = refl

connect_fact : (orders : Orders) (given : Given) (content : ℕ → ℕ → List ℕ) (phase session : ℕ) (line : Line) (context : Context) (action : ℕ) (seat : Option Seated)
    → orders.rooms action ≡ rooms_of (placed_of seat)
    → Fact orders given content (record { phase = phase; session = session; line = line; context = context; entry = connect_entry action seat })
connect_fact orders given content phase session line context action None e = record { found = tt; made = tt; answered = e }
connect_fact orders given content phase session line context action (Some seat) e = record { found = tt; made = tt; answered = e }

does_at : (s : State) (t : Turn) (step : Step) → t.step ≡ step → Does s t.step t.calls t.entries t.after → Does s step t.calls t.entries t.after
does_at s t step e d = subst (λ z. Does s z t.calls t.entries t.after) e d

-- what a line of a session owes, and that it is done
pub record IsPaid (orders : Orders) (given : Given) (content : ℕ → ℕ → List ℕ) (deed : Deed) (places : List Placed) : Type 0 where
  pub done : (number : ℕ) → 0 < number → each_of did (of_action number places) ≡ owes orders (number_of deed) number
  pub idle : number_of deed ≡ 0 → AreIdle places
  pub facts : Each (Fact orders given content) places

connect_paid : (orders : Orders) (given : Given) (content : ℕ → ℕ → List ℕ) (phase session : ℕ) (context : Context) (s : State) (admin : Administration) (user host : ℕ) (turns : List Turn)
    → AreTurns s turns → steps_of turns ≡ Connects admin user host ∷ [] → ContentsAgree content (turns_calls turns)
    → AreOrders orders given content s.number (record { deed = Connecting admin user host; turns = turns })
    → IsPaid orders given content (Connecting admin user host) (placed_part phase session lines.Connect (turned context) (turns_entries turns))
connect_paid orders given content phase session context s admin user host turns are steps calls o =
    let step : Step = Connects admin user host in
    let action : ℕ = admin.actions + 1 in
    let one : OneTurn turns step = one_turn turns step steps in
    let t : Turn = one.turn in
    let now : Context = turned context in
    let ours : AreTurns s (t ∷ []) = subst (AreTurns s) one.is are in
    let d = does_at s t step one.step_is ours.0 in
    let w = d.0 in
    let seat = seat_at admin s.number user host in
    let work : Work = work_of_connect admin s.number user host in
    let head : Entry = connect_entry action seat in
    let rest : List Entry = work_entries w.moves w.made admin.words work in
    let own : ContentsAgree content t.calls = contents_front content t.calls [] (subst (λ z. ContentsAgree content (turns_calls z)) one.is calls) in
    let made = subst (ContentsAgree content) w.calls_are own in
    let counts : AreCounted content orders.counted action (head ∷ rest) =
    subst (AreCounted content orders.counted action) w.entries_are (subst (λ z. AreCounted content orders.counted action (turns_entries z)) one.is o.counted) in
    let place : Placed = record { phase = phase; session = session; line = lines.Connect; context = now; entry = head } in
    let first : IsBit orders given content (λ n. []) (place ∷ []) =
    still_bit orders given content (place ∷ []) (connect_did action seat, tt) (connect_fact orders given content phase session lines.Connect now action seat o.rooms, tt) in
    let then = work_bit orders given content phase session lines.Connect action work admin.words w.moves w.made (noted None now head) (connect_at None now action seat) w.are_moves w.signs_are
    made counts.1 o.words o.asked in
    let both = bit_then orders given content (λ n. []) (owes orders action) (place ∷ []) _ first then in
    let P : List Entry → Type 0 = λ z. IsPaid orders given content (Connecting admin user host) (placed_part phase session lines.Connect now z) in
    let paid : P (head ∷ rest) = record { done = λ n p. both.done n; idle = λ e. absurd (omega (arith, e)); facts = both.facts } in
    subst (λ z. P (turns_entries z)) (sym one.is) (subst P (sym w.entries_are) paid)

quit_paid : (orders : Orders) (given : Given) (content : ℕ → ℕ → List ℕ) (phase session : ℕ) (context : Context) (s : State) (admin : Administration) (turns : List Turn)
    → AreTurns s turns → steps_of turns ≡ SettlesHeld ∷ Quits admin ∷ [] → ContentsAgree content (turns_calls turns)
    → AreOrders orders given content s.number (record { deed = Quitting admin; turns = turns })
    → IsPaid orders given content (Quitting admin) (placed_part phase session lines.Quit (turned context) (turns_entries turns))
quit_paid orders given content phase session context s admin turns are steps calls o =
    let action : ℕ = admin.actions + 1 in
    let two : TwoTurns turns SettlesHeld (Quits admin) = two_turns turns SettlesHeld (Quits admin) steps in
    let t : Turn = two.first in
    let u : Turn = two.second in
    let now : Context = turned context in
    let ours : AreTurns s (u ∷ t ∷ []) = subst (AreTurns s) two.is are in
    let settles = does_at s t SettlesHeld two.first_is ours.1.0 in
    let d = does_at t.after u (Quits admin) two.second_is ours.0 in
    let w = d.0 in
    let same : t.after.number ≡ s.number = ap (λ (z : State). z.number) settles.after_is in
    let work : Work = work_of_quit admin t.after.number in
    let words = subst (λ z. AreWords (given.info_words action) (work_of_quit admin z).signs) (sym same) o.words in
    let asks : orders.asked action ≡ asked_by work = o.asked ∙ ap (λ z. asked_by (work_of_quit admin z)) (sym same) in
    let head : Entry = says.Act action in
    let rest : List Entry = work_entries w.moves w.made admin.words work in
    let own : ContentsAgree content u.calls = contents_front content u.calls (t.calls ++ []) (subst (λ z. ContentsAgree content (turns_calls z)) two.is calls) in
    let made = subst (ContentsAgree content) w.calls_are own in
    let all : AreCounted content orders.counted action (t.entries ++ u.entries) = subst (λ z. AreCounted content orders.counted action (turns_entries z)) two.is o.counted in
    let counts : AreCounted content orders.counted action (head ∷ rest) =
    subst (AreCounted content orders.counted action) w.entries_are (counted_back content orders.counted action t.entries u.entries all) in
    let mid : Context = after_entries None now t.entries in
    let place : Placed = record { phase = phase; session = session; line = lines.Quit; context = mid; entry = head } in
    let settled = calm_bit orders given content phase session lines.Quit now t.entries (does_calm s SettlesHeld t.calls t.entries t.after refl settles) in
    let first : IsBit orders given content (λ n. []) (place ∷ []) = still_bit orders given content (place ∷ []) (refl, tt) (record { found = tt; made = tt; answered = tt }, tt) in
    let then = work_bit orders given content phase session lines.Quit action work admin.words w.moves w.made (noted None mid head) refl w.are_moves w.signs_are made counts.1 words asks in
    let both = bit_then orders given content (λ n. []) (owes orders action) (place ∷ []) _ first then in
    let whole = bit_then orders given content (λ n. []) (owes orders action) _ _ settled both in
    let P : List Entry → Type 0 = λ z. IsPaid orders given content (Quitting admin) (placed_part phase session lines.Quit now z) in
    let Q : List Placed → Type 0 = λ z. IsPaid orders given content (Quitting admin) z in
    let parts : List Placed = placed_part phase session lines.Quit now t.entries ++ (place ∷ placed_part phase session lines.Quit (noted None mid head) rest) in
    let paid : Q parts = record { done = λ n p. whole.done n; idle = λ e. absurd (omega (arith, e)); facts = whole.facts } in
    let joined : P (t.entries ++ (head ∷ rest)) = subst Q (sym (placed_then phase session lines.Quit now t.entries (head ∷ rest))) paid in
    subst (λ z. P (turns_entries z)) (sym two.is) (subst (λ z. P (t.entries ++ z)) (sym w.entries_are) joined)

-- a piece behind which nothing more is done
no_more : (orders : Orders) (given : Given) (content : ℕ → ℕ → List ℕ) (due : ℕ → List Did) (xs ys : List Placed) → IsBit orders given content due xs → IsBit orders given content (λ n. []) ys
    → IsBit orders given content due (xs ++ ys)
no_more orders given content due xs ys a b =
    let both = bit_then orders given content due (λ n. []) xs ys a b in
    record { done = λ n. both.done n ∙ append-nil (due n); facts = both.facts }

-- an action behind its head: its work, and behind that entries that say nothing was done
act_bit : (orders : Orders) (given : Given) (content : ℕ → ℕ → List ℕ) (phase session : ℕ) (line : Line) (action : ℕ) (work : Work) (words : List Word) (moves : List Move) (made : List Made)
    (tail : List Entry) (context : Context) → AreMoves work.moves moves → signs_of made ≡ work.signs
    → ContentsAgree content (flagging_calls words work.flags ++ (signs_calls made ++ moves_calls moves))
    → AreCounted content orders.counted action (says.Act action ∷ (work_entries moves made words work ++ tail))
    → AreWords (given.info_words action) work.signs → orders.asked action ≡ asked_by work
    → ((behind : Context) → behind.action ≡ action → IsBit orders given content (λ n. []) (placed_part phase session line behind tail))
    → IsBit orders given content (owes orders action) (placed_part phase session line context (says.Act action ∷ (work_entries moves made words work ++ tail)))
act_bit orders given content phase session line action work words moves made tail context are signs calls counts infos asks answers =
    let head : Entry = says.Act action in
    let rest : List Entry = work_entries moves made words work in
    let begun : Context = noted (subject_of line) context head in
    let behind : Context = after_entries (subject_of line) begun rest in
    let acted : AreActed rest = acted_then (moves_entries moves) (signs_entries made ++ flagging_entries words work.flags) (moves_acted moves)
    (acted_then (signs_entries made) (flagging_entries words work.flags) (signs_acted made) (sets_acted words work.flags)) in
    let place : Placed = record { phase = phase; session = session; line = line; context = context; entry = head } in
    let first : IsBit orders given content (λ n. []) (place ∷ []) = still_bit orders given content (place ∷ []) (refl, tt) (record { found = tt; made = tt; answered = tt }, tt) in
    let then = work_bit orders given content phase session line action work words moves made begun refl are signs calls (counted_front content orders.counted action rest tail counts.1) infos asks in
    let xs : List Placed = placed_part phase session line begun rest in
    let ys : List Placed = placed_part phase session line behind tail in
    let done = no_more orders given content (owes orders action) xs ys then (answers behind (all_keep (subject_of line) begun rest acted)) in
    let whole = bit_then orders given content (λ n. []) (owes orders action) (place ∷ []) (xs ++ ys) first done in
    subst (λ z. IsBit orders given content (owes orders action) (place ∷ z)) (sym (placed_then phase session line begun rest tail)) whole

-- an action behind a settlement
settled_paid : (orders : Orders) (given : Given) (content : ℕ → ℕ → List ℕ) (phase session : ℕ) (context : Context) (deed : Deed) (settling rest : List Entry) → 0 < number_of deed → AreCalm settling
    → ((behind : Context) → IsBit orders given content (owes orders (number_of deed)) (placed_part phase session (line_of deed) behind rest))
    → IsPaid orders given content deed (placed_part phase session (line_of deed) (turned context) (settling ++ rest))
settled_paid orders given content phase session context deed settling rest some calm bits =
    let line : Line = line_of deed in
    let now : Context = turned context in
    let mid : Context = after_entries (subject_of line) now settling in
    let whole = bit_then orders given content (λ n. []) (owes orders (number_of deed)) (placed_part phase session line now settling) (placed_part phase session line mid rest)
    (calm_bit orders given content phase session line now settling calm) (bits mid) in
    subst (IsPaid orders given content deed) (sym (placed_then phase session line now settling rest))
    (record { done = λ n p. whole.done n; idle = λ e. absurd (omega (arith, e, some)); facts = whole.facts })

-- an answer at the end of a change
reply_bit : (orders : Orders) (given : Given) (content : ℕ → ℕ → List ℕ) (phase session : ℕ) (context : Context) (reply : Reply) → orders.answers context.action ≡ answer_by reply
    → IsBit orders given content (λ n. []) (placed_part phase session lines.Change context (reply_entry reply ∷ []))
reply_bit orders given content phase session context (replies.Changed count) e =
    still_bit orders given content _ (refl, tt) (record { found = tt; made = tt; answered = e }, tt)
reply_bit orders given content phase session context (replies.Error error) e =
    still_bit orders given content _ (refl, tt) (record { found = tt; made = tt; answered = e }, tt)

replies_bit : (orders : Orders) (given : Given) (content : ℕ → ℕ → List ℕ) (phase session : ℕ) (context : Context) (what : SetupStatement) (reply : Reply)
    → orders.answers context.action ≡ answer_by reply → IsBit orders given content (λ n. []) (placed_part phase session lines.Change context (reply_entries what reply))
replies_bit orders given content phase session context (Update update) reply e = reply_bit orders given content phase session context reply e
replies_bit orders given content phase session context (Insert insert) reply e = reply_bit orders given content phase session context reply e
replies_bit orders given content phase session context (Delete delete) reply e = reply_bit orders given content phase session context reply e
replies_bit orders given content phase session context Show reply e = still_bit orders given content [] tt tt

truncation_paid : (orders : Orders) (given : Given) (content : ℕ → ℕ → List ℕ) (phase session : ℕ) (context : Context) (s : State) (admin : Administration) (what : Truncation) (turns : List Turn)
    → AreTurns s turns → steps_of turns ≡ SettlesHeld ∷ Truncates admin what ∷ [] → ContentsAgree content (turns_calls turns)
    → AreOrders orders given content s.number (record { deed = Truncating admin what; turns = turns })
    → IsPaid orders given content (Truncating admin what) (placed_part phase session lines.Change (turned context) (turns_entries turns))
truncation_paid orders given content phase session context s admin what turns are steps calls o =
    let deed : Deed = Truncating admin what in
    let action : ℕ = admin.actions + 1 in
    let two : TwoTurns turns SettlesHeld (Truncates admin what) = two_turns turns SettlesHeld (Truncates admin what) steps in
    let t : Turn = two.first in
    let u : Turn = two.second in
    let ours : AreTurns s (u ∷ t ∷ []) = subst (AreTurns s) two.is are in
    let settles = does_at s t SettlesHeld two.first_is ours.1.0 in
    let d = does_at t.after u (Truncates admin what) two.second_is ours.0 in
    let w = d.works in
    let work : Work = work_of_truncation admin what in
    let tail : List Entry = says.Reply 0 ∷ [] in
    let is : u.entries ≡ says.Act action ∷ (work_entries w.moves w.made admin.words work ++ tail) = d.entries_are ∙ ap (λ z. z ++ tail) w.entries_are in
    let own : ContentsAgree content u.calls = contents_front content u.calls (t.calls ++ []) (subst (λ z. ContentsAgree content (turns_calls z)) two.is calls) in
    let all : AreCounted content orders.counted action (t.entries ++ u.entries) = subst (λ z. AreCounted content orders.counted action (turns_entries z)) two.is o.counted in
    let counts = subst (AreCounted content orders.counted action) is (counted_back content orders.counted action t.entries u.entries all) in
    let answer : (behind : Context) → behind.action ≡ action → IsBit orders given content (λ n. []) (placed_part phase session lines.Change behind tail) =
    λ behind at. reply_bit orders given content phase session behind (replies.Changed 0) (ap orders.answers at ∙ o.answers) in
    let bits : (behind : Context) → IsBit orders given content (owes orders action) (placed_part phase session lines.Change behind u.entries) =
    λ behind. subst (λ z. IsBit orders given content (owes orders action) (placed_part phase session lines.Change behind z)) (sym is)
    (act_bit orders given content phase session lines.Change action work admin.words w.moves w.made tail behind w.are_moves w.signs_are (subst (ContentsAgree content) w.calls_are own) counts o.words
    o.asked answer) in
    subst (λ z. IsPaid orders given content deed (placed_part phase session lines.Change (turned context) (turns_entries z))) (sym two.is)
    (settled_paid orders given content phase session context deed t.entries u.entries (omega arith) (does_calm s SettlesHeld t.calls t.entries t.after refl settles) bits)

-- what a statement on the setup tables did, at a line
changed_bit : (orders : Orders) (given : Given) (content : ℕ → ℕ → List ℕ) (phase session : ℕ) (line : Line) (s : State) (admin : Administration) (what : SetupStatement) (u : Turn)
    → Changed s admin what u.calls u.entries u.after → ContentsAgree content u.calls → AreCounted content orders.counted (admin.actions + 1) u.entries
    → orders.asked (admin.actions + 1) ≡ asked_by (work_of_statement admin what)
    → ((behind : Context) → behind.action ≡ admin.actions + 1
    → IsBit orders given content (λ n. []) (placed_part phase session line behind (reply_entries what (reply_to admin what))))
    → (context : Context) → IsBit orders given content (owes orders (admin.actions + 1)) (placed_part phase session line context u.entries)
changed_bit orders given content phase session line s admin what u d calls counts asks answer context =
    let action : ℕ = admin.actions + 1 in
    let w = d.works in
    let work : Work = work_of_statement admin what in
    let tail : List Entry = reply_entries what (reply_to admin what) in
    let is : u.entries ≡ says.Act action ∷ (work_entries w.moves w.made admin.words work ++ tail) = d.entries_are ∙ ap (λ z. z ++ tail) w.entries_are in
    subst (λ z. IsBit orders given content (owes orders action) (placed_part phase session line context z)) (sym is)
    (act_bit orders given content phase session line action work admin.words w.moves w.made tail context w.are_moves w.signs_are (subst (ContentsAgree content) w.calls_are calls)
    (subst (AreCounted content orders.counted action) is counts) tt asks answer)

change_paid : (orders : Orders) (given : Given) (content : ℕ → ℕ → List ℕ) (phase session : ℕ) (context : Context) (s : State) (admin : Administration) (what : SetupStatement) (turns : List Turn)
    → AreTurns s turns → steps_of turns ≡ SettlesHeld ∷ Changes admin what ∷ [] → ContentsAgree content (turns_calls turns)
    → AreOrders orders given content s.number (record { deed = Changing admin what; turns = turns })
    → IsPaid orders given content (Changing admin what) (placed_part phase session lines.Change (turned context) (turns_entries turns))
change_paid orders given content phase session context s admin what turns are steps calls o =
    let deed : Deed = Changing admin what in
    let action : ℕ = admin.actions + 1 in
    let two : TwoTurns turns SettlesHeld (Changes admin what) = two_turns turns SettlesHeld (Changes admin what) steps in
    let t : Turn = two.first in
    let u : Turn = two.second in
    let ours : AreTurns s (u ∷ t ∷ []) = subst (AreTurns s) two.is are in
    let settles = does_at s t SettlesHeld two.first_is ours.1.0 in
    let d = does_at t.after u (Changes admin what) two.second_is ours.0 in
    let own : ContentsAgree content u.calls = contents_front content u.calls (t.calls ++ []) (subst (λ z. ContentsAgree content (turns_calls z)) two.is calls) in
    let all : AreCounted content orders.counted action (t.entries ++ u.entries) = subst (λ z. AreCounted content orders.counted action (turns_entries z)) two.is o.counted in
    let counts = counted_back content orders.counted action t.entries u.entries all in
    let answer : (behind : Context) → behind.action ≡ action → IsBit orders given content (λ n. []) (placed_part phase session lines.Change behind (reply_entries what (reply_to admin what))) =
    λ behind at. replies_bit orders given content phase session behind what (reply_to admin what) (ap orders.answers at ∙ o.answers) in
    subst (λ z. IsPaid orders given content deed (placed_part phase session lines.Change (turned context) (turns_entries z))) (sym two.is)
    (settled_paid orders given content phase session context deed t.entries u.entries (omega arith) (does_calm s SettlesHeld t.calls t.entries t.after refl settles)
    (changed_bit orders given content phase session lines.Change t.after admin what u d own counts o.asked answer))

-- a SELECT that is an action changes nothing
pub shows_nothing : (admin : Administration) → work_of_statement admin Show ≡ no_work
unfolding flags_changed
shows_nothing admin = refl

show_paid : (orders : Orders) (given : Given) (content : ℕ → ℕ → List ℕ) (phase session : ℕ) (context : Context) (s : State) (admin : Administration) (count : ℕ) (turns : List Turn)
    → AreTurns s turns → steps_of turns ≡ SettlesHeld ∷ Changes admin Show ∷ Inquires (Remarks (Rows count)) ∷ [] → ContentsAgree content (turns_calls turns)
    → AreOrders orders given content s.number (record { deed = Showing admin count; turns = turns })
    → IsPaid orders given content (Showing admin count) (placed_part phase session lines.Show (turned context) (turns_entries turns))
show_paid orders given content phase session context s admin count turns are steps calls o =
    let deed : Deed = Showing admin count in
    let action : ℕ = admin.actions + 1 in
    let three : ThreeTurns turns SettlesHeld (Changes admin Show) (Inquires (Remarks (Rows count))) = three_turns turns SettlesHeld (Changes admin Show) (Inquires (Remarks (Rows count))) steps in
    let t : Turn = three.first in
    let u : Turn = three.second in
    let v : Turn = three.third in
    let ours : AreTurns s (v ∷ u ∷ t ∷ []) = subst (AreTurns s) three.is are in
    let settles = does_at s t SettlesHeld three.first_is ours.1.1.0 in
    let d = does_at t.after u (Changes admin Show) three.second_is ours.1.0 in
    let tells = does_at u.after v (Inquires (Remarks (Rows count))) three.third_is ours.0 in
    let all : ContentsAgree content (v.calls ++ (u.calls ++ (t.calls ++ []))) = subst (λ z. ContentsAgree content (turns_calls z)) three.is calls in
    let own : ContentsAgree content u.calls = contents_front content u.calls (t.calls ++ []) (contents_back content v.calls (u.calls ++ (t.calls ++ [])) all) in
    let told : AreCounted content orders.counted action ((t.entries ++ u.entries) ++ v.entries) = subst (λ z. AreCounted content orders.counted action (turns_entries z)) three.is o.counted in
    let counts = counted_back content orders.counted action t.entries u.entries (counted_front content orders.counted action (t.entries ++ u.entries) v.entries told) in
    let calm : AreCalm v.entries = does_calm u.after (Inquires (Remarks (Rows count))) v.calls v.entries v.after refl tells in
    let answer : (behind : Context) → behind.action ≡ action → IsBit orders given content (λ n. []) (placed_part phase session lines.Show behind []) =
    λ behind at. still_bit orders given content [] tt tt in
    let acts = changed_bit orders given content phase session lines.Show t.after admin Show u d own counts (o.asked ∙ ap asked_by (sym (shows_nothing admin))) answer in
    let bits : (behind : Context) → IsBit orders given content (owes orders action) (placed_part phase session lines.Show behind (u.entries ++ v.entries)) =
    λ behind. subst (IsBit orders given content (owes orders action)) (sym (placed_then phase session lines.Show behind u.entries v.entries))
    (no_more orders given content (owes orders action) _ _ (acts behind) (calm_bit orders given content phase session lines.Show (after_entries None behind u.entries) v.entries calm)) in
    subst (λ z. IsPaid orders given content deed (placed_part phase session lines.Show (turned context) (turns_entries z))) (sym three.is)
    (subst (λ z. IsPaid orders given content deed (placed_part phase session lines.Show (turned context) z)) (sym (append_assoc t.entries u.entries v.entries))
    (settled_paid orders given content phase session context deed t.entries (u.entries ++ v.entries) (omega arith) (does_calm s SettlesHeld t.calls t.entries t.after refl settles) bits))

none_due : (orders : Orders) (number : ℕ) → 0 < number → [] ≡ owes orders 0 number
none_due orders number p = ap (λ b. cond b (asked_of (orders.counted number) (orders.asked number)) []) (sym (ne_eqb 0 number (λ e. absurd (omega (arith, e, p)))))

idle_paid : (orders : Orders) (given : Given) (content : ℕ → ℕ → List ℕ) (phase session : ℕ) (context : Context) (s : State) (deed : Deed) (turns : List Turn) → number_of deed ≡ 0
    → IsIdleDeed deed → AreTurns s turns → steps_of turns ≡ steps_for s deed → IsPaid orders given content deed (placed_part phase session (line_of deed) (turned context) (turns_entries turns))
idle_paid orders given content phase session context s deed turns none idle are steps =
    let calm = turns_calm s turns are (subst AreIdleSteps (sym steps) (deed_idle s deed idle)) in
    let bit = calm_bit orders given content phase session (line_of deed) (turned context) (turns_entries turns) calm in
    record {
      done = λ n p. bit.done n ∙ (none_due orders n p ∙ ap (λ z. owes orders z n) (sym none));
      idle = λ e. calm_idle phase session (line_of deed) (turned context) (turns_entries turns) calm refl;
      facts = bit.facts;
    }

-- a text that is refused beforehand has the error that its line says
refused_paid : (orders : Orders) (given : Given) (content : ℕ → ℕ → List ℕ) (phase session : ℕ) (context : Context) (s : State) (error : ℕ) (turns : List Turn)
    → AreTurns s turns → steps_of turns ≡ Inquires (Remarks (Refused error)) ∷ []
    → IsPaid orders given content (Refusing error) (placed_part phase session (lines.Refused error) (turned context) (turns_entries turns))
refused_paid orders given content phase session context s error turns are steps =
    let step : Step = Inquires (Remarks (Refused error)) in
    let one : OneTurn turns step = one_turn turns step steps in
    let t : Turn = one.turn in
    let ours : AreTurns s (t ∷ []) = subst (AreTurns s) one.is are in
    let d = does_at s t step one.step_is ours.0 in
    let place : Placed = record { phase = phase; session = session; line = lines.Refused error; context = turned context; entry = says.Error error } in
    let bit : IsBit orders given content (λ n. []) (place ∷ []) = still_bit orders given content (place ∷ []) (refl, tt) (record { found = tt; made = tt; answered = refl }, tt) in
    let paid : IsPaid orders given content (Refusing error) (place ∷ []) = record { done = λ n p. bit.done n ∙ none_due orders n p; idle = λ e. (refl, tt); facts = bit.facts } in
    let P : List Entry → Type 0 = λ z. IsPaid orders given content (Refusing error) (placed_part phase session (lines.Refused error) (turned context) z) in
    subst (λ z. P (turns_entries z)) (sym one.is) (subst P (sym d.entries_are) paid)

by_deed : (orders : Orders) (given : Given) (content : ℕ → ℕ → List ℕ) (phase session : ℕ) (context : Context) (s : State) (deed : Deed) (turns : List Turn)
    → AreTurns s turns → steps_of turns ≡ steps_for s deed → ContentsAgree content (turns_calls turns)
    → (0 < number_of deed → AreOrders orders given content s.number (record { deed = deed; turns = turns }))
    → IsPaid orders given content deed (placed_part phase session (line_of deed) (turned context) (turns_entries turns))
by_deed orders given content phase session context s (Connecting admin user host) turns are steps calls o = connect_paid orders given content phase session context s admin user host turns are steps calls (o (omega arith))
by_deed orders given content phase session context s (Quitting admin) turns are steps calls o = quit_paid orders given content phase session context s admin turns are steps calls (o (omega arith))
by_deed orders given content phase session context s (Truncating admin what) turns are steps calls o = truncation_paid orders given content phase session context s admin what turns are steps calls (o (omega arith))
by_deed orders given content phase session context s (Changing admin what) turns are steps calls o = change_paid orders given content phase session context s admin what turns are steps calls (o (omega arith))
by_deed orders given content phase session context s (Showing admin count) turns are steps calls o = show_paid orders given content phase session context s admin count turns are steps calls (o (omega arith))
by_deed orders given content phase session context s (Querying found count) turns are steps calls o = idle_paid orders given content phase session context s (Querying found count) turns refl tt are steps
by_deed orders given content phase session context s (Refusing error) turns are steps calls o = refused_paid orders given content phase session context s error turns are steps
by_deed orders given content phase session context s (Starting subject) turns are steps calls o = idle_paid orders given content phase session context s (Starting subject) turns refl tt are steps
by_deed orders given content phase session context s (Staging subject) turns are steps calls o = idle_paid orders given content phase session context s (Staging subject) turns refl tt are steps
by_deed orders given content phase session context s StageEnding turns are steps calls o = idle_paid orders given content phase session context s StageEnding turns refl tt are steps
by_deed orders given content phase session context s (Ending numbers) turns are steps calls o = idle_paid orders given content phase session context s (Ending numbers) turns refl tt are steps
by_deed orders given content phase session context s (Spending time) turns are steps calls o = idle_paid orders given content phase session context s (Spending time) turns refl tt are steps
by_deed orders given content phase session context s Closing turns are steps calls o = idle_paid orders given content phase session context s Closing turns refl tt are steps

pub paid_part : (orders : Orders) (given : Given) (content : ℕ → ℕ → List ℕ) (phase session : ℕ) (context : Context) (s : State) (p : Part) → IsPart s p → ContentsAgree content (part_calls p)
    → (0 < number_of p.deed → AreOrders orders given content s.number p)
    → IsPaid orders given content p.deed (placed_part phase session (line_of p.deed) (turned context) (part_entries p))
paid_part orders given content phase session context s p part calls o = by_deed orders given content phase session context s p.deed p.turns part.are_turns part.steps_are calls o

pub done : DoneLaw
done = λ orders given content s p phase session context part calls o.
    let places : List Placed = placed_part phase session (line_of p.deed) (turned context) (part_entries p) in
    let r : IsPaid orders given content p.deed places = paid_part orders given content phase session context s p part calls o in
    record {
      done = r.done;
      idle = r.idle;
      answered = all_answered orders given content places r.facts;
      found = all_found orders given content places r.facts;
      made = all_made orders given content places r.facts;
    }
