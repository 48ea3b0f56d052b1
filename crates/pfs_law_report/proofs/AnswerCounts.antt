-- Behind each SELECT of a session stands how many rows answer it, and no other of its entries tells of rows.
use Rattle.std.proofs.Common.{ℕ, ◌≡◌, Bool, true, false, ◌&&◌, cond, List, [], ◌∷◌, ◌++◌, map, length, Option, None, Some, Result, Ok, Err, refl, sym, ap, ◌∙◌, subst, append-nil, length-append, arith}
use Rattle.std.specs.List.{filter_map, cons_option}
use Rattle.std.proofs.lemmas.Bool.{and_parts}
use Rattle.std.proofs.lemmas.List.Elements.{filter_map-append}
use Rattle.pfs_admin.specs.AdministrationStates.{State as Administration}
use Rattle.pfs_admin.specs.declared.changes.SetupStatement.TheVariants.{Show}
use Rattle.pfs_classes.specs.declared.setting.Setting.{Setting}
use Rattle.pfs_event.specs.declared.entry.Entry.{Entry}
use Rattle.pfs_event.specs.declared.entry.Entry.TheVariants as says
use Rattle.pfs_event.specs.declared.kind.EventKind.{EventKind}
use Rattle.pfs_event.specs.declared.kind.EventKind.TheVariants as kinds
use Rattle.pfs_event.specs.Verdicts.{is_let_through}
use Rattle.pfs_exec.specs.declared.query.Select.{Select}
use Rattle.pfs_law_plain.specs.ToldAnswers.{Answers, IsQuery, IsShow}
use Rattle.pfs_journal.specs.Reports.{rows_asked, sizes_of}
use Rattle.pfs_model.specs.EntryAsks.{fits}
use Rattle.pfs_model.specs.Contexts.{Context, after}
use Rattle.pfs_model.specs.Cuts.{behind, step, then_cut, cut}
use Rattle.pfs_model.specs.JournalCuts.{AreShaped, joined}
use Rattle.pfs_model.specs.Shapes.{added, changes, counting, digest_of, ending, ending_both, ending_first, ending_stage, is_stage, one, puts, settling, shape, starting}
use Rattle.pfs_model.specs.declared.lines.Line.TheVariants as lines
use Rattle.pfs_model.specs.declared.lines.Opened.{Opened}
use Rattle.pfs_model.specs.declared.shapes.Ask.{Ask}
use Rattle.pfs_model.specs.declared.shapes.Ask.TheVariants as asks
use Rattle.pfs_model.specs.declared.shapes.Item.{Item}
use Rattle.pfs_model.specs.declared.shapes.Often.{Often}
use Rattle.pfs_model.specs.declared.shapes.Often.TheVariants.{One, Maybe, Many}
use Rattle.pfs_law_session.proofs.Inquiries.{asked_by, asked_entries, asked_steps, inquired_at, told}
use Rattle.pfs_law_session.proofs.FewTurns.{ThreeTurns, three_turns}
use Rattle.pfs_law_session.specs.Deeds.{Connecting, Starting, Staging, StageEnding, Ending, Spending, Quitting, Truncating, Changing, Showing, Querying, Refusing, Closing, Deed, IsPart, Part, line_of, part_entries, remark, steps_for}
use Rattle.pfs_law_session.specs.JournalLaws.{AreParts, entries_of, lines_of}
use Rattle.pfs_rows.specs.declared.table.Reading.{Reading}
use Rattle.pfs_rows.specs.declared.table.Reading.TheVariants as readings
use Rattle.pfs_rows.specs.declared.table.Seen.TheVariants as seen
use Rattle.pfs_runs.specs.SelectAnswers.{Answer, AreAnswers, Held, Selection, Stored}
use Rattle.pfs_session.specs.Inquiries.{Remarks, reading_entry}
use Rattle.pfs_session.specs.SessionStates.{State}
use Rattle.pfs_session.specs.Turns.{AreTurns, Changes, SettlesHeld, Turn, state_after, steps_of, turns_entries}
use Rattle.pfs_session.specs.declared.remarks.Remark.TheVariants.{Rows}
use Rattle.pfs_law_report.specs.ReportableRuns.{AreAsked, IsRowless}

-- entries tell of so many answers; and of answers with so many rows
abbrev Tells : ℕ → List Entry → Type 0
Tells many entries = length (filter_map rows_asked entries) ≡ many

abbrev pub TellJust : List ℕ → List Entry → Type 0
TellJust counts entries = filter_map rows_asked entries ≡ counts

-- ---- what is asked of an entry is no number of rows

abbrev is_other : Ask → Bool
is_other asks.Rows = false
is_other _ = true

abbrev are_other : List Item → Bool
are_other [] = true
are_other (item ∷ items) = is_other item.ask && are_other items

fits_none : (ask : Ask) (entry : Entry) → is_other ask ≡ true → fits ask entry ≡ true → rows_asked entry ≡ None
fits_none ask (says.Rows number) other fit = absurd (at ask other fit)
  where
    at : (ask : Ask) → is_other ask ≡ true → fits ask (says.Rows number) ≡ true → ⊥
    at asks.Rows o f = absurd (cc)
    at _ o f = absurd (cc)
fits_none ask _ other fit = refl

none_more : (entry : Entry) (entries : List Entry) (many : ℕ) → rows_asked entry ≡ None → Tells many entries
    → Tells many (entry ∷ entries)
none_more entry entries many none rest = subst (λ o. length (cons_option o (filter_map rows_asked entries)) ≡ many)
    (sym none) rest

behind_tells : (ask : Ask) (entries : List Entry) (many : ℕ) → is_other ask ≡ true → Tells many (behind ask entries)
    → Tells many entries
unfolding behind
behind_tells ask [] many other rest = rest
behind_tells ask (entry ∷ entries) many other rest = at (fits ask entry) refl rest (behind_tells ask entries many other)
  where
    at : (fit : Bool) → fits ask entry ≡ fit → Tells many (cond fit (behind ask entries) (entry ∷ entries))
        → (Tells many (behind ask entries) → Tells many entries) → Tells many (entry ∷ entries)
    at true f h go = none_more entry entries many (fits_none ask entry other f) (go h)
    at false f h go = h

abbrev Is : Result (List Entry) (List Entry) → List Entry → Type 0
Is result rest = result ≡ Ok rest

step_tells : (often : Often) (ask : Ask) (entries rest : List Entry) (many : ℕ) → is_other ask ≡ true
    → step often ask entries ≡ Ok rest → Tells many rest → Tells many entries
step_tells One ask [] rest many other is tells = absurd (cc)
step_tells One ask (entry ∷ entries) rest many other is tells = at (fits ask entry) refl is
  where
    at : (fit : Bool) → fits ask entry ≡ fit → Is (cond fit (Ok entries) (Err (entry ∷ entries))) rest
        → Tells many (entry ∷ entries)
    at true f e = none_more entry entries many (fits_none ask entry other f)
        (let same : rest ≡ entries = cc in subst (Tells many) same tells)
    at false f e = absurd (cc)
step_tells Maybe ask [] rest many other is tells = let same : rest ≡ [] = cc in subst (Tells many) same tells
step_tells Maybe ask (entry ∷ entries) rest many other is tells = at (fits ask entry) refl is
  where
    at : (fit : Bool) → fits ask entry ≡ fit → Is (cond fit (Ok entries) (Ok (entry ∷ entries))) rest
        → Tells many (entry ∷ entries)
    at true f e = none_more entry entries many (fits_none ask entry other f)
        (let same : rest ≡ entries = cc in subst (Tells many) same tells)
    at false f e = let same : rest ≡ entry ∷ entries = cc in subst (Tells many) same tells
step_tells Many ask entries rest many other is tells = behind_tells ask entries many other
    (let same : rest ≡ behind ask entries = cc in subst (Tells many) same tells)

-- such items take no entry that tells of an answer, so all that do are left to those behind them
cut_tells : (items more : List Item) (entries : List Entry) (many : ℕ) → are_other items ≡ true
    → cut (items ++ more) entries ≡ Ok [] → ((rest : List Entry) → cut more rest ≡ Ok [] → Tells many rest)
    → Tells many entries
unfolding cut
cut_tells [] more entries many other is left = left entries is
cut_tells (item ∷ items) more entries many other is left =
    let o = and_parts (is_other item.ask) (are_other items) other in
    at (step item.often item.ask entries) refl is o.0 (λ rest e. cut_tells items more rest many o.1 e left)
  where
    at : (r : Result (List Entry) (List Entry)) → step item.often item.ask entries ≡ r
        → then_cut r (cut (items ++ more)) ≡ Ok [] → is_other item.ask ≡ true
        → ((rest : List Entry) → cut (items ++ more) rest ≡ Ok [] → Tells many rest) → Tells many entries
    at (Ok rest) s e o go = step_tells item.often item.ask entries rest many o s (go rest e)
    at (Err rest) s e o go = absurd (cc)

nothing_left : (rest : List Entry) → cut [] rest ≡ Ok [] → Tells 0 rest
unfolding cut
nothing_left rest is = let same : [] ≡ rest = cc in subst (Tells 0) same refl

rows_left : (rest : List Entry) → cut (one asks.Rows ∷ []) rest ≡ Ok [] → Tells 1 rest
unfolding cut
rows_left [] is = absurd (cc)
rows_left (says.Rows number ∷ rest) is =
    let same : [] ≡ rest = cc in
    subst (λ (z : List Entry). Tells 1 (says.Rows number ∷ z)) same refl
rows_left (_ ∷ rest) is = absurd (cc)

-- ---- the shapes of a session's lines

other_append : (xs ys : List Item) → are_other xs ≡ true → are_other ys ≡ true → are_other (xs ++ ys) ≡ true
other_append [] ys a b = b
other_append (x ∷ xs) ys a b =
    let o = and_parts (is_other x.ask) (are_other xs) a in
    subst (λ z. z && are_other (xs ++ ys) ≡ true) (sym o.0) (other_append xs ys o.1 b)

other_if : (test : Bool) (xs : List Item) → are_other xs ≡ true → are_other (cond test xs []) ≡ true
other_if true xs o = o
other_if false xs o = refl

digest_other : (kind : EventKind) → are_other (digest_of kind ++ puts) ≡ true
digest_other kinds.Statement = refl
digest_other kinds.Wait = refl
digest_other kinds.Stage = refl
digest_other kinds.Transaction = refl

counting_other : (slot : Option ℕ) (event : Opened) (through : Bool) → are_other (counting slot event through) ≡ true
counting_other slot event true = digest_other event.subject.kind
counting_other slot event false = refl

ending_other : (slot : Option ℕ) (event : Opened) → are_other (ending slot event) ≡ true
ending_other slot event = counting_other slot event (is_let_through event.verdict)

first_other : (slot : Option ℕ) (events : List Opened) → are_other (ending_first slot events) ≡ true
first_other slot [] = refl
first_other slot (event ∷ events) = ending_other slot event

stage_other : (slot : Option ℕ) (events : List Opened) → are_other (ending_stage slot events) ≡ true
stage_other slot [] = refl
stage_other slot (event ∷ events) = other_if (is_stage event.subject.kind) (ending slot event) (ending_other slot event)

both_other : (slot : Option ℕ) (events : List Opened) → are_other (ending_both slot events) ≡ true
both_other slot [] = refl
both_other slot (event ∷ events) =
    other_append (ending slot event) (cond (is_stage event.subject.kind) (ending_first slot events) [])
    (ending_other slot event)
    (other_if (is_stage event.subject.kind) (ending_first slot events) (first_other slot events))

added_other : (rows : List ℕ) → are_other (map added rows) ≡ true
added_other [] = refl
added_other (row ∷ rows) = added_other rows

settling_other : (rows : List ℕ) → are_other (settling rows) ≡ true
settling_other [] = refl
settling_other (row ∷ rows) = added_other rows

deed_other : (context : Context) (deed : Deed) → IsRowless deed → are_other (shape context (line_of deed)) ≡ true
deed_other context (Connecting admin user host) less = refl
deed_other context (Starting subject) less = refl
deed_other context (Staging subject) less = other_append (ending_stage context.slot context.opened)
    (starting context.slot subject) (stage_other context.slot context.opened) refl
deed_other context StageEnding less = stage_other context.slot context.opened
deed_other context (Ending numbers) less = both_other context.slot context.opened
deed_other context (Spending time) less = refl
deed_other context (Quitting admin) less = other_append (settling context.held) _ (settling_other context.held) refl
deed_other context (Truncating admin what) less = other_append (settling context.held) _
    (settling_other context.held) refl
deed_other context (Changing admin what) less = other_append (settling context.held) _
    (settling_other context.held) refl
deed_other context (Showing admin count) less = absurd less
deed_other context (Querying readings count) less = absurd less
deed_other context (Refusing error) less = refl
deed_other context Closing less = settling_other context.held

-- ---- how many rows a part's answer has

abbrev pub counts_of : Deed → List ℕ
counts_of (Showing admin count) = count ∷ []
counts_of (Querying readings count) = count ∷ []
counts_of _ = []

rowless_counts : (deed : Deed) → IsRowless deed → counts_of deed ≡ []
rowless_counts (Showing admin count) less = absurd less
rowless_counts (Querying readings count) less = absurd less
rowless_counts _ less = refl

none_told : (counts : List ℕ) → length counts ≡ 0 → counts ≡ []
none_told [] e = refl
none_told (count ∷ counts) e = absurd (omega (arith, e))

one_told : (front : List ℕ) (count : ℕ) → length (front ++ count ∷ []) ≡ 1 → front ++ count ∷ [] ≡ count ∷ []
one_told [] count e = refl
one_told (other ∷ front) count e = absurd (omega (arith, e, length-append front (count ∷ [])))

rowless_tells : (context : Context) (deed : Deed) (entries : List Entry) → IsRowless deed
    → cut (shape context (line_of deed)) entries ≡ Ok [] → TellJust [] entries
rowless_tells context deed entries less shaped =
    none_told (filter_map rows_asked entries)
    (cut_tells (shape context (line_of deed)) [] entries 0 (deed_other context deed less)
    (subst (λ (z : List Item). cut z entries ≡ Ok [])
    (sym (append-nil (shape context (line_of deed)))) shaped) nothing_left)

-- where the last of entries tells of an answer, and they tell of one, they tell of that one
last_tells : (front : List Entry) (count : ℕ) → Tells 1 (front ++ says.Rows count ∷ [])
    → TellJust (count ∷ []) (front ++ says.Rows count ∷ [])
last_tells front count tells =
    let both : filter_map rows_asked (front ++ says.Rows count ∷ []) ≡ filter_map rows_asked front ++ count ∷ [] = filter_map-append rows_asked front (says.Rows count ∷ []) in
    both ∙ one_told (filter_map rows_asked front) count (ap (λ (z : List ℕ). length z) (sym both) ∙ tells)

ends_tell : (front entries : List Entry) (count : ℕ) → entries ≡ says.Rows count ∷ [] → Tells 1 (front ++ entries)
    → TellJust (count ∷ []) (front ++ entries)
ends_tell front entries count e =
    subst (λ (z : List Entry). Tells 1 (front ++ z) → TellJust (count ∷ []) (front ++ z)) (sym e)
    (last_tells front count)

shown_shape : (context : Context) (entries : List Entry) → cut (shape context lines.Show) entries ≡ Ok []
    → Tells 1 entries
shown_shape context entries shaped =
    cut_tells (settling context.held) (one asks.Act ∷ (changes ++ one asks.Rows ∷ [])) entries 1
    (settling_other context.held) shaped
    (λ rest e. cut_tells (one asks.Act ∷ changes) (one asks.Rows ∷ []) rest 1 refl e rows_left)

last_turn : (s : State) (count : ℕ) (turn : Turn) (turns : List Turn) → AreTurns s (turn ∷ turns)
    → turn.step ≡ remark (Rows count) → Tells 1 (turns_entries (turn ∷ turns))
    → TellJust (count ∷ []) (turns_entries (turn ∷ turns))
last_turn s count turn turns are is tells =
    ends_tell (turns_entries turns) turn.entries count
    (inquired_at (state_after s turns) turn.step (Remarks (Rows count)) turn is are.0).entries_are tells

showing_tells : (context : Context) (s : State) (admin : Administration) (count : ℕ) (turns : List Turn)
    → AreTurns s turns → steps_of turns ≡ steps_for s (Showing admin count)
    → cut (shape context lines.Show) (turns_entries turns) ≡ Ok []
    → TellJust (count ∷ []) (turns_entries turns)
showing_tells context s admin count turns are steps shaped =
    let t : ThreeTurns turns SettlesHeld (Changes admin Show) (remark (Rows count)) =
    three_turns turns SettlesHeld (Changes admin Show) (remark (Rows count)) steps in
    subst (λ (z : List Turn). TellJust (count ∷ []) (turns_entries z)) (sym t.is)
    (last_turn s count t.third (t.second ∷ t.first ∷ []) (subst (AreTurns s) t.is are) t.third_is
    (subst (λ (z : List Turn). Tells 1 (turns_entries z)) t.is (shown_shape context (turns_entries turns) shaped)))

reading_none : (reading : Reading) → rows_asked (reading_entry reading) ≡ None
reading_none (readings.Slot row (seen.Whole version content)) = refl
reading_none (readings.Slot row (seen.Free word)) = refl
reading_none (readings.Slot row (seen.Busy first second)) = refl
reading_none (readings.Word word version flags) = refl

readings_tell : (found : List Reading) (count : ℕ)
    → TellJust (count ∷ []) (map reading_entry found ++ says.Rows count ∷ [])
readings_tell [] count = refl
readings_tell (reading ∷ found) count =
    subst (λ o. cons_option o (filter_map rows_asked (map reading_entry found ++ says.Rows count ∷ [])) ≡ count ∷ [])
    (sym (reading_none reading)) (readings_tell found count)

querying_tells : (s : State) (found : List Reading) (count : ℕ) (turns : List Turn) → AreTurns s turns
    → steps_of turns ≡ steps_for s (Querying found count) → TellJust (count ∷ []) (turns_entries turns)
querying_tells s found count turns are steps =
    subst (λ (z : List Entry). TellJust (count ∷ []) z)
    (sym ((told s (asked_by found count) turns are (steps ∙ asked_steps found count)).entries_are
    ∙ asked_entries found count)) (readings_tell found count)

part_tells : (context : Context) (s : State) (part : Part) → IsPart s part
    → cut (shape context (line_of part.deed)) (part_entries part) ≡ Ok []
    → TellJust (counts_of part.deed) (part_entries part)
part_tells context s part is shaped = at part.deed is.steps_are shaped
  where
    at : (deed : Deed) → steps_of part.turns ≡ steps_for s deed
        → cut (shape context (line_of deed)) (part_entries part) ≡ Ok []
        → TellJust (counts_of deed) (part_entries part)
    at (Showing admin count) steps shaped = showing_tells context s admin count part.turns is.are_turns steps shaped
    at (Querying found count) steps shaped = querying_tells s found count part.turns is.are_turns steps
    at deed steps shaped = rowless_tells context deed (part_entries part) tt shaped

-- ---- along the parts

abbrev counts_along : List Part → List ℕ
counts_along [] = []
counts_along (part ∷ parts) = counts_of part.deed ++ counts_along parts

parts_tell : (context : Context) (s : State) (parts : List Part)
    → AreShaped context (lines_of parts) (entries_of parts) → AreParts s parts
    → TellJust (counts_along parts) (joined (entries_of parts))
unfolding joined
parts_tell context s [] shaped are = refl
parts_tell context s (part ∷ parts) shaped are =
    filter_map-append rows_asked (part_entries part) (joined (entries_of parts))
    ∙ (ap (λ z. z ++ filter_map rows_asked (joined (entries_of parts))) (part_tells context s part are.0 shaped.0)
    ∙ ap (λ z. counts_of part.deed ++ z) (parts_tell (after context (line_of part.deed) (part_entries part))
    (state_after s part.turns) parts shaped.1 are.1))

query_counts : (setting : Setting) (select : Select) (answer : Answer) (deed : Deed)
    → IsQuery setting select answer deed → counts_of deed ≡ length answer ∷ []
query_counts setting select answer (Querying found count) is = ap (λ (n : ℕ). n ∷ []) is.counted
query_counts setting select answer _ is = absurd is

show_counts : (select : Select) (answer : Answer) (deed : Deed) → IsShow select answer deed
    → counts_of deed ≡ length answer ∷ []
show_counts select answer (Showing admin count) is = ap (λ (n : ℕ). n ∷ []) is.1
show_counts select answer _ is = absurd is

selection_counts : (setting : Setting) (selection : Selection) (part : Part) (answer : Answer)
    → Answers setting selection part answer → counts_of part.deed ≡ length answer ∷ []
selection_counts setting (Stored select) part answer is = query_counts setting select answer part.deed is
selection_counts setting (Held select) part answer is = show_counts select answer part.deed is

sizes_told : (setting : Setting) (selections : List (Option Selection)) (parts : List Part) (answers : List Answer)
    → AreAsked selections parts → AreAnswers (Answers setting) selections parts answers
    → sizes_of answers ≡ counts_along parts
sizes_told setting [] [] answers asked are = ap (λ (z : List Answer). sizes_of z) are
sizes_told setting [] (part ∷ parts) answers asked are = absurd are
sizes_told setting (None ∷ selections) [] answers asked are = absurd are
sizes_told setting (None ∷ selections) (part ∷ parts) answers asked are =
    sizes_told setting selections parts answers asked.1 are
    ∙ ap (λ z. z ++ counts_along parts) (sym (rowless_counts part.deed asked.0))
sizes_told setting (Some selection ∷ selections) [] answers asked are = absurd are
sizes_told setting (Some selection ∷ selections) (part ∷ parts) [] asked are = absurd are
sizes_told setting (Some selection ∷ selections) (part ∷ parts) (answer ∷ answers) asked are =
    ap (λ z. length answer ∷ z) (sizes_told setting selections parts answers asked are.1)
    ∙ ap (λ z. z ++ counts_along parts) (sym (selection_counts setting selection part answer are.0))

-- the answers of parts have so many rows as their entries say
pub answers_told : (setting : Setting) (context : Context) (s : State) (selections : List (Option Selection))
    (parts : List Part) (answers : List Answer) → AreShaped context (lines_of parts) (entries_of parts)
    → AreParts s parts
    → AreAsked selections parts → AreAnswers (Answers setting) selections parts answers
    → sizes_of answers ≡ filter_map rows_asked (joined (entries_of parts))
answers_told setting context s selections parts answers shaped done asked are =
    sizes_told setting selections parts answers asked are ∙ sym (parts_tell context s parts shaped done)
