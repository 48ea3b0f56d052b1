-- The SELECTs of a block that is shaped have the parts that are asked for, and each has an answer.
use Rattle.std.proofs.Common.{◌≡◌, refl, ℕ, Bool, true, false, ◌&&◌, cond, List, [], ◌∷◌, ◌++◌, map, sym, ◌∙◌, ap, subst, Option, Some, None, Result, Ok, Err}
use Rattle.std.specs.Prelude.{All}
use Rattle.std.specs.List.{cons_option, filter_map}
use Rattle.std.proofs.lemmas.Bool.{and_parts, false≢true}
use Rattle.std.proofs.lemmas.List.{append-nil}
use Rattle.std.proofs.lemmas.List.Elements.{All-head, All-tail, filter_map-append}
use Rattle.pfs_event.specs.declared.entry.Entry.{Entry}
use Rattle.pfs_event.specs.declared.entry.Entry.TheVariants as says
use Rattle.pfs_event.specs.declared.kind.EventKind.{EventKind}
use Rattle.pfs_event.specs.declared.kind.EventKind.TheVariants as kinds
use Rattle.pfs_event.specs.Verdicts.{is_let_through}
use Rattle.pfs_exec.specs.Requests.{request_of}
use Rattle.pfs_exec.specs.declared.requests.Request.{Request}
use Rattle.pfs_exec.specs.declared.requests.Request.TheVariants as requests
use Rattle.pfs_journal.specs.Reports.{AreAnswered, rows_asked, sizes_of}
use Rattle.pfs_journal.specs.Spelling.{is_answered}
use Rattle.pfs_model.specs.Contexts.{Context, after}
use Rattle.pfs_model.specs.Cuts.{cut, step, then_cut}
use Rattle.pfs_model.specs.EntryPlaces.{Placed}
use Rattle.pfs_model.specs.JournalCuts.{AreShaped, joined}
use Rattle.pfs_model.specs.Shapes.{changes, counting, digest_of, ending, ending_both, ending_first, ending_stage, is_stage, one, puts, settling, shape, starting}
use Rattle.pfs_model.specs.declared.lines.Line.{Line}
use Rattle.pfs_model.specs.declared.lines.Line.TheVariants as lines
use Rattle.pfs_model.specs.declared.lines.Opened.{Opened}
use Rattle.pfs_model.specs.declared.shapes.Ask.TheVariants as asks
use Rattle.pfs_model.specs.declared.shapes.Item.{Item}
use Rattle.pfs_runs.specs.ScriptLines.{connect_lines, line_in, lines_in, sql_line, stage_on}
use Rattle.pfs_runs.specs.SelectAnswers.{Answer, Held, Selection, Stored, connect_selections, selection_in, selection_on, selections_in}
use Rattle.pfs_script.specs.Marks.{written_out}
use Rattle.pfs_script.specs.declared.blocks.Block.{Block}
use Rattle.pfs_script.specs.declared.blocks.BlockLine.{BlockLine}
use Rattle.pfs_script.specs.declared.blocks.BlockLine.TheVariants as said
use Rattle.pfs_script.specs.declared.blocks.Connect.{Connect}
use Rattle.pfs_check_answers.specs.BlockSelects.{AreAsked, IsAsked}
use Rattle.pfs_check_answers.specs.SelectParts.{IsCounted}
use Rattle.pfs_check_answers.specs.SelectReadings.{NamesHad}
use Rattle.pfs_check_answers.proofs.AnswerLines.{NoneAnswered}
use Rattle.pfs_check_answers.proofs.LineSteps.{query_counted}
use Rattle.pfs_check_answers.proofs.PartShapes.{are_other, is_other, none_answered, query_part, settled_other, show_part, step_front}

-- ---- entries without an answer

none_asked : (entries : List Entry) → NoneAnswered entries → filter_map rows_asked entries ≡ []
none_asked [] none = refl
none_asked (entry ∷ entries) none =
    ap (λ o. cons_option o (filter_map rows_asked entries)) (no_rows entry (All-head (λ e. is_answered e ≡ false) entry entries none))
    ∙ none_asked entries (All-tail (λ e. is_answered e ≡ false) entry entries none)
  where
    no_rows : (entry : Entry) → is_answered entry ≡ false → rows_asked entry ≡ None
    no_rows (says.Rows number) e = absurd (false≢true (sym e))
    no_rows _ e = refl

one_asked : (part : List Entry) → (c : IsCounted part) → filter_map rows_asked part ≡ c.number ∷ []
one_asked part c =
    ap (filter_map rows_asked) c.told
    ∙ (filter_map-append rows_asked c.opening (says.Rows c.number ∷ []) ∙ ap (λ z. z ++ c.number ∷ []) (none_asked c.opening c.none))

silent_items : (items : List Item) (entries : List Entry) → are_other items ≡ true → cut items entries ≡ Ok [] → filter_map rows_asked entries ≡ []
unfolding cut
silent_items [] entries other is = ap (filter_map rows_asked) (let f : entries ≡ [] = cc in f)
silent_items (item ∷ items) entries other is =
    let o = and_parts (is_other item.ask) (are_other items) other in
    on (step item.often item.ask entries) refl is o.0 (λ rest e. silent_items items rest o.1 e)
  where
    on : (r : Result (List Entry) (List Entry)) → step item.often item.ask entries ≡ r → then_cut r (cut items) ≡ Ok [] → is_other item.ask ≡ true
        → ((rest : List Entry) → cut items rest ≡ Ok [] → filter_map rows_asked rest ≡ []) → filter_map rows_asked entries ≡ []
    on (Err rest) s e o go = absurd (cc)
    on (Ok rest) s e o go =
        let f = step_front item.often item.ask entries rest s in
        ap (filter_map rows_asked) f.are
        ∙ (filter_map-append rows_asked f.front rest
        ∙ (ap (λ z. z ++ filter_map rows_asked rest) (none_asked f.front (none_answered item.ask f.front o f.fit)) ∙ go rest e))

-- ---- lines that ask for no number of rows

both_other : (xs ys : List Item) → are_other xs ≡ true → are_other ys ≡ true → are_other (xs ++ ys) ≡ true
both_other [] ys p q = q
both_other (x ∷ xs) ys p q = on (is_other x.ask) p (λ k. both_other xs ys k q) where
  on : (b : Bool) → (b && are_other xs) ≡ true → (are_other xs ≡ true → are_other (xs ++ ys) ≡ true) → (b && are_other (xs ++ ys)) ≡ true
  on true p go = go p
  on false p go = absurd (false≢true p)

digest_other : (kind : EventKind) → are_other (digest_of kind ++ puts) ≡ true
digest_other kinds.Wait = refl
digest_other kinds.Stage = refl
digest_other kinds.Statement = refl
digest_other kinds.Transaction = refl

counting_other : (slot : Option ℕ) (event : Opened) (b : Bool) → are_other (counting slot event b) ≡ true
counting_other slot event true = digest_other event.subject.kind
counting_other slot event false = refl

ending_other : (slot : Option ℕ) (event : Opened) → are_other (ending slot event) ≡ true
ending_other slot event = counting_other slot event (is_let_through event.verdict)

first_other : (slot : Option ℕ) (events : List Opened) → are_other (ending_first slot events) ≡ true
first_other slot [] = refl
first_other slot (event ∷ events) = ending_other slot event

if_other : (b : Bool) (items : List Item) → are_other items ≡ true → are_other (cond b items []) ≡ true
if_other true items p = p
if_other false items p = refl

stage_other : (slot : Option ℕ) (events : List Opened) → are_other (ending_stage slot events) ≡ true
stage_other slot [] = refl
stage_other slot (event ∷ events) = if_other (is_stage event.subject.kind) (ending slot event) (ending_other slot event)

endings_other : (slot : Option ℕ) (events : List Opened) → are_other (ending_both slot events) ≡ true
endings_other slot [] = refl
endings_other slot (event ∷ events) =
    both_other (ending slot event) (cond (is_stage event.subject.kind) (ending_first slot events) []) (ending_other slot event)
    (if_other (is_stage event.subject.kind) (ending_first slot events) (first_other slot events))

settling_other : (rows : List ℕ) → are_other (settling rows) ≡ true
settling_other rows = subst (λ z. are_other z ≡ true) (append-nil (settling rows)) (settled_other rows [] refl)

-- ---- what a line of a block asks for is a SELECT exactly where its entries tell how many rows there are

abbrev Suits : Option Selection → Line → Type 0
Suits None line = (context : Context) → are_other (shape context line) ≡ true
Suits (Some (Stored select)) line = line ≡ lines.Query
Suits (Some (Held select)) line = line ≡ lines.Show

abbrev AreSuited : List (Option Selection) → List Line → Type 0
AreSuited [] [] = Unit {0}
AreSuited [] (line ∷ more) = ⊥
AreSuited (selection ∷ selections) [] = ⊥
AreSuited (selection ∷ selections) (line ∷ more) = Suits selection line × AreSuited selections more

change_other : (context : Context) → are_other (shape context lines.Change) ≡ true
change_other context = settled_other context.held (one asks.Act ∷ (changes ++ one asks.Answer ∷ [])) refl

sql_suits : (request : Request) → Suits (selection_in request) (sql_line request)
sql_suits (requests.Refused error) = λ context. refl
sql_suits (requests.Query select) = refl
sql_suits (requests.Show select) = refl
sql_suits (requests.Truncate what) = change_other
sql_suits (requests.Update update) = change_other
sql_suits (requests.Insert insert) = change_other
sql_suits (requests.Delete delete) = change_other

line_suits : (line : BlockLine) → Suits (selection_on line) (line_in line)
line_suits (said.Wait class) = λ context. refl
line_suits (said.TableWait class table) = λ context. refl
line_suits (said.Statement class digest) = λ context. refl
line_suits (said.Transaction access) = λ context. refl
line_suits (said.Stage class) = λ context. both_other (ending_stage context.slot context.opened) (starting context.slot (stage_on class)) (stage_other context.slot context.opened) refl
line_suits said.StageEnd = λ context. stage_other context.slot context.opened
line_suits (said.Spend time) = λ context. refl
line_suits said.End = λ context. endings_other context.slot context.opened
line_suits (said.EndStatement numbers) = λ context. endings_other context.slot context.opened
line_suits said.Quit = λ context. settled_other context.held (one asks.Act ∷ changes) refl
line_suits (said.Sql text) = sql_suits (request_of text)
line_suits (said.Repeat times) = λ context. refl
line_suits said.Done = λ context. refl

lines_suit : (many : List BlockLine) → AreSuited (map selection_on many ++ None ∷ []) (map line_in many ++ lines.Close ∷ [])
lines_suit [] = (λ context. settling_other context.held, tt)
lines_suit (line ∷ more) = (line_suits line, lines_suit more)

block_suits : (block : Block) → AreSuited (selections_in block) (lines_in block)
block_suits block = on block.connect (lines_suit (written_out block.lines)) where
  on : (connect : Option Connect) → AreSuited (map selection_on (written_out block.lines) ++ None ∷ []) (map line_in (written_out block.lines) ++ lines.Close ∷ [])
      → AreSuited (connect_selections connect ++ (map selection_on (written_out block.lines) ++ None ∷ [])) (connect_lines connect ++ (map line_in (written_out block.lines) ++ lines.Close ∷ []))
  on None rest = rest
  on (Some names) rest = (λ context. refl, rest)

-- ---- so each SELECT has the next answer

abbrev AllNamed : List Placed → List (List Entry) → Type 0
AllNamed all parts = All (λ part. All (NamesHad all) part) parts

first_size : (answer : Answer) (given : List Answer) (number : ℕ) (rest : List ℕ) → sizes_of (answer ∷ given) ≡ number ∷ rest → sizes_of given ≡ rest
first_size answer given number rest e = cc

module _ (all : List Placed) where
  behind_first : (part : List Entry) (parts : List (List Entry)) (given : List Answer) (own : List ℕ) → filter_map rows_asked part ≡ own
      → sizes_of given ≡ filter_map rows_asked (joined (part ∷ parts)) → sizes_of given ≡ own ++ filter_map rows_asked (joined parts)
  unfolding joined
  behind_first part parts given own is e = e ∙ (filter_map-append rows_asked part (joined parts) ∙ ap (λ z. z ++ filter_map rows_asked (joined parts)) is)

  nothing_left : (given : List Answer) → sizes_of given ≡ filter_map rows_asked (joined []) → given ≡ []
  unfolding joined
  nothing_left [] e = refl
  nothing_left (answer ∷ given) e = absurd (cc)

  next : (selection : Selection) (selections : List (Option Selection)) (part : List Entry) (parts : List (List Entry)) (given : List Answer) (number : ℕ)
      → ((answer : Answer) → IsAsked all selection part answer) → sizes_of given ≡ number ∷ filter_map rows_asked (joined parts)
      → ((left : List Answer) → sizes_of left ≡ filter_map rows_asked (joined parts) → AreAsked all selections parts left) → AreAsked all (Some selection ∷ selections) (part ∷ parts) given
  next selection selections part parts [] number own e rest = absurd (cc)
  next selection selections part parts (answer ∷ given) number own e rest = (own answer, rest given (first_size answer given number (filter_map rows_asked (joined parts)) e))

  asked_parts : (selections : List (Option Selection)) (said : List Line) (context : Context) (parts : List (List Entry)) (given : List Answer) → AreSuited selections said
      → AreShaped context said parts → sizes_of given ≡ filter_map rows_asked (joined parts) → AllNamed all parts → AreAsked all selections parts given
  asked_parts [] [] context [] given suits shaped sizes named = nothing_left given sizes
  asked_parts [] [] context (part ∷ parts) given suits shaped sizes named = absurd shaped
  asked_parts [] (line ∷ more) context parts given suits shaped sizes named = absurd suits
  asked_parts (selection ∷ selections) [] context parts given suits shaped sizes named = absurd suits
  asked_parts (selection ∷ selections) (line ∷ more) context [] given suits shaped sizes named = absurd shaped
  asked_parts (None ∷ selections) (line ∷ more) context (part ∷ parts) given suits shaped sizes named =
      asked_parts selections more (after context line part) parts given suits.1 shaped.1
      (behind_first part parts given [] (silent_items (shape context line) part (suits.0 context) shaped.0) sizes) (All-tail (λ p. All (NamesHad all) p) part parts named)
  asked_parts (Some (Stored select) ∷ selections) (line ∷ more) context (part ∷ parts) given suits shaped sizes named =
      let own = query_part context part (subst (λ z. cut (shape context z) part ≡ Ok []) suits.0 shaped.0) in
      let c = query_counted part own in
      next (Stored select) selections part parts given c.number (λ answer. (own, All-head (λ p. All (NamesHad all) p) part parts named))
      (behind_first part parts given (c.number ∷ []) (one_asked part c) sizes)
      (λ left e. asked_parts selections more (after context line part) parts left suits.1 shaped.1 e (All-tail (λ p. All (NamesHad all) p) part parts named))
  asked_parts (Some (Held select) ∷ selections) (line ∷ more) context (part ∷ parts) given suits shaped sizes named =
      let c = show_part context part (subst (λ z. cut (shape context z) part ≡ Ok []) suits.0 shaped.0) in
      next (Held select) selections part parts given c.number (λ answer. c) (behind_first part parts given (c.number ∷ []) (one_asked part c) sizes)
      (λ left e. asked_parts selections more (after context line part) parts left suits.1 shaped.1 e (All-tail (λ p. All (NamesHad all) p) part parts named))

  -- a block that is shaped, whose journal has its answers
  pub block_asked : (block : Block) (context : Context) (entries : List Entry) (parts : List (List Entry)) (given : List Answer) → AreShaped context (lines_in block) parts
      → joined parts ≡ entries → AreAnswered entries given → AllNamed all parts → AreAsked all (selections_in block) parts given
  block_asked block context entries parts given shaped are answered named =
      asked_parts (selections_in block) (lines_in block) context parts given (block_suits block) shaped (answered ∙ ap (filter_map rows_asked) (sym are)) named
