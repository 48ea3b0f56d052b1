-- Where a reader of a report's lines stops.
use Rattle.std.proofs.Common.{ℕ, suc, ◌≡◌, ◌≢◌, ◌+◌, List, [], ◌∷◌, ◌++◌, length, Option, Some, None, Result, Ok, Err, IfOk, append_assoc, length-append, sym, ap, subst, ◌∙◌, refl, arith}
use Rattle.std.specs.Prelude.{IsErr, IsErrAnd}
use Rattle.std.specs.List.{flat_map}
use Rattle.std.proofs.lemmas.List.Elements.{All-nil, All-cons}
use Rattle.pfs_event.specs.declared.entry.Entry.{Entry}
use Rattle.pfs_text.specs.declared.values.RowValue.{RowValue}
use Rattle.pfs_journal.specs.declared.line.Line.{Line}
use Rattle.pfs_journal.specs.declared.line.Line.TheVariants as says
use Rattle.pfs_journal.specs.declared.values.LostReport.{LostReport}
use Rattle.pfs_journal.specs.declared.reading.ReadStop.{ReadStop}
use Rattle.pfs_journal.specs.declared.reading.ReadStop.TheVariants.{Bad, NoMemory}
use Rattle.pfs_journal.specs.SingleLines.{line_text, IsGoodLine}
use Rattle.pfs_journal.specs.ReportPlaces.{Place, Start, Phases, Blocks, Journal, Results, Named, Rows, Counters, Ended, step, run, capped, Stops, StopsAfter, Leads}
use Rattle.pfs_journal.specs.ReportReadings.{IfBad}
use Rattle.pfs_journal.specs.LineWords.{line_word, line_rest}
use Rattle.pfs_journal.proofs.OneLine.{line_body, one_line}

pub some_feed : (body more : List ℕ) → body ++ 10 ∷ more ≢ []
some_feed [] more e = absurd (cc)
some_feed (b ∷ body) more e = absurd (cc)

pub line_some : (line : Line) (more : List ℕ) → line_text line ++ more ≢ []
line_some line more e = some_feed (line_word line ++ line_rest line) more (sym (line_body line more) ∙ e)

-- no line stands here
pub none_here : (place : Place) (rest : List ℕ) (number at : ℕ) → ((line : Line) (more : List ℕ) → IsGoodLine line → rest ≢ line_text line ++ more) → place ≢ Ended → at ≡ capped number → Stops place rest number at
none_here place rest number at none apart is = record {
  lines = [];
  good = All-nil IsGoodLine;
  behind = rest;
  text = refl;
  there = place;
  ran = refl;
  stuck = λ line more good same. absurd (none line more good same);
  unfinished = λ ended. absurd (apart ended);
  counted = omega (arith, is);
}

lead_by : (place : Place) (says : Line) (before after : List ℕ) (number reached at : ℕ) (next : Option Place) → step place says ≡ next → IsGoodLine says → before ≡ line_text says ++ after → reached ≡ capped (number + 1) → StopsAfter next after reached at → Stops place before (number + 1) at
lead_by place says before after number reached at None leads good text count stop = record {
  lines = [];
  good = All-nil IsGoodLine;
  behind = before;
  text = refl;
  there = place;
  ran = refl;
  stuck = λ line more fine same. ap (step place) (one_line line says more after fine good (sym same ∙ text)).0 ∙ leads;
  unfinished = λ ended none. line_some says after (sym text ∙ none);
  counted = omega (arith, stop, count);
}
lead_by place says before after number reached at (Some next) leads good text count stop = record {
  lines = says ∷ stop.lines;
  good = All-cons IsGoodLine says stop.lines good stop.good;
  behind = stop.behind;
  text = text ∙ (ap (λ (z : List ℕ). line_text says ++ z) stop.text ∙ sym (append_assoc (line_text says) (flat_map line_text stop.lines) stop.behind));
  there = stop.there;
  ran = ap (λ (o : Option Place). run o stop.lines) leads ∙ stop.ran;
  stuck = stop.stuck;
  unfinished = stop.unfinished;
  counted = omega (arith, stop.counted, count);
}

-- a line was taken, and so a reader that stops behind it stops so from it on
pub line_leads : (place : Place) (says : Line) (before after : List ℕ) (number reached : ℕ) → IsGoodLine says → before ≡ line_text says ++ after → reached ≡ capped (number + 1) → Leads (Some place) before number (step place says) after reached
line_leads place says before after number reached good text count = λ at stop. lead_by place says before after number reached at (step place says) refl good text count stop

-- more stands behind the last line
pub ended_stops : (rest : List ℕ) (number at : ℕ) → rest ≢ [] → at ≡ capped number → Stops Ended rest number at
ended_stops rest number at some is = record {
  lines = [];
  good = All-nil IsGoodLine;
  behind = rest;
  text = refl;
  there = Ended;
  ran = refl;
  stuck = λ line more good same. refl;
  unfinished = λ ended. some;
  counted = omega (arith, is);
}

-- where a reader stopped, as it was told
pub bad_at : (stop : ReadStop) (at : ℕ) (Holds : ℕ → Type 0) → stop ≡ Bad at → Holds at → IfBad {Answer = ℕ} (Err stop) Holds
bad_at stop at Holds is holds = subst (λ (s : ReadStop). IfBad {Answer = ℕ} (Err s) Holds) (sym is) holds

pub bad_so : (stop : ReadStop) (Told Holds : ℕ → Type 0) → ((at : ℕ) → Told at → Holds at) → IfBad {Answer = ℕ} (Err stop) Told → IfBad {Answer = ℕ} (Err stop) Holds
bad_so (Bad at) Told Holds so told = so at told
bad_so NoMemory Told Holds so told = tt

-- what is no row leads from a row as from behind a table
pub rows_end : (line : Line) → ((row : List RowValue) → line ≢ says.Row row) → step Rows line ≡ step Results line
rows_end (says.Row row) apart = absurd (apart row refl)
rows_end line apart = refl

pub named_ends : (line : Line) → ((row : List RowValue) → line ≢ says.Row row) → step Named line ≡ None
named_ends (says.Row row) apart = absurd (apart row refl)
named_ends line apart = refl

-- where a table's rows stand, of which these were read
abbrev pub rows_place : List (List RowValue) → Place
rows_place [] = Named
rows_place (row ∷ rows) = Rows

pub bad_of : {Here : Type 0} (r : Result Here ReadStop) (Told Holds : ℕ → Type 0) → ((at : ℕ) → Told at → Holds at) → IfBad r Told → IfBad r Holds
bad_of (Ok answer) Told Holds so told = tt
bad_of (Err (Bad at)) Told Holds so told = so at told
bad_of (Err NoMemory) Told Holds so told = tt

-- what a call told of where it stopped is passed on
pub passed : {There : Type 0} (r : Result There ReadStop) (stop : ReadStop) (Told Holds : ℕ → Type 0) → IsErr r × IsErrAnd r (λ e. e ≡ stop) → ((at : ℕ) → Told at → Holds at) → IfBad {Answer = ℕ} (Err stop) Told → IfBad r Holds
passed (Ok answer) stop Told Holds is so told = absurd is.1
passed {There} (Err e) stop Told Holds is so told = subst (λ (s : ReadStop). IfBad {Answer = There} (Err s) Holds) (sym is.1) (bad_so stop Told Holds so told)

-- a row of a table leads to its rows
pub after_row : (rows : List (List RowValue)) (line : Line) (row : List RowValue) (rest : List ℕ) (number at : ℕ) → line ≡ says.Row row → Stops Rows rest (number + 1) at → StopsAfter (step (rows_place rows) line) rest number at
after_row [] line row rest number at is stop = subst (λ (l : Line). StopsAfter (step Named l) rest number at) (sym is) stop
after_row (r ∷ rows) line row rest number at is stop = subst (λ (l : Line). StopsAfter (step Rows l) rest number at) (sym is) stop

pub pushed_place : (old new : List (List RowValue)) (row : List RowValue) → new ≡ old ++ row ∷ [] → rows_place new ≡ Rows
pushed_place [] new row is = ap rows_place is
pushed_place (r ∷ old) new row is = ap rows_place is

pub some_place : (rows : List (List RowValue)) → rows ≢ [] → rows_place rows ≡ Rows
some_place [] some = absurd (some refl)
some_place (r ∷ rows) some = refl

-- a row that is due leads to those that are due behind it
pub after_due : (due more : ℕ) (line : Line) (row : List RowValue) (rest : List ℕ) (number at : ℕ) → due ≡ suc more → line ≡ says.Row row → Stops (Journal more) rest (number + 1) at → StopsAfter (step (Journal due) line) rest number at
after_due due more line row rest number at size is stop =
    subst (λ (d : ℕ). StopsAfter (step (Journal d) line) rest number at) (sym size) (subst (λ (l : Line). StopsAfter (step (Journal (suc more)) l) rest number at) (sym is) stop)

pub due_stops : (due more : ℕ) (line : Line) → due ≡ suc more → ((row : List RowValue) → line ≢ says.Row row) → step (Journal due) line ≡ None
due_stops due more line size apart = ap (λ (d : ℕ). step (Journal d) line) size ∙ by_line line apart
  where
    by_line : (l : Line) → ((row : List RowValue) → l ≢ says.Row row) → step (Journal (suc more)) l ≡ None
    by_line (says.Row row) none = absurd (none row refl)
    by_line l none = refl

-- where a state is the same, so is where a reader stops
pub along : (a b : Option Place) (rest : List ℕ) (number at : ℕ) → a ≡ b → StopsAfter b rest number at → StopsAfter a rest number at
along a b rest number at same stop = subst (λ (o : Option Place). StopsAfter o rest number at) (sym same) stop

pub tables_end : (line : Line) → ((name : List ℕ) → line ≢ says.Table name) → step Results line ≡ step Counters line
tables_end (says.Table name) apart = absurd (apart name refl)
tables_end line apart = refl

pub lost_end : (line : Line) → ((lost : LostReport) → line ≢ says.Lost lost) → step Counters line ≡ step Phases line
lost_end (says.Lost lost) apart = absurd (apart lost refl)
lost_end line apart = refl

pub journal_end : (line : Line) → ((e : Entry) → line ≢ says.Entry e) → step (Journal 0) line ≡ step Blocks line
journal_end (says.Entry e) apart = absurd (apart e refl)
journal_end line apart = refl

pub start_wrong : (line : Line) → ((format : ℕ) → line ≢ says.Head format) → step Start line ≡ None
start_wrong (says.Head format) apart = absurd (apart format refl)
start_wrong line apart = refl

pub pushed_length : (old new : List (List RowValue)) (row : List RowValue) (count : ℕ) → new ≡ old ++ row ∷ [] → length old ≡ count → length new ≡ count + 1
pushed_length old new row count is size =
    let sum = length-append old (row ∷ []) in
    let long = ap length is in
    omega (arith, sum, long, size)
