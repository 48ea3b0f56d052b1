-- A reader of a report's lines stops at the first line with which no report begins.
use Rattle.std.proofs.Common.{ℕ, zero, suc, ◌≡◌, ◌≢◌, ◌+◌, ◌-◌, ◌^◌, ◌<◌, ◌≤◌, Bool, true, false, eqb, List, [], ◌∷◌, ◌++◌, length, Option, Some, None, append_assoc, append-nil, length-append, sym, ap, subst, ◌∙◌, refl, arith}
use Rattle.std.specs.Prelude.{not, ◌&&◌, if◌then◌else◌}
use Rattle.std.specs.List.{All}
use Rattle.std.proofs.lemmas.Bool.Decides.{Decides-eqb}
use Rattle.std.proofs.lemmas.List.Elements.{All-head, All-tail, All-nil, All-cons, All-append}
use Rattle.std.proofs.lemmas.Bool.{and_parts, not-true}
use Rattle.pfs_event.specs.declared.entry.Entry.{Entry}
use Rattle.pfs_event.specs.declared.entry.Entry.TheVariants as entry
use Rattle.pfs_journal.specs.declared.line.Line.{Line}
use Rattle.pfs_journal.specs.declared.line.Line.TheVariants as says
use Rattle.pfs_journal.specs.declared.report.ReportParts.{ReportParts}
use Rattle.pfs_journal.specs.FirstWrongLine.{whole_lines, first_lines, Begins, IsFirstWrong}
use Rattle.pfs_journal.specs.SingleLines.{line_text, IsLine, IsGoodLine}
use Rattle.pfs_journal.specs.ReportPlaces.{Place, Start, Phases, Blocks, Journal, Results, Named, Rows, Counters, Ended, step, run, Stops}
use Rattle.pfs_journal.specs.ReportLines.{report_lines, FitsReport}
use Rattle.pfs_journal.specs.Reports.{IsReport, IsValue}
use Rattle.pfs_journal.specs.Spelling.{spelling}
use Rattle.pfs_journal.specs.LineWords.{FitsField, FitsValue, FitsLine, entry_word, line_word, line_rest}
use Rattle.pfs_journal.proofs.LineReports.{report_made}
use Rattle.pfs_journal.proofs.LastLines.{no_feed}
use Rattle.pfs_journal.proofs.LineFeeds.{feedless}
use Rattle.pfs_journal.proofs.OneLine.{line_body, front_told, one_line}
use Rattle.pfs_journal.proofs.ReportRuns.{texts, texts_append, report_can, report_run, spelled}
use Rattle.pfs_journal.proofs.ReaderStops.{some_feed, line_some}

-- lines with which a report ends, from a place on
rows_closing : ℕ → List Line
rows_closing zero = says.Final ∷ says.End ∷ []
rows_closing (suc due) = says.Row [] ∷ rows_closing due

closing : Place → List Line
closing Start = says.Head 1 ∷ says.End ∷ []
closing Phases = says.End ∷ []
closing Blocks = says.Final ∷ says.End ∷ []
closing (Journal due) = rows_closing due
closing Results = says.End ∷ []
closing Named = says.Row [] ∷ says.End ∷ []
closing Rows = says.End ∷ []
closing Counters = says.End ∷ []
closing Ended = []

rows_closed : (due : ℕ) → run (Some (Journal due)) (rows_closing due) ≡ Some Ended
unfolding rows_closing
rows_closed zero = refl
rows_closed (suc due) = rows_closed due

closed : (place : Place) → run (Some place) (closing place) ≡ Some Ended
unfolding closing
closed (Journal due) = rows_closed due
closed place = refl

one_good : (line : Line) (lines : List Line) → IsLine line → FitsLine line → All IsGoodLine lines → All IsGoodLine (line ∷ lines)
one_good line lines can fits good = All-cons IsGoodLine line lines (record { can = can; fits = fits }) good

end_good : All IsGoodLine (says.End ∷ [])
end_good = one_good says.End [] tt (All-nil FitsField) (All-nil IsGoodLine)

final_good : All IsGoodLine (says.Final ∷ says.End ∷ [])
final_good = one_good says.Final (says.End ∷ []) tt (All-nil FitsField) end_good

empty_row : (lines : List Line) → All IsGoodLine lines → All IsGoodLine (says.Row [] ∷ lines)
empty_row lines good = one_good (says.Row []) lines (All-nil IsValue) (All-nil FitsValue) good

rows_good : (due : ℕ) → All IsGoodLine (rows_closing due)
unfolding rows_closing
rows_good zero = final_good
rows_good (suc due) = empty_row (rows_closing due) (rows_good due)

closing_good : (place : Place) → All IsGoodLine (closing place)
unfolding closing
closing_good Start = one_good (says.Head 1) (says.End ∷ []) refl (All-cons FitsField (Some 1) [] (omega arith) (All-nil FitsField)) end_good
closing_good Phases = end_good
closing_good Blocks = final_good
closing_good (Journal due) = rows_good due
closing_good Results = end_good
closing_good Named = empty_row (says.End ∷ []) end_good
closing_good Rows = end_good
closing_good Counters = end_good
closing_good Ended = All-nil IsGoodLine

run_none : (lines : List Line) → run None lines ≡ None
run_none [] = refl
run_none (line ∷ lines) = refl

run_append : (a b : List Line) (state : Option Place) → run state (a ++ b) ≡ run (run state a) b
run_append [] b state = refl
run_append (line ∷ a) b None = sym (run_none b)
run_append (line ∷ a) b (Some place) = run_append a b (step place line)

-- lines that run from the first place begin a report
begin_by : (lines : List Line) (there : Place) → All IsGoodLine lines → run (Some Start) lines ≡ Some there → Begins (texts lines)
begin_by lines there good ran =
    let end = closing there in
    let all = All-append IsGoodLine lines end good (closing_good there) in
    let made = report_made (lines ++ end) (λ k d inside. (all k d inside).can) (run_append lines end (Some Start) ∙ (ap (λ (s : Option Place). run s end) ran ∙ closed there)) in
    record {
      report = made.report;
      good = made.good;
      fits = subst (λ (ls : List Line). All FitsLine ls) (sym made.same) (λ k d inside. (all k d inside).fits);
      more = texts end;
      same = spelled made.report ∙ (ap texts made.same ∙ texts_append lines end);
    }

-- the lines of a text that begins with the texts of these are these and more
record Decoded (lines all : List Line) (rest : List ℕ) : Type 0 where
  more : List Line
  split : all ≡ lines ++ more
  rest_is : texts more ≡ rest
  good : All IsGoodLine more

decode : (lines all : List Line) (rest : List ℕ) → All IsGoodLine lines → All IsGoodLine all → texts all ≡ texts lines ++ rest → Decoded lines all rest
decode [] all rest p q e = record { more = all; split = refl; rest_is = e; good = q }
decode (l ∷ lines) [] rest p q e = absurd (line_some l (texts lines ++ rest) (sym (e ∙ append_assoc (line_text l) (texts lines) rest)))
decode (l ∷ lines) (k ∷ all) rest p q e =
    let told = one_line k l (texts all) (texts lines ++ rest) (All-head IsGoodLine k all q) (All-head IsGoodLine l lines p) (e ∙ append_assoc (line_text l) (texts lines) rest) in
    let found = decode lines all rest (All-tail IsGoodLine l lines p) (All-tail IsGoodLine k all q) told.1 in
    record {
      more = found.more;
      split = ap (λ (z : Line). z ∷ all) told.0 ∙ ap (λ (zs : List Line). l ∷ zs) found.split;
      rest_is = found.rest_is;
      good = found.good;
    }

good_lines : (report : ReportParts) → IsReport report → FitsReport report → All IsGoodLine (report_lines report)
good_lines report good fits = λ k d inside. record { can = report_can report good k d inside; fits = fits k d inside }

no_such : {X : Type 0} (x : X) → None ≡ Some x → ⊥
no_such x e = absurd (cc)

-- a line that may not stand here leads nowhere
stuck_ends : (there : Place) (line : Line) (lines : List Line) → step there line ≡ None → run (Some there) (line ∷ lines) ≡ Some Ended → ⊥
stuck_ends there line lines stuck ends = no_such Ended (sym (ap (λ (o : Option Place). run o lines) stuck ∙ run_none lines) ∙ ends)

-- a line feed stands in a text: what is in front of the first one, and what behind it
record Split (bytes : List ℕ) : Type 0 where
  body : List ℕ
  tail : List ℕ
  clean : no_feed body ≡ true
  same : bytes ≡ body ++ 10 ∷ tail

split_by : (b : ℕ) (bytes : List ℕ) (v : Bool) → eqb b 10 ≡ v → 1 ≤ (if v then suc (whole_lines bytes) else whole_lines bytes) → (1 ≤ whole_lines bytes → Split bytes) → Split (b ∷ bytes)
unfolding no_feed
split_by b bytes true e some more = record { body = []; tail = bytes; clean = refl; same = ap (λ (k : ℕ). k ∷ bytes) ((Decides-eqb b 10).0 e) }
split_by b bytes false e some more =
    let rest = more some in
    record { body = b ∷ rest.body; tail = rest.tail; clean = ap (λ (v : Bool). not v && no_feed rest.body) e ∙ rest.clean; same = ap (λ (z : List ℕ). b ∷ z) rest.same }

split : (bytes : List ℕ) → 1 ≤ whole_lines bytes → Split bytes
split [] some = absurd (omega (arith, some))
split (b ∷ bytes) some = split_by b bytes (eqb b 10) refl some (split bytes)

first_body : (n : ℕ) (body more : List ℕ) → no_feed body ≡ true → first_lines (suc n) (body ++ 10 ∷ more) ≡ body ++ 10 ∷ first_lines n more
unfolding no_feed
first_body n [] more clean = refl
first_body n (b ∷ body) more clean =
    let both = and_parts (not (eqb b 10)) (no_feed body) clean in
    ap (λ (v : Bool). b ∷ first_lines (if v then n else suc n) (body ++ 10 ∷ more)) (not-true (eqb b 10) both.0)
    ∙ ap (λ (z : List ℕ). b ∷ z) (first_body n body more both.1)

whole_body : (body more : List ℕ) → no_feed body ≡ true → whole_lines (body ++ 10 ∷ more) ≡ suc (whole_lines more)
unfolding no_feed
whole_body [] more clean = refl
whole_body (b ∷ body) more clean =
    let both = and_parts (not (eqb b 10)) (no_feed body) clean in
    ap (λ (v : Bool). if v then suc (whole_lines (body ++ 10 ∷ more)) else whole_lines (body ++ 10 ∷ more)) (not-true (eqb b 10) both.0)
    ∙ whole_body body more both.1

line_apart : (line : Line) (lines : List Line) (rest : List ℕ) → texts (line ∷ lines) ++ rest ≡ (line_word line ++ line_rest line) ++ 10 ∷ (texts lines ++ rest)
line_apart line lines rest = append_assoc (line_text line) (texts lines) rest ∙ line_body line (texts lines ++ rest)

first_texts : (lines : List Line) (n : ℕ) (rest : List ℕ) → All IsGoodLine lines → first_lines (length lines + n) (texts lines ++ rest) ≡ texts lines ++ first_lines n rest
first_texts [] n rest good = ap (λ (k : ℕ). first_lines k rest) zero_more
  where
    zero_more : 0 + n ≡ n
    zero_more = omega arith
first_texts (line ∷ lines) n rest good =
    let body = line_word line ++ line_rest line in
    let one : length (line ∷ lines) + n ≡ suc (length lines + n) = omega arith in
    ap (λ (k : ℕ). first_lines k (texts (line ∷ lines) ++ rest)) one
    ∙ (ap (first_lines (suc (length lines + n))) (line_apart line lines rest)
    ∙ (first_body (length lines + n) body (texts lines ++ rest) (feedless line (All-head IsGoodLine line lines good).can)
    ∙ (ap (λ (z : List ℕ). body ++ 10 ∷ z) (first_texts lines n rest (All-tail IsGoodLine line lines good))
    ∙ sym (line_apart line lines (first_lines n rest)))))

whole_texts : (lines : List Line) (rest : List ℕ) → All IsGoodLine lines → whole_lines (texts lines ++ rest) ≡ length lines + whole_lines rest
whole_texts [] rest good = zero_more (whole_lines rest)
  where
    zero_more : (n : ℕ) → n ≡ 0 + n
    zero_more n = omega arith
whole_texts (line ∷ lines) rest good =
    let here = ap whole_lines (line_apart line lines rest) ∙ whole_body (line_word line ++ line_rest line) (texts lines ++ rest) (feedless line (All-head IsGoodLine line lines good).can) in
    let more = whole_texts lines rest (All-tail IsGoodLine line lines good) in
    here ∙ add_suc (whole_lines (texts lines ++ rest)) (length lines) (whole_lines rest) more
  where
    add_suc : (w k r : ℕ) → w ≡ k + r → suc w ≡ suc k + r
    add_suc w k r e = omega (arith, e)

entry_some : (e : Entry) → 1 ≤ length (entry_word e)
entry_some entry.Settle = omega arith
entry_some e = omega arith

word_some : (line : Line) → 1 ≤ length (line_word line)
word_some (says.Entry e) = entry_some e
word_some line = omega arith

-- lines have two bytes at least
sizes : (lines : List Line) → length lines + length lines ≤ length (texts lines)
sizes [] = omega arith
sizes (line ∷ lines) =
    let body = ap length (append_whole line lines) in
    let outer = length-append (line_word line ++ line_rest line) (10 ∷ texts lines) in
    let inner = length-append (line_word line) (line_rest line) in
    let some = word_some line in
    let more = sizes lines in
    omega (arith, body, outer, inner, some, more)
  where
    append_whole : (line : Line) (lines : List Line) → texts (line ∷ lines) ≡ (line_word line ++ line_rest line) ++ 10 ∷ texts lines
    append_whole line lines = line_body line (texts lines)

-- reports of the same text have the same lines
pub same_lines : (a b : ReportParts) → IsReport a → IsReport b → FitsReport a → FitsReport b → texts (report_lines a) ≡ texts (report_lines b) → report_lines a ≡ report_lines b
same_lines a b good_a good_b fits_a fits_b e =
    let found = decode (report_lines a) (report_lines b) [] (good_lines a good_a fits_a) (good_lines b good_b fits_b) (sym e ∙ sym (append-nil (texts (report_lines a)))) in
    sym (found.split ∙ (ap (λ (z : List Line). report_lines a ++ z) (none found.more found.rest_is) ∙ append-nil (report_lines a)))
  where
    none : (lines : List Line) → texts lines ≡ [] → lines ≡ []
    none [] e = refl
    none (line ∷ lines) e = absurd (line_some line (texts lines) e)

module _ (bytes : List ℕ) (number at : ℕ) (s : Stops Start bytes number at) where
  -- what a report has behind the lines that were read
  record Behind (rest : List ℕ) : Type 0 where
    lines : List Line
    text : texts lines ≡ rest
    good : All IsGoodLine lines
    ends : run (Some s.there) lines ≡ Some Ended

  behind_lines : (report : ReportParts) (rest : List ℕ) → IsReport report → FitsReport report → spelling report ≡ texts s.lines ++ rest → Behind rest
  behind_lines report rest good fits e =
      let all = report_lines report in
      let found = decode s.lines all rest s.good (good_lines report good fits) (sym (spelled report) ∙ e) in
      record {
        lines = found.more;
        text = found.rest_is;
        good = found.good;
        ends = ap (λ (o : Option Place). run o found.more) (sym s.ran) ∙ (sym (run_append s.lines found.more (Some Start)) ∙ (ap (run (Some Start)) (sym found.split) ∙ report_run report good));
      }

  -- the lines in front, as they stand in the bytes
  front_is : first_lines (length s.lines) bytes ≡ texts s.lines
  front_is =
      let none : length s.lines ≡ length s.lines + 0 = omega arith in
      ap (λ (k : ℕ). first_lines k bytes) none
      ∙ (ap (first_lines (length s.lines + 0)) s.text
      ∙ (first_texts s.lines 0 s.behind s.good
      ∙ append-nil (texts s.lines)))

  begins : Begins (first_lines (length s.lines) bytes)
  begins = subst (λ (z : List ℕ). Begins z) (sym front_is) (begin_by s.lines s.there s.good s.ran)

  whole_is : whole_lines bytes ≡ length s.lines + whole_lines s.behind
  whole_is = ap whole_lines s.text ∙ whole_texts s.lines s.behind s.good

  no_more : (rest : List ℕ) → Behind rest → ((line : Line) (lines : List Line) → IsGoodLine line → texts (line ∷ lines) ≡ rest → step s.there line ≡ None) → (rest ≡ []) × (s.there ≡ Ended)
  no_more rest b stuck = by_lines b.lines b.text b.good b.ends
    where
      by_lines : (lines : List Line) → texts lines ≡ rest → All IsGoodLine lines → run (Some s.there) lines ≡ Some Ended → (rest ≡ []) × (s.there ≡ Ended)
      by_lines [] text good ends = (sym text, cc ends)
      by_lines (line ∷ lines) text good ends = absurd (stuck_ends s.there line lines (stuck line lines (All-head IsGoodLine line lines good) text) ends)

  -- the bytes are no report
  no_report : (report : ReportParts) → IsReport report → FitsReport report → bytes ≢ spelling report
  no_report report good fits e =
      let none = no_more s.behind (behind_lines report s.behind good fits (sym e ∙ s.text)) (λ line lines fine text. s.stuck line (texts lines) fine (sym text)) in
      s.unfinished none.1 none.0

  -- no report begins with one whole line more
  no_begin : 1 ≤ whole_lines s.behind → ¬ Begins (first_lines (length s.lines + 1) bytes)
  no_begin some b =
      let here = split s.behind some in
      let line = here.body ++ 10 ∷ [] in
      let first : first_lines 1 s.behind ≡ line = ap (first_lines 1) here.same ∙ first_body 0 here.body here.tail here.clean in
      let front : first_lines (length s.lines + 1) bytes ≡ texts s.lines ++ line = ap (first_lines (length s.lines + 1)) s.text ∙ (first_texts s.lines 1 s.behind s.good ∙ ap (λ (z : List ℕ). texts s.lines ++ z) first) in
      let rest = here.body ++ 10 ∷ b.more in
      let text : spelling b.report ≡ texts s.lines ++ rest = b.same ∙ (ap (λ (z : List ℕ). z ++ b.more) front ∙ (append_assoc (texts s.lines) line b.more ∙ ap (λ (z : List ℕ). texts s.lines ++ z) (append_assoc here.body (10 ∷ []) b.more))) in
      let none = no_more rest (behind_lines b.report rest b.good b.fits text) (λ next lines fine same.
      let told = front_told next (texts lines) here.body b.more fine here.clean same in
      s.stuck next here.tail fine (here.same ∙ (ap (λ (z : List ℕ). z ++ 10 ∷ here.tail) (sym told.0) ∙ sym (line_body next here.tail)))) in
      some_feed here.body b.more none.0

-- a reader that stops from the first place on stops at the first wrong line
pub first_wrong : (bytes : List ℕ) (at : ℕ) → length bytes < 2 ^ 64 → Stops Start bytes 1 at → IsFirstWrong bytes at
first_wrong bytes at fits s =
    let many = sizes s.lines in
    let long = ap length s.text in
    let sum = length-append (texts s.lines) s.behind in
    let is : at ≡ length s.lines + 1 = omega (arith, s.counted, many, long, sum, fits) in
    let one : at - 1 ≡ length s.lines = omega (arith, is) in
    let whole = whole_is bytes 1 at s in
    record {
      positive = omega (arith, is);
      there = omega (arith, is, whole);
      begins = subst (λ (k : ℕ). Begins (first_lines k bytes)) (sym one) (begins bytes 1 at s);
      ends = λ inside. subst (λ (k : ℕ). ¬ Begins (first_lines k bytes)) (sym is) (no_begin bytes 1 at s (omega (arith, inside, whole, is)));
      no_report = no_report bytes 1 at s;
    }

abbrev IsMore : List ℕ → ℕ → ℕ → Type 0
IsMore bytes a b = (tail : List ℕ) × (first_lines b bytes ≡ first_lines a bytes ++ tail)

front_by : (x : ℕ) (bytes : List ℕ) (a b : ℕ) (v : Bool) → IsMore bytes a b → IsMore bytes (suc a) (suc b) → (tail : List ℕ) × (x ∷ first_lines (if v then b else suc b) bytes ≡ (x ∷ first_lines (if v then a else suc a) bytes) ++ tail)
front_by x bytes a b true ended more = (ended.0, ap (λ (z : List ℕ). x ∷ z) ended.1)
front_by x bytes a b false ended more = (more.0, ap (λ (z : List ℕ). x ∷ z) more.1)

-- the first so many lines are a front of the first more
front_more : (bytes : List ℕ) (a b : ℕ) → a ≤ b → (tail : List ℕ) × (first_lines b bytes ≡ first_lines a bytes ++ tail)
front_more bytes zero b less = (first_lines b bytes, refl)
front_more bytes (suc a) zero less = absurd (omega (arith, less))
front_more [] (suc a) (suc b) less = ([], refl)
front_more (x ∷ bytes) (suc a) (suc b) less = front_by x bytes a b (eqb x 10) (front_more bytes a b (omega (arith, less))) (front_more bytes (suc a) (suc b) less)

-- what begins a report with more lines begins it with fewer
fewer_begin : (bytes : List ℕ) (a b : ℕ) → a ≤ b → Begins (first_lines b bytes) → Begins (first_lines a bytes)
fewer_begin bytes a b less g =
    let more = front_more bytes a b less in
    record {
      report = g.report;
      good = g.good;
      fits = g.fits;
      more = more.0 ++ g.more;
      same = g.same ∙ (ap (λ (z : List ℕ). z ++ g.more) more.1 ∙ append_assoc (first_lines a bytes) more.0 g.more);
    }

not_below : (bytes : List ℕ) (a b : ℕ) → IsFirstWrong bytes a → IsFirstWrong bytes b → ¬ (a < b)
not_below bytes a b p q less =
    p.ends (omega (arith, q.there, less)) (fewer_begin bytes a (b - 1) (omega (arith, less)) q.begins)

pub one_wrong : (bytes : List ℕ) (a b : ℕ) → IsFirstWrong bytes a → IsFirstWrong bytes b → a ≡ b
one_wrong bytes a b p q =
    let above = not_below bytes a b p q in
    let below = not_below bytes b a q p in
    omega (arith, above, below)
