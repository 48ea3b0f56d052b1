-- No report that is cut begins with the lines up to the one at which a cut stops.
use Rattle.std.proofs.Common.{◌≡◌, refl, ℕ, zero, suc, ◌+◌, ◌-◌, ◌<◌, ◌≤◌, ◌⊎◌, inl, inr, Bool, true, false, List, [], ◌∷◌, ◌++◌, length, map, take, sym, ◌∙◌, ap, subst, arith, append_assoc, eqb-true}
use Rattle.std.specs.Prelude.{◌==◌, Result, Ok, Err, if◌then◌else◌}
use Rattle.std.specs.List.{flat_map}
use Rattle.std.proofs.lemmas.Bool.{eqb-false}
use Rattle.std.proofs.lemmas.List.{length-append}
use Rattle.pfs_event.specs.declared.entry.Entry.{Entry}
use Rattle.pfs_journal.specs.ReportLines.{block_lines, journal_lines, phase_lines, report_lines, table_lines}
use Rattle.pfs_journal.specs.declared.line.Line.{Line}
use Rattle.pfs_journal.specs.declared.line.Line.TheVariants as says
use Rattle.pfs_journal.specs.declared.blocks.BlockReport.{BlockReport}
use Rattle.pfs_journal.specs.declared.report.PhaseParts.{PhaseParts}
use Rattle.pfs_journal.specs.declared.report.ReportParts.{ReportParts}
use Rattle.pfs_model.specs.Contexts.{fresh}
use Rattle.pfs_model.specs.Cuts.{front}
use Rattle.pfs_model.specs.EntryPlaces.{Block, told_by}
use Rattle.pfs_model.proofs.ClosedShapes.{exact}
use Rattle.pfs_model.specs.JournalCuts.{IsJournal, IsMisfit, Misfits, parts_of}
use Rattle.pfs_runs.specs.ScriptLines.{lines_in}
use Rattle.pfs_script.specs.declared.blocks.Block.{Block as Said}
use Rattle.pfs_script.specs.declared.blocks.Phase.{Phase}
use Rattle.pfs_check_faults.specs.ShapeFaults.{CutLaw, IsCut, block_of, blocks_cut, line_of_rest, on_blocks, on_parts, phases_cut, report_cut, with_block, with_blocks}
use Rattle.pfs_check_misfits.specs.WrongLines.{WrongLines}
use Rattle.pfs_check_misfits.proofs.JournalLines.{AreAlong, BeginsAlike, IsSplit, along, entries_of, ends_journal, ends_results, follows, front_is, journal_entries, journal_inner, results_inner, split}

-- the lines of a phase behind its blocks
abbrev result_lines : PhaseParts → List Line
result_lines phase = says.Final ∷ (flat_map table_lines phase.tables ++ map says.Lost phase.lost)

-- the parts of a report's journal, by what the session's earlier blocks tell
abbrev parts_in : List Block → Said → BlockReport → Result (List (List Entry)) (List Entry)
parts_in earlier said report = parts_of (told_by said.session fresh earlier) (lines_in said) report.entries

-- a first block that is cut
record IsTaken (earlier : List Block) (phase line : ℕ) (said : Said) (saids : List Said) (report : BlockReport) (reports : List BlockReport) (blocks : List Block) : Type 0 where
  session : report.session ≡ said.session
  parts : List (List Entry)
  cut : parts_in earlier said report ≡ Ok parts
  rest : List Block
  goes : blocks_cut (earlier ++ block_of phase said parts ∷ []) phase (line + length (block_lines report)) saids reports ≡ Ok rest
  is : blocks ≡ block_of phase said parts ∷ rest

taken : (earlier : List Block) (phase line : ℕ) (said : Said) (saids : List Said) (report : BlockReport) (reports : List BlockReport) (blocks : List Block) → blocks_cut earlier phase line (said ∷ saids) (report ∷ reports) ≡ Ok blocks → IsTaken earlier phase line said saids report reports blocks
unfolding blocks_cut
taken earlier phase line said saids report reports blocks e = at (report.session == said.session) refl (parts_in earlier said report) refl e where
  more : (parts : List (List Entry)) → report.session ≡ said.session → parts_in earlier said report ≡ Ok parts
      → (r : Result (List Block) ℕ) → blocks_cut (earlier ++ block_of phase said parts ∷ []) phase (line + length (block_lines report)) saids reports ≡ r
      → with_block (block_of phase said parts) r ≡ Ok blocks → IsTaken earlier phase line said saids report reports blocks
  more parts s c (Ok rest) g e = record { session = s; parts = parts; cut = c; rest = rest; goes = g; is = let same : (block_of phase said parts ∷ rest) ≡ blocks = cc in sym same }
  more parts s c (Err n) g e = absurd (cc)

  at : (b : Bool) → (report.session == said.session) ≡ b → (r : Result (List (List Entry)) (List Entry)) → parts_in earlier said report ≡ r
      → (if b then on_parts line report (λ parts. with_block (block_of phase said parts)
      (blocks_cut (earlier ++ block_of phase said parts ∷ []) phase (line + length (block_lines report)) saids reports)) r else Err line) ≡ Ok blocks
      → IsTaken earlier phase line said saids report reports blocks
  at false s r c e = absurd (cc)
  at true s (Err rest) c e = absurd (cc)
  at true s (Ok parts) c e = more parts (eqb-true report.session said.session s) c _ refl e

-- or at which the cut stops: its own line, one of its journal, or a later one
record StopsWithin (earlier : List Block) (line : ℕ) (said : Said) (report : BlockReport) (at : ℕ) : Type 0 where
  session : report.session ≡ said.session
  rest : List Entry
  misfit : parts_in earlier said report ≡ Err rest
  is : at ≡ line_of_rest line report rest

record StopsLater (earlier : List Block) (phase line : ℕ) (said : Said) (saids : List Said) (report : BlockReport) (reports : List BlockReport) (at : ℕ) : Type 0 where
  session : report.session ≡ said.session
  parts : List (List Entry)
  cut : parts_in earlier said report ≡ Ok parts
  goes : blocks_cut (earlier ++ block_of phase said parts ∷ []) phase (line + length (block_lines report)) saids reports ≡ Err at

abbrev StopsAt : List Block → ℕ → ℕ → Said → List Said → BlockReport → List BlockReport → ℕ → Type 0
StopsAt earlier phase line said saids report reports at =
    ((report.session ≡ said.session → ⊥) × (at ≡ line))
    ⊎ (StopsWithin earlier line said report at ⊎ StopsLater earlier phase line said saids report reports at)

stops : (earlier : List Block) (phase line : ℕ) (said : Said) (saids : List Said) (report : BlockReport) (reports : List BlockReport) (n : ℕ) → blocks_cut earlier phase line (said ∷ saids) (report ∷ reports) ≡ Err n → StopsAt earlier phase line said saids report reports n
unfolding blocks_cut
stops earlier phase line said saids report reports n e = at (report.session == said.session) refl (parts_in earlier said report) refl e where
  more : (parts : List (List Entry)) → report.session ≡ said.session → parts_in earlier said report ≡ Ok parts
      → (r : Result (List Block) ℕ) → blocks_cut (earlier ++ block_of phase said parts ∷ []) phase (line + length (block_lines report)) saids reports ≡ r
      → with_block (block_of phase said parts) r ≡ Err n → StopsAt earlier phase line said saids report reports n
  more parts s c (Ok rest) g e = absurd (cc)
  more parts s c (Err m) g e = inr (inr (record { session = s; parts = parts; cut = c; goes = let same : m ≡ n = cc in g ∙ ap (λ (z : ℕ). Err z) same }))

  at : (b : Bool) → (report.session == said.session) ≡ b → (r : Result (List (List Entry)) (List Entry)) → parts_in earlier said report ≡ r
      → (if b then on_parts line report (λ parts. with_block (block_of phase said parts)
      (blocks_cut (earlier ++ block_of phase said parts ∷ []) phase (line + length (block_lines report)) saids reports)) r else Err line) ≡ Err n
      → StopsAt earlier phase line said saids report reports n
  at false s r c e = inl (eqb-false report.session said.session s, let same : line ≡ n = cc in sym same)
  at true s (Err rest) c e = inr (inl (record { session = eqb-true report.session said.session s; rest = rest; misfit = c; is = let same : line_of_rest line report rest ≡ n = cc in sym same }))
  at true s (Ok parts) c e = more parts (eqb-true report.session said.session s) c _ refl e

-- the line of a misfit stands in its block, or right behind it
misfit_within : (line : ℕ) (report : BlockReport) (before rest : List Entry) → report.entries ≡ before ++ rest → line_of_rest line report rest ≤ line + length (block_lines report)
misfit_within line report before rest e =
    let parts : IsSplit before rest report.answers = split before rest report.answers in
    let all = ap (λ (z : List Entry). length (journal_lines z report.answers)) e in
    let both = ap length parts.is in
    let own = ap (λ (z : List Entry). length (journal_lines (front z rest) report.answers)) e in
    let first = ap (λ (z : List Entry). length (journal_lines z report.answers)) (front_is before rest) in
    omega (arith, all, both, own, first, length-append (journal_lines before report.answers) (journal_lines rest parts.left))

-- the line at which blocks stop is one of theirs, or the one behind them
record AreBounds (low high at : ℕ) : Type 0 where
  least : low ≤ at
  most : at ≤ high

blocks_bounds : Misfits → (earlier : List Block) (phase line : ℕ) (saids : List Said) (reports : List BlockReport) (n : ℕ) → blocks_cut earlier phase line saids reports ≡ Err n → AreBounds line (line + length (flat_map block_lines reports)) n
unfolding blocks_cut
blocks_bounds misfits earlier phase line [] [] n e = absurd (cc)
blocks_bounds misfits earlier phase line [] (report ∷ reports) n e = let same : line ≡ n = cc in record { least = omega arith; most = omega arith }
blocks_bounds misfits earlier phase line (said ∷ saids) [] n e = let same : line ≡ n = cc in record { least = omega arith; most = omega arith }
blocks_bounds misfits earlier phase line (said ∷ saids) (report ∷ reports) n e =
    at (stops earlier phase line said saids report reports n e) (λ parts g. blocks_bounds misfits (earlier ++ block_of phase said parts ∷ []) phase (line + length (block_lines report)) saids reports n g) where
      at : StopsAt earlier phase line said saids report reports n
          → ((parts : List (List Entry)) → blocks_cut (earlier ++ block_of phase said parts ∷ []) phase (line + length (block_lines report)) saids reports ≡ Err n
          → AreBounds (line + length (block_lines report)) (line + length (block_lines report) + length (flat_map block_lines reports)) n)
          → AreBounds line (line + length (flat_map block_lines (report ∷ reports))) n
      at (inl w) go = record { least = omega (arith, w.1); most = omega (arith, w.1) }
      at (inr (inl w)) go =
          let misfit : IsMisfit (told_by said.session fresh earlier) (lines_in said) report.entries w.rest = misfits (told_by said.session fresh earlier) (lines_in said) report.entries w.rest w.misfit in
          let within = misfit_within line report misfit.before w.rest misfit.is in
          record { least = omega (arith, w.is); most = omega (arith, w.is, within, length-append (block_lines report) (flat_map block_lines reports)) }
      at (inr (inr w)) go =
          let more : AreBounds (line + length (block_lines report)) (line + length (block_lines report) + length (flat_map block_lines reports)) n = go w.parts w.goes in
          record { least = omega (arith, more.least); most = omega (arith, more.most, length-append (block_lines report) (flat_map block_lines reports)) }

-- behind a block's lines stands another block, or the results
record Begins (lines : List Line) : Type 0 where
  first : Line
  others : List Line
  is : lines ≡ first ∷ others
  ends : ends_journal first ≡ true

behind_block : (reports : List BlockReport) (tail : List Line) → Begins (flat_map block_lines reports ++ says.Final ∷ tail)
behind_block [] tail = record { first = says.Final; others = tail; is = refl; ends = refl }
behind_block (report ∷ reports) tail = record {
  first = says.Session report.session;
  others = (journal_lines report.entries report.answers ++ flat_map block_lines reports) ++ says.Final ∷ tail;
  is = refl;
  ends = refl;
}

first_same : (n : ℕ) (x y : Line) (xs ys : List Line) → take (suc n) (x ∷ xs) ≡ take (suc n) (y ∷ ys) → x ≡ y
first_same n x y xs ys e = cc

rest_same : (n : ℕ) (x y : Line) (xs ys : List Line) → take (suc n) (x ∷ xs) ≡ take (suc n) (y ∷ ys) → take n xs ≡ take n ys
rest_same n x y xs ys e = cc

-- two blocks whose lines begin alike past the end of the first
record AreSame (report other : BlockReport) (n : ℕ) (us vs : List Line) : Type 0 where
  session : report.session ≡ other.session
  entries : report.entries ≡ other.entries
  lengths : length (block_lines report) ≡ length (block_lines other)
  behind : take (n - length (block_lines report)) us ≡ take (n - length (block_lines report)) vs

session_same : (x y : ℕ) → says.Session x ≡ says.Session y → x ≡ y
session_same x y e = cc

same_block : (report other : BlockReport) (n : ℕ) (us vs : List Line) → Begins us → Begins vs → length (block_lines report) < n → take n (block_lines report ++ us) ≡ take n (block_lines other ++ vs) → AreSame report other n us vs
same_block report other zero us vs s t h e = absurd (omega (arith, h))
same_block report other (suc n) us vs s t h e =
    let session = session_same report.session other.session (first_same n (says.Session report.session) (says.Session other.session) _ _ e) in
    let rest = rest_same n (says.Session report.session) (says.Session other.session) (journal_lines report.entries report.answers ++ us) (journal_lines other.entries other.answers ++ vs) e in
    let on : AreAlong (journal_lines report.entries report.answers) (journal_lines other.entries other.answers) n (s.first ∷ s.others) (t.first ∷ t.others) =
    along ends_journal (journal_lines report.entries report.answers) (journal_lines other.entries other.answers) n s.first t.first s.others t.others
    (journal_inner report.entries report.answers) (journal_inner other.entries other.answers) s.ends t.ends (omega (arith, h))
    (sym (ap (λ (z : List Line). take n (journal_lines report.entries report.answers ++ z)) s.is) ∙ rest
    ∙ ap (λ (z : List Line). take n (journal_lines other.entries other.answers ++ z)) t.is) in
    let left : n - length (journal_lines report.entries report.answers) ≡ suc n - length (block_lines report) = omega arith in
    record {
      session = session;
      entries = sym (journal_entries report.entries report.answers) ∙ ap entries_of on.same ∙ journal_entries other.entries other.answers;
      lengths = ap (λ (z : List Line). suc (length z)) on.same;
      behind = subst (λ (m : ℕ). take m us ≡ take m vs) left
          (ap (λ (z : List Line). take (n - length (journal_lines report.entries report.answers)) z) s.is ∙ on.behind
          ∙ sym (ap (λ (z : List Line). take (n - length (journal_lines report.entries report.answers)) z) t.is));
    }

-- a block with a misfit, and another whose lines begin alike up to there
misfit_apart : Misfits → (earlier : List Block) (said : Said) (report other : BlockReport) (line n : ℕ) (rest : List Entry) (parts : List (List Entry)) (us vs : List Line) → Begins us → Begins vs → parts_in earlier said report ≡ Err rest → parts_in earlier said other ≡ Ok parts → line + n ≡ line_of_rest line report rest → take (suc n) (block_lines report ++ us) ≡ take (suc n) (block_lines other ++ vs) → ⊥
misfit_apart misfits earlier said report other line n rest parts us vs s t m o h e =
    let context = told_by said.session fresh earlier in
    let lines = lines_in said in
    let misfit : IsMisfit context lines report.entries rest = misfits context lines report.entries rest m in
    let whole = misfit.before ++ rest in
    let same : front report.entries rest ≡ misfit.before = ap (λ (z : List Entry). front z rest) misfit.is ∙ front_is misfit.before rest in
    let count : n ≡ suc (length (journal_lines misfit.before report.answers)) =
    omega (arith, h, ap (λ (z : List Entry). length (journal_lines z report.answers)) same) in
    let inner : take n (journal_lines report.entries report.answers ++ us) ≡ take n (journal_lines other.entries other.answers ++ vs) =
    rest_same n (says.Session report.session) (says.Session other.session) (journal_lines report.entries report.answers ++ us) (journal_lines other.entries other.answers ++ vs) e in
    let journal : take (suc (length (journal_lines misfit.before report.answers))) (journal_lines whole report.answers ++ s.first ∷ s.others)
    ≡ take (suc (length (journal_lines misfit.before report.answers))) (journal_lines other.entries other.answers ++ t.first ∷ t.others) =
    subst (λ (k : ℕ). take k (journal_lines whole report.answers ++ s.first ∷ s.others) ≡ take k (journal_lines other.entries other.answers ++ t.first ∷ t.others)) count
    (sym (ap (λ (z : List Entry). take n (journal_lines z report.answers ++ s.first ∷ s.others)) misfit.is)
    ∙ sym (ap (λ (z : List Line). take n (journal_lines report.entries report.answers ++ z)) s.is)
    ∙ inner
    ∙ ap (λ (z : List Line). take n (journal_lines other.entries other.answers ++ z)) t.is) in
    let on : BeginsAlike misfit.before rest other.entries =
    follows misfit.before rest other.entries report.answers other.answers s.first t.first s.others t.others s.ends t.ends journal in
    misfit.never on.others parts on.alike
    (subst (λ (z : List Entry). IsJournal context lines z parts) on.is ((exact context lines other.entries parts).0 o))

parts_same : (earlier : List Block) (said : Said) (report other : BlockReport) (parts own : List (List Entry)) → report.entries ≡ other.entries → parts_in earlier said report ≡ Ok parts → parts_in earlier said other ≡ Ok own → own ≡ parts
parts_same earlier said report other parts own e p q =
    let same : ◌≡◌ {A = Result (List (List Entry)) (List Entry)} (Ok own) (Ok parts) =
    sym q ∙ sym (ap (λ (z : List Entry). parts_of (told_by said.session fresh earlier) (lines_in said) z) e) ∙ p in
    cc

-- the lines of blocks, and what stands behind them
blocks_then : (report : BlockReport) (reports : List BlockReport) (tail : List Line) → flat_map block_lines (report ∷ reports) ++ tail ≡ block_lines report ++ (flat_map block_lines reports ++ tail)
blocks_then report reports tail = append_assoc (block_lines report) (flat_map block_lines reports) tail

-- blocks at which a cut stops, and others that are cut and begin alike up to there
blocks_apart : Misfits → (earlier : List Block) (phase line n : ℕ) (saids : List Said) (reports others : List BlockReport) (blocks : List Block) (tail end : List Line) → blocks_cut earlier phase line saids reports ≡ Err (line + n) → blocks_cut earlier phase line saids others ≡ Ok blocks → take (suc n) (flat_map block_lines reports ++ says.Final ∷ tail) ≡ take (suc n) (flat_map block_lines others ++ says.Final ∷ end) → ⊥
unfolding blocks_cut
blocks_apart misfits earlier phase line n [] [] others blocks tail end w o e = absurd (cc)
blocks_apart misfits earlier phase line n [] (report ∷ reports) [] blocks tail end w o e =
    no_final (first_same n (says.Session report.session) says.Final _ end e) where
      no_final : {number : ℕ} → says.Session number ≡ says.Final → ⊥
      no_final h = cc
blocks_apart misfits earlier phase line n [] (report ∷ reports) (other ∷ others) blocks tail end w o e = absurd (cc)
blocks_apart misfits earlier phase line n (said ∷ saids) reports [] blocks tail end w o e = absurd (cc)
blocks_apart misfits earlier phase line n (said ∷ saids) [] (other ∷ others) blocks tail end w o e =
    no_session (first_same n says.Final (says.Session other.session) tail _ e) where
      no_session : {number : ℕ} → says.Final ≡ says.Session number → ⊥
      no_session h = cc
blocks_apart misfits earlier phase line n (said ∷ saids) (report ∷ reports) (other ∷ others) blocks tail end w o e =
    at (stops earlier phase line said saids report reports (line + n) w) (taken earlier phase line said saids other others blocks o)
    (λ parts first m rest g h t. blocks_apart misfits (earlier ++ block_of phase said parts ∷ []) phase first m saids reports others rest tail end g h t) where
      begun : take (suc n) (block_lines report ++ (flat_map block_lines reports ++ says.Final ∷ tail))
          ≡ take (suc n) (block_lines other ++ (flat_map block_lines others ++ says.Final ∷ end))
      begun = sym (ap (λ (z : List Line). take (suc n) z) (blocks_then report reports (says.Final ∷ tail))) ∙ e
          ∙ ap (λ (z : List Line). take (suc n) z) (blocks_then other others (says.Final ∷ end))

      at : StopsAt earlier phase line said saids report reports (line + n) → IsTaken earlier phase line said saids other others blocks
          → ((parts : List (List Entry)) (first m : ℕ) (rest : List Block)
          → blocks_cut (earlier ++ block_of phase said parts ∷ []) phase first saids reports ≡ Err (first + m)
          → blocks_cut (earlier ++ block_of phase said parts ∷ []) phase first saids others ≡ Ok rest
          → take (suc m) (flat_map block_lines reports ++ says.Final ∷ tail) ≡ take (suc m) (flat_map block_lines others ++ says.Final ∷ end) → ⊥) → ⊥
      at (inl s) t go = s.0 (session_same report.session other.session (first_same n (says.Session report.session) (says.Session other.session) _ _ begun) ∙ t.session)
      at (inr (inl s)) t go =
          misfit_apart misfits earlier said report other line n s.rest t.parts (flat_map block_lines reports ++ says.Final ∷ tail) (flat_map block_lines others ++ says.Final ∷ end)
          (behind_block reports tail) (behind_block others end) s.misfit t.cut s.is begun
      at (inr (inr s)) t go =
          let bounds : AreBounds (line + length (block_lines report)) (line + length (block_lines report) + length (flat_map block_lines reports)) (line + n) =
          blocks_bounds misfits (earlier ++ block_of phase said s.parts ∷ []) phase (line + length (block_lines report)) saids reports (line + n) s.goes in
          let same : AreSame report other (suc n) (flat_map block_lines reports ++ says.Final ∷ tail) (flat_map block_lines others ++ says.Final ∷ end) =
          same_block report other (suc n) (flat_map block_lines reports ++ says.Final ∷ tail) (flat_map block_lines others ++ says.Final ∷ end)
          (behind_block reports tail) (behind_block others end) (omega (arith, bounds.least)) begun in
          let parts : t.parts ≡ s.parts = parts_same earlier said report other s.parts t.parts same.entries s.cut t.cut in
          let size = length (block_lines report) in
          let left : suc n - size ≡ suc (n - size) = omega (arith, bounds.least) in
          let place : line + n ≡ (line + size) + (n - size) = omega (arith, bounds.least) in
          go s.parts (line + size) (n - size) t.rest
          (s.goes ∙ ap (λ (z : ℕ). Err z) place)
          (subst (λ (z : ℕ). blocks_cut (earlier ++ block_of phase said s.parts ∷ []) phase (line + z) saids others ≡ Ok t.rest) (sym same.lengths)
          (subst (λ (z : List (List Entry)). blocks_cut (earlier ++ block_of phase said z ∷ []) phase (line + length (block_lines other)) saids others ≡ Ok t.rest) parts t.goes))
          (subst (λ (z : ℕ). take z (flat_map block_lines reports ++ says.Final ∷ tail) ≡ take z (flat_map block_lines others ++ says.Final ∷ end)) left same.behind)

-- two phases' blocks that are both cut, and begin alike past the end of the first
record AreAlike (reports others : List BlockReport) (blocks own : List Block) (n : ℕ) (tail end : List Line) : Type 0 where
  blocks_are : blocks ≡ own
  lengths : length (flat_map block_lines reports) ≡ length (flat_map block_lines others)
  behind : take (n - length (flat_map block_lines reports)) (says.Final ∷ tail) ≡ take (n - length (flat_map block_lines reports)) (says.Final ∷ end)

blocks_alike : (earlier : List Block) (phase line n : ℕ) (saids : List Said) (reports others : List BlockReport) (blocks own : List Block) (tail end : List Line) → blocks_cut earlier phase line saids reports ≡ Ok blocks → blocks_cut earlier phase line saids others ≡ Ok own → length (flat_map block_lines reports) < n → take n (flat_map block_lines reports ++ says.Final ∷ tail) ≡ take n (flat_map block_lines others ++ says.Final ∷ end) → AreAlike reports others blocks own n tail end
unfolding blocks_cut
blocks_alike earlier phase line n [] [] [] blocks own tail end a b h e = record {
  blocks_are = cc;
  lengths = refl;
  behind = let none : n ≡ n - 0 = omega arith in subst (λ (m : ℕ). take m (says.Final ∷ tail) ≡ take m (says.Final ∷ end)) none e;
}
blocks_alike earlier phase line n [] [] (other ∷ others) blocks own tail end a b h e = absurd (cc)
blocks_alike earlier phase line n [] (report ∷ reports) others blocks own tail end a b h e = absurd (cc)
blocks_alike earlier phase line n (said ∷ saids) [] others blocks own tail end a b h e = absurd (cc)
blocks_alike earlier phase line n (said ∷ saids) (report ∷ reports) [] blocks own tail end a b h e = absurd (cc)
blocks_alike earlier phase line n (said ∷ saids) (report ∷ reports) (other ∷ others) blocks own tail end a b h e =
    at (taken earlier phase line said saids report reports blocks a) (taken earlier phase line said saids other others own b)
    (λ parts first m rest more g k l t. blocks_alike (earlier ++ block_of phase said parts ∷ []) phase first m saids reports others rest more tail end g k l t) where
      at : IsTaken earlier phase line said saids report reports blocks → IsTaken earlier phase line said saids other others own
          → ((parts : List (List Entry)) (first m : ℕ) (rest more : List Block)
          → blocks_cut (earlier ++ block_of phase said parts ∷ []) phase first saids reports ≡ Ok rest
          → blocks_cut (earlier ++ block_of phase said parts ∷ []) phase first saids others ≡ Ok more
          → length (flat_map block_lines reports) < m
          → take m (flat_map block_lines reports ++ says.Final ∷ tail) ≡ take m (flat_map block_lines others ++ says.Final ∷ end)
          → AreAlike reports others rest more m tail end)
          → AreAlike (report ∷ reports) (other ∷ others) blocks own n tail end
      at s t go =
          let size = length (block_lines report) in
          let all = length-append (block_lines report) (flat_map block_lines reports) in
          let others_all = length-append (block_lines other) (flat_map block_lines others) in
          let begun : take n (block_lines report ++ (flat_map block_lines reports ++ says.Final ∷ tail)) ≡ take n (block_lines other ++ (flat_map block_lines others ++ says.Final ∷ end)) =
          sym (ap (λ (z : List Line). take n z) (blocks_then report reports (says.Final ∷ tail))) ∙ e
          ∙ ap (λ (z : List Line). take n z) (blocks_then other others (says.Final ∷ end)) in
          let same : AreSame report other n (flat_map block_lines reports ++ says.Final ∷ tail) (flat_map block_lines others ++ says.Final ∷ end) =
          same_block report other n (flat_map block_lines reports ++ says.Final ∷ tail) (flat_map block_lines others ++ says.Final ∷ end)
          (behind_block reports tail) (behind_block others end) (omega (arith, h, all)) begun in
          let parts : t.parts ≡ s.parts = parts_same earlier said report other s.parts t.parts same.entries s.cut t.cut in
          let more : AreAlike reports others s.rest t.rest (n - size) tail end =
          go s.parts (line + size) (n - size) s.rest t.rest s.goes
          (subst (λ (z : ℕ). blocks_cut (earlier ++ block_of phase said s.parts ∷ []) phase (line + z) saids others ≡ Ok t.rest) (sym same.lengths)
          (subst (λ (z : List (List Entry)). blocks_cut (earlier ++ block_of phase said z ∷ []) phase (line + length (block_lines other)) saids others ≡ Ok t.rest) parts t.goes))
          (omega (arith, h, all)) same.behind in
          let left : (n - size) - length (flat_map block_lines reports) ≡ n - length (flat_map block_lines (report ∷ reports)) = omega (arith, all) in
          record {
            blocks_are = s.is ∙ ap (λ (z : List Block). block_of phase said s.parts ∷ z) more.blocks_are
                ∙ ap (λ (z : List (List Entry)). block_of phase said z ∷ t.rest) (sym parts) ∙ sym t.is;
            lengths = omega (arith, all, others_all, same.lengths, more.lengths);
            behind = subst (λ (m : ℕ). take m (says.Final ∷ tail) ≡ take m (says.Final ∷ end)) left more.behind;
          }

-- a first phase that is cut
record IsPhaseTaken (earlier : List Block) (number line : ℕ) (phase : Phase) (phases : List Phase) (report : PhaseParts) (reports : List PhaseParts) (all : List (List Block)) : Type 0 where
  numbered : report.number ≡ number
  blocks : List Block
  cut : blocks_cut earlier number (line + 1) phase.blocks report.blocks ≡ Ok blocks
  rest : List (List Block)
  goes : phases_cut (earlier ++ blocks) (number + 1) (line + length (phase_lines report)) phases reports ≡ Ok rest

phase_taken : (earlier : List Block) (number line : ℕ) (phase : Phase) (phases : List Phase) (report : PhaseParts) (reports : List PhaseParts) (all : List (List Block)) → phases_cut earlier number line (phase ∷ phases) (report ∷ reports) ≡ Ok all → IsPhaseTaken earlier number line phase phases report reports all
unfolding phases_cut
phase_taken earlier number line phase phases report reports all e = at (report.number == number) refl (blocks_cut earlier number (line + 1) phase.blocks report.blocks) refl e where
  more : (blocks : List Block) → report.number ≡ number → blocks_cut earlier number (line + 1) phase.blocks report.blocks ≡ Ok blocks
      → (r : Result (List (List Block)) ℕ) → phases_cut (earlier ++ blocks) (number + 1) (line + length (phase_lines report)) phases reports ≡ r
      → with_blocks blocks r ≡ Ok all → IsPhaseTaken earlier number line phase phases report reports all
  more blocks s c (Ok rest) g e = record { numbered = s; blocks = blocks; cut = c; rest = rest; goes = g }
  more blocks s c (Err n) g e = absurd (cc)

  at : (b : Bool) → (report.number == number) ≡ b → (r : Result (List Block) ℕ) → blocks_cut earlier number (line + 1) phase.blocks report.blocks ≡ r
      → (if b then on_blocks (λ blocks. with_blocks blocks
      (phases_cut (earlier ++ blocks) (number + 1) (line + length (phase_lines report)) phases reports)) r else Err line) ≡ Ok all
      → IsPhaseTaken earlier number line phase phases report reports all
  at false s r c e = absurd (cc)
  at true s (Err n) c e = absurd (cc)
  at true s (Ok blocks) c e = more blocks (eqb-true report.number number s) c _ refl e

-- or at which the cut stops: its own line, one of its blocks, or a later one
record StopsInBlocks (earlier : List Block) (number line : ℕ) (phase : Phase) (report : PhaseParts) (at : ℕ) : Type 0 where
  numbered : report.number ≡ number
  cut : blocks_cut earlier number (line + 1) phase.blocks report.blocks ≡ Err at

record StopsBehind (earlier : List Block) (number line : ℕ) (phase : Phase) (phases : List Phase) (report : PhaseParts) (reports : List PhaseParts) (at : ℕ) : Type 0 where
  numbered : report.number ≡ number
  blocks : List Block
  cut : blocks_cut earlier number (line + 1) phase.blocks report.blocks ≡ Ok blocks
  goes : phases_cut (earlier ++ blocks) (number + 1) (line + length (phase_lines report)) phases reports ≡ Err at

abbrev PhaseStops : List Block → ℕ → ℕ → Phase → List Phase → PhaseParts → List PhaseParts → ℕ → Type 0
PhaseStops earlier number line phase phases report reports at =
    ((report.number ≡ number → ⊥) × (at ≡ line))
    ⊎ (StopsInBlocks earlier number line phase report at ⊎ StopsBehind earlier number line phase phases report reports at)

phase_stops : (earlier : List Block) (number line : ℕ) (phase : Phase) (phases : List Phase) (report : PhaseParts) (reports : List PhaseParts) (n : ℕ) → phases_cut earlier number line (phase ∷ phases) (report ∷ reports) ≡ Err n → PhaseStops earlier number line phase phases report reports n
unfolding phases_cut
phase_stops earlier number line phase phases report reports n e = at (report.number == number) refl (blocks_cut earlier number (line + 1) phase.blocks report.blocks) refl e where
  more : (blocks : List Block) → report.number ≡ number → blocks_cut earlier number (line + 1) phase.blocks report.blocks ≡ Ok blocks
      → (r : Result (List (List Block)) ℕ) → phases_cut (earlier ++ blocks) (number + 1) (line + length (phase_lines report)) phases reports ≡ r
      → with_blocks blocks r ≡ Err n → PhaseStops earlier number line phase phases report reports n
  more blocks s c (Ok rest) g e = absurd (cc)
  more blocks s c (Err m) g e = inr (inr (record { numbered = s; blocks = blocks; cut = c; goes = let same : m ≡ n = cc in g ∙ ap (λ (z : ℕ). Err z) same }))

  at : (b : Bool) → (report.number == number) ≡ b → (r : Result (List Block) ℕ) → blocks_cut earlier number (line + 1) phase.blocks report.blocks ≡ r
      → (if b then on_blocks (λ blocks. with_blocks blocks
      (phases_cut (earlier ++ blocks) (number + 1) (line + length (phase_lines report)) phases reports)) r else Err line) ≡ Err n
      → PhaseStops earlier number line phase phases report reports n
  at false s r c e = inl (eqb-false report.number number s, let same : line ≡ n = cc in sym same)
  at true s (Err m) c e = inr (inl (record { numbered = eqb-true report.number number s; cut = let same : m ≡ n = cc in c ∙ ap (λ (z : ℕ). Err z) same }))
  at true s (Ok blocks) c e = more blocks (eqb-true report.number number s) c _ refl e

-- how long a phase is
phase_size : (report : PhaseParts) → length (phase_lines report) ≡ suc (length (flat_map block_lines report.blocks) + length (result_lines report))
phase_size report = ap suc (length-append (flat_map block_lines report.blocks) (result_lines report))

phases_bounds : Misfits → (earlier : List Block) (number line : ℕ) (phases : List Phase) (reports : List PhaseParts) (n : ℕ) → phases_cut earlier number line phases reports ≡ Err n → AreBounds line (line + length (flat_map phase_lines reports)) n
unfolding phases_cut
phases_bounds misfits earlier number line [] [] n e = absurd (cc)
phases_bounds misfits earlier number line [] (report ∷ reports) n e = let same : line ≡ n = cc in record { least = omega arith; most = omega arith }
phases_bounds misfits earlier number line (phase ∷ phases) [] n e = let same : line ≡ n = cc in record { least = omega arith; most = omega arith }
phases_bounds misfits earlier number line (phase ∷ phases) (report ∷ reports) n e =
    at (phase_stops earlier number line phase phases report reports n e) (λ blocks g. phases_bounds misfits (earlier ++ blocks) (number + 1) (line + length (phase_lines report)) phases reports n g) where
      at : PhaseStops earlier number line phase phases report reports n
          → ((blocks : List Block) → phases_cut (earlier ++ blocks) (number + 1) (line + length (phase_lines report)) phases reports ≡ Err n
          → AreBounds (line + length (phase_lines report)) (line + length (phase_lines report) + length (flat_map phase_lines reports)) n)
          → AreBounds line (line + length (flat_map phase_lines (report ∷ reports))) n
      at (inl w) go = record { least = omega (arith, w.1); most = omega (arith, w.1) }
      at (inr (inl w)) go =
          let own : AreBounds (line + 1) (line + 1 + length (flat_map block_lines report.blocks)) n = blocks_bounds misfits earlier number (line + 1) phase.blocks report.blocks n w.cut in
          record {
            least = omega (arith, own.least);
            most = omega (arith, own.most, phase_size report, length-append (phase_lines report) (flat_map phase_lines reports));
          }
      at (inr (inr w)) go =
          let more : AreBounds (line + length (phase_lines report)) (line + length (phase_lines report) + length (flat_map phase_lines reports)) n = go w.blocks w.goes in
          record { least = omega (arith, more.least); most = omega (arith, more.most, length-append (phase_lines report) (flat_map phase_lines reports)) }

-- behind a phase's lines stands another phase, or the end
record Closes (lines : List Line) : Type 0 where
  first : Line
  others : List Line
  is : lines ≡ first ∷ others
  ends : ends_results first ≡ true

behind_phase : (reports : List PhaseParts) → Closes (flat_map phase_lines reports ++ says.End ∷ [])
behind_phase [] = record { first = says.End; others = []; is = refl; ends = refl }
behind_phase (report ∷ reports) = record {
  first = says.Phase report.number;
  others = ((flat_map block_lines report.blocks ++ result_lines report) ++ flat_map phase_lines reports) ++ says.End ∷ [];
  is = refl;
  ends = refl;
}

-- the results of a phase without their own line
abbrev outcome : PhaseParts → List Line
outcome report = flat_map table_lines report.tables ++ map says.Lost report.lost

-- a phase's lines: its own, its blocks, and what stands behind them
phase_then : (report : PhaseParts) (reports : List PhaseParts) → flat_map phase_lines (report ∷ reports) ++ says.End ∷ []
    ≡ says.Phase report.number ∷ (flat_map block_lines report.blocks ++ says.Final ∷ (outcome report ++ (flat_map phase_lines reports ++ says.End ∷ [])))
phase_then report reports =
    append_assoc (phase_lines report) (flat_map phase_lines reports) (says.End ∷ [])
    ∙ ap (λ (z : List Line). says.Phase report.number ∷ z)
    (append_assoc (flat_map block_lines report.blocks) (result_lines report) (flat_map phase_lines reports ++ says.End ∷ []))

phase_same : (x y : ℕ) → says.Phase x ≡ says.Phase y → x ≡ y
phase_same x y e = cc

-- a phase that is cut in two reports that begin alike past its end: what stands behind it is judged as before
later : Misfits → (earlier : List Block) (number line n : ℕ) (phase : Phase) (phases : List Phase) (report other : PhaseParts) (reports others : List PhaseParts) (blocks : List Block) (rest : List (List Block)) → StopsBehind earlier number line phase phases report reports (line + n) → blocks_cut earlier number (line + 1) phase.blocks other.blocks ≡ Ok blocks → phases_cut (earlier ++ blocks) (number + 1) (line + length (phase_lines other)) phases others ≡ Ok rest → take n (flat_map block_lines report.blocks ++ says.Final ∷ (outcome report ++ (flat_map phase_lines reports ++ says.End ∷ []))) ≡ take n (flat_map block_lines other.blocks ++ says.Final ∷ (outcome other ++ (flat_map phase_lines others ++ says.End ∷ []))) → ((own : List Block) (first m : ℕ) (rest : List (List Block)) → phases_cut (earlier ++ own) (number + 1) first phases reports ≡ Err (first + m) → phases_cut (earlier ++ own) (number + 1) first phases others ≡ Ok rest → take (suc m) (flat_map phase_lines reports ++ says.End ∷ []) ≡ take (suc m) (flat_map phase_lines others ++ says.End ∷ []) → ⊥) → ⊥
later misfits earlier number line n phase phases report other reports others blocks rest s c g inner go =
    let size = length (phase_lines report) in
    let first = length (flat_map block_lines report.blocks) in
    let results = length (outcome report) in
    let us = flat_map phase_lines reports ++ says.End ∷ [] in
    let vs = flat_map phase_lines others ++ says.End ∷ [] in
    let one = phase_size report in
    let two = phase_size other in
    let bounds : AreBounds (line + size) (line + size + length (flat_map phase_lines reports)) (line + n) =
    phases_bounds misfits (earlier ++ s.blocks) (number + 1) (line + size) phases reports (line + n) s.goes in
    let alike : AreAlike report.blocks other.blocks s.blocks blocks n (outcome report ++ us) (outcome other ++ vs) =
    blocks_alike earlier number (line + 1) n phase.blocks report.blocks other.blocks s.blocks blocks (outcome report ++ us) (outcome other ++ vs) s.cut c
    (omega (arith, bounds.least, one)) inner in
    let left : n - first ≡ suc (n - first - 1) = omega (arith, bounds.least, one) in
    let begun : take (n - first - 1) (outcome report ++ us) ≡ take (n - first - 1) (outcome other ++ vs) =
    rest_same (n - first - 1) says.Final says.Final (outcome report ++ us) (outcome other ++ vs)
    (subst (λ (z : ℕ). take z (says.Final ∷ (outcome report ++ us)) ≡ take z (says.Final ∷ (outcome other ++ vs))) left alike.behind) in
    let u : Closes us = behind_phase reports in
    let v : Closes vs = behind_phase others in
    let on : AreAlong (outcome report) (outcome other) (n - first - 1) (u.first ∷ u.others) (v.first ∷ v.others) =
    along ends_results (outcome report) (outcome other) (n - first - 1) u.first v.first u.others v.others
    (results_inner report.tables report.lost) (results_inner other.tables other.lost) u.ends v.ends
    (omega (arith, bounds.least, one))
    (sym (ap (λ (z : List Line). take (n - first - 1) (outcome report ++ z)) u.is) ∙ begun
    ∙ ap (λ (z : List Line). take (n - first - 1) (outcome other ++ z)) v.is) in
    let same = ap length on.same in
    let lengths : length (phase_lines other) ≡ size = omega (arith, one, two, alike.lengths, same) in
    let behind : take (n - first - 1 - results) us ≡ take (n - first - 1 - results) vs =
    ap (λ (z : List Line). take (n - first - 1 - results) z) u.is ∙ on.behind ∙ sym (ap (λ (z : List Line). take (n - first - 1 - results) z) v.is) in
    let count : n - first - 1 - results ≡ suc (n - size) = omega (arith, bounds.least, one) in
    let place : line + n ≡ (line + size) + (n - size) = omega (arith, bounds.least) in
    go s.blocks (line + size) (n - size) rest
    (s.goes ∙ ap (λ (z : ℕ). Err z) place)
    (subst (λ (z : ℕ). phases_cut (earlier ++ s.blocks) (number + 1) (line + z) phases others ≡ Ok rest) lengths
    (subst (λ (z : List Block). phases_cut (earlier ++ z) (number + 1) (line + length (phase_lines other)) phases others ≡ Ok rest) (sym alike.blocks_are) g))
    (subst (λ (z : ℕ). take z us ≡ take z vs) count behind)

-- phases at which a cut stops, and others that are cut and begin alike up to there
phases_apart : Misfits → (earlier : List Block) (number line n : ℕ) (phases : List Phase) (reports others : List PhaseParts) (all : List (List Block)) → phases_cut earlier number line phases reports ≡ Err (line + n) → phases_cut earlier number line phases others ≡ Ok all → take (suc n) (flat_map phase_lines reports ++ says.End ∷ []) ≡ take (suc n) (flat_map phase_lines others ++ says.End ∷ []) → ⊥
unfolding phases_cut
phases_apart misfits earlier number line n [] [] others all w o e = absurd (cc)
phases_apart misfits earlier number line n [] (report ∷ reports) [] all w o e =
    no_end (first_same n (says.Phase report.number) says.End _ [] e) where
      no_end : {number : ℕ} → says.Phase number ≡ says.End → ⊥
      no_end h = cc
phases_apart misfits earlier number line n [] (report ∷ reports) (other ∷ others) all w o e = absurd (cc)
phases_apart misfits earlier number line n (phase ∷ phases) reports [] all w o e = absurd (cc)
phases_apart misfits earlier number line n (phase ∷ phases) [] (other ∷ others) all w o e =
    no_phase (first_same n says.End (says.Phase other.number) [] _ e) where
      no_phase : {number : ℕ} → says.End ≡ says.Phase number → ⊥
      no_phase h = cc
phases_apart misfits earlier number line n (phase ∷ phases) (report ∷ reports) (other ∷ others) all w o e =
    at (phase_stops earlier number line phase phases report reports (line + n) w) (phase_taken earlier number line phase phases other others all o)
    (λ blocks first m rest g h t. phases_apart misfits (earlier ++ blocks) (number + 1) first m phases reports others rest g h t) where
      begun : take (suc n) (says.Phase report.number ∷ (flat_map block_lines report.blocks ++ says.Final ∷ (outcome report ++ (flat_map phase_lines reports ++ says.End ∷ []))))
          ≡ take (suc n) (says.Phase other.number ∷ (flat_map block_lines other.blocks ++ says.Final ∷ (outcome other ++ (flat_map phase_lines others ++ says.End ∷ []))))
      begun = sym (ap (λ (z : List Line). take (suc n) z) (phase_then report reports)) ∙ e ∙ ap (λ (z : List Line). take (suc n) z) (phase_then other others)

      inner : take n (flat_map block_lines report.blocks ++ says.Final ∷ (outcome report ++ (flat_map phase_lines reports ++ says.End ∷ [])))
          ≡ take n (flat_map block_lines other.blocks ++ says.Final ∷ (outcome other ++ (flat_map phase_lines others ++ says.End ∷ [])))
      inner = rest_same n (says.Phase report.number) (says.Phase other.number) _ _ begun

      at : PhaseStops earlier number line phase phases report reports (line + n) → IsPhaseTaken earlier number line phase phases other others all
          → ((blocks : List Block) (first m : ℕ) (rest : List (List Block))
          → phases_cut (earlier ++ blocks) (number + 1) first phases reports ≡ Err (first + m)
          → phases_cut (earlier ++ blocks) (number + 1) first phases others ≡ Ok rest
          → take (suc m) (flat_map phase_lines reports ++ says.End ∷ []) ≡ take (suc m) (flat_map phase_lines others ++ says.End ∷ []) → ⊥) → ⊥
      at (inl s) t go = s.0 (phase_same report.number other.number (first_same n (says.Phase report.number) (says.Phase other.number) _ _ begun) ∙ t.numbered)
      at (inr (inl s)) t go =
          let bounds : AreBounds (line + 1) (line + 1 + length (flat_map block_lines report.blocks)) (line + n) = blocks_bounds misfits earlier number (line + 1) phase.blocks report.blocks (line + n) s.cut in
          let one : suc (n - 1) ≡ n = omega (arith, bounds.least) in
          let place : line + n ≡ (line + 1) + (n - 1) = omega (arith, bounds.least) in
          blocks_apart misfits earlier number (line + 1) (n - 1) phase.blocks report.blocks other.blocks t.blocks
          (outcome report ++ (flat_map phase_lines reports ++ says.End ∷ [])) (outcome other ++ (flat_map phase_lines others ++ says.End ∷ []))
          (s.cut ∙ ap (λ (z : ℕ). Err z) place) t.cut
          (subst (λ (z : ℕ). take z (flat_map block_lines report.blocks ++ says.Final ∷ (outcome report ++ (flat_map phase_lines reports ++ says.End ∷ [])))
          ≡ take z (flat_map block_lines other.blocks ++ says.Final ∷ (outcome other ++ (flat_map phase_lines others ++ says.End ∷ [])))) (sym one) inner)
      at (inr (inr s)) t go = later misfits earlier number line n phase phases report other reports others t.blocks t.rest s t.cut t.goes inner go

none_begins : Misfits → CutLaw → (phases : List Phase) (report other : ReportParts) (line : ℕ) (blocks : List (List Block)) → report_cut phases report ≡ Err line → take line (report_lines other) ≡ take line (report_lines report) → IsCut phases other blocks → ⊥
none_begins misfits cuts phases report other line blocks e same cut =
    let bounds : AreBounds 2 (2 + length (flat_map phase_lines report.phases)) line = phases_bounds misfits [] 1 2 phases report.phases line e in
    let place : line ≡ 2 + (line - 2) = omega (arith, bounds.least) in
    let count : line ≡ suc (suc (line - 2)) = omega (arith, bounds.least) in
    phases_apart misfits [] 1 2 (line - 2) phases report.phases other.phases blocks (e ∙ ap (λ (z : ℕ). Err z) place) ((cuts phases other blocks).1 cut)
    (rest_same (suc (line - 2)) (says.Head report.format) (says.Head other.format) (flat_map phase_lines report.phases ++ says.End ∷ []) (flat_map phase_lines other.phases ++ says.End ∷ [])
    (subst (λ (z : ℕ). take z (report_lines report) ≡ take z (report_lines other)) count (sym same)))

pub wrong_lines : Misfits → CutLaw → WrongLines
wrong_lines misfits cuts phases report line e =
    let bounds : AreBounds 2 (2 + length (flat_map phase_lines report.phases)) line = phases_bounds misfits [] 1 2 phases report.phases line e in
    record {
      some = omega (arith, bounds.least);
      within = omega (arith, bounds.most, length-append (flat_map phase_lines report.phases) (says.End ∷ []));
      no_cut = λ other blocks same cut. none_begins misfits cuts phases report other line blocks e same cut;
      no_run = λ setting other same run. none_begins misfits cuts phases report other line run.blocks e same (record { phases_are = run.phases_are; shaped = run.rules.shaped });
    }
