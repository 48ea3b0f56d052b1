-- Steps of the cut of a phase's blocks.
use Rattle.std.proofs.Common.{◌≡◌, refl, ℕ, ◌+◌, ◌<◌, ◌≤◌, true, false, cond, List, [], ◌∷◌, ◌++◌, length, get_or, take, drop, sym, ◌∙◌, ap, arith, append_assoc, subst, IsErrAnd}
use Rattle.std.specs.Prelude.{◌==◌, Result, Ok, Err, Vec}
use Rattle.std.specs.declared.alloc.Global.{Global}
use Rattle.std.specs.List.{flat_map}
use Rattle.std.specs.BTreeMap.{BTreeMap}
use Rattle.std.proofs.lemmas.List.{append-nil, drop_all, drop_more, length-append, length-drop, take_all, take_more}
use Rattle.pfs_check_lines.proofs.ListPlaces.{parted}
use Rattle.std.proofs.lemmas.Grind.{flat_map-append}
use Rattle.pfs_event.specs.declared.entry.Entry.{Entry}
use Rattle.pfs_journal.specs.ReportLines.{block_lines}
use Rattle.pfs_journal.specs.declared.blocks.BlockReport.{BlockReport}
use Rattle.pfs_model.specs.declared.lines.Line.{Line}
use Rattle.pfs_model.specs.Contexts.{Context, fresh}
use Rattle.pfs_model.specs.EntryPlaces.{Block, after_lines, told_by}
use Rattle.pfs_model.specs.JournalCuts.{parts_of}
use Rattle.pfs_runs.specs.ScriptLines.{lines_in}
use Rattle.pfs_script.specs.declared.blocks.Block.{Block as Said}
use Rattle.pfs_check_faults.specs.ShapeFaults.{block_of, blocks_cut, line_of_rest, with_block}
use Rattle.pfs_check_cut.specs.CutReports.{AreBlocksCut, AreEntriesCut, IsBlockCut, block_by, blocks_by}
use Rattle.pfs_check_parts.specs.Parts.{pieces}
use Rattle.pfs_check_trail.specs.Trails.{IsTrailOf}
use Rattle.pfs_check_cut.specs.Sessions.{AreTrailsOf, trail_at}
use Rattle.pfs_check_cut.proofs.SessionSteps.{one_more}
use Rattle.pfs_check_cut.specs.declared.blocks.CutBlock.{CutBlock}
use Rattle.pfs_check_cut.specs.declared.blocks.ShapeFault.{ShapeFault}
use Rattle.pfs_check_cut.specs.declared.blocks.ShapeFault.TheVariants.{Line as at_line, NoMemory}

-- a block of another session
pub wrong_session : (earlier : List Block) (phase line : ℕ) (said : Said) (report : BlockReport) (others : List Said) (reports : List BlockReport) → (report.session == said.session) ≡ false → blocks_cut earlier phase line (said ∷ others) (report ∷ reports) ≡ Err line
unfolding blocks_cut
wrong_session earlier phase line said report others reports h = rw h refl

-- a block whose journal has a misfit
pub wrong_entry : (earlier : List Block) (phase line : ℕ) (said : Said) (report : BlockReport) (rest : List Entry) (others : List Said) (reports : List BlockReport) → (report.session == said.session) ≡ true → parts_of (told_by said.session fresh earlier) (lines_in said) report.entries ≡ Err rest → blocks_cut earlier phase line (said ∷ others) (report ∷ reports) ≡ Err (line_of_rest line report rest)
unfolding blocks_cut
wrong_entry earlier phase line said report rest others reports h p = rw (h, p) refl

-- a block in its parts
pub right_block : (earlier : List Block) (phase line : ℕ) (said : Said) (report : BlockReport) (parts : List (List Entry)) (others : List Said) (reports : List BlockReport) → (report.session == said.session) ≡ true → parts_of (told_by said.session fresh earlier) (lines_in said) report.entries ≡ Ok parts → blocks_cut earlier phase line (said ∷ others) (report ∷ reports) ≡ with_block (block_of phase said parts) (blocks_cut (earlier ++ block_of phase said parts ∷ []) phase (line + length (block_lines report)) others reports)
unfolding blocks_cut
right_block earlier phase line said report parts others reports h p = rw (h, p) refl

blocks_by_more : (cuts : List CutBlock) (cut : CutBlock) (reports : List BlockReport) (report : BlockReport) → length cuts < length reports → report ≡ get_or reports (length cuts) report → blocks_by (cuts ++ cut ∷ []) reports ≡ blocks_by cuts reports ++ block_by cut report ∷ []
blocks_by_more [] cut [] report h is = absurd (omega arith)
blocks_by_more [] cut (r ∷ reports) report h is = ap (λ (z : BlockReport). block_by cut z ∷ []) (sym is)
blocks_by_more (one ∷ cuts) cut [] report h is = absurd (omega arith)
blocks_by_more (one ∷ cuts) cut (r ∷ reports) report h is = ap (λ (z : List Block). block_by one r ∷ z) (blocks_by_more cuts cut reports report (omega arith) is)

-- blocks, before those that are left
abbrev pub behind_blocks : List Block → Result (List Block) ℕ → Result (List Block) ℕ
behind_blocks done (Ok blocks) = Ok (done ++ blocks)
behind_blocks done (Err line) = Err line

then_block : (done : List Block) (block : Block) (r : Result (List Block) ℕ) → behind_blocks done (with_block block r) ≡ behind_blocks (done ++ block ∷ []) r
then_block done block (Ok blocks) = ap (λ z. Ok z) (sym (append_assoc done (block ∷ []) blocks))
then_block done block (Err line) = refl

-- What is left, behind the blocks that are cut, gives the whole.
pub record AreUnder (earlier : List Block) (phase line : ℕ) (saids : List Said) (reports : List BlockReport) (cuts : List CutBlock) (trails : BTreeMap ℕ Context) (number end : ℕ) : Type 0 where
  pub same : behind_blocks (blocks_by cuts reports) (blocks_cut (earlier ++ blocks_by cuts reports) phase end (drop number saids) (drop number reports)) ≡ blocks_cut earlier phase line saids reports
  pub trails_are : AreTrailsOf (earlier ++ blocks_by cuts reports) trails
  pub count : length cuts ≡ number
  pub line_is : end ≡ line + length (flat_map block_lines (take number reports))
  pub within : number ≤ length reports

pub opening : (earlier : List Block) (phase line : ℕ) (saids : List Said) (reports : List BlockReport) (cuts : List CutBlock) (trails : BTreeMap ℕ Context) → cuts ≡ [] → AreTrailsOf earlier trails → AreUnder earlier phase line saids reports cuts trails 0 line
opening earlier phase line saids reports cuts trails e are = rw e (record {
  same = ap (λ z. behind_blocks [] (blocks_cut z phase line saids reports)) (append-nil earlier) ∙ all (blocks_cut earlier phase line saids reports);
  trails_are = rw (append-nil earlier) are;
  count = refl;
  line_is = omega arith;
  within = omega arith;
}) where
  all : (r : Result (List Block) ℕ) → behind_blocks [] r ≡ r
  all (Ok blocks) = refl
  all (Err line) = refl

-- the next block, in the words of a cut of one block
abbrev pub GoesOn : List Block → ℕ → ℕ → Said → BlockReport → Block → Type 0
GoesOn earlier phase line said report block =
    (others : List Said) (reports : List BlockReport) → blocks_cut earlier phase line (said ∷ others) (report ∷ reports)
    ≡ with_block block (blocks_cut (earlier ++ block ∷ []) phase (line + length (block_lines report)) others reports)

-- the lines of the blocks up to a place, and of the next one
blocks_reach : (line : ℕ) (reports : List BlockReport) (number : ℕ) (report : BlockReport) → number < length reports → report ≡ get_or reports number report → (line + length (flat_map block_lines (take number reports))) + length (block_lines report) ≡ line + length (flat_map block_lines (take (number + 1) reports))
blocks_reach line reports number report p is =
    let one = get_or reports number report in
    let more : length (flat_map block_lines (take (number + 1) reports)) ≡ length (flat_map block_lines (take number reports)) + length (flat_map block_lines (one ∷ [])) =
    ap (λ (z : List BlockReport). length (flat_map block_lines z)) (take_more reports number report p)
    ∙ ap length (flat_map-append block_lines (take number reports) (one ∷ []))
    ∙ length-append (flat_map block_lines (take number reports)) (flat_map block_lines (one ∷ [])) in
    let alone : length (flat_map block_lines (one ∷ [])) ≡ length (block_lines one) = ap length (append-nil (block_lines one)) in
    let own = ap (λ (z : BlockReport). length (block_lines z)) is in
    omega (arith, more, alone, own)

pub block_taken : (earlier : List Block) (phase line : ℕ) (saids : List Said) (reports : List BlockReport) (cuts : List CutBlock) (cut : CutBlock) (trails new : BTreeMap ℕ Context) (number end next : ℕ) (said : Said) (report : BlockReport) → AreUnder earlier phase line saids reports cuts trails number end → number < length saids → number < length reports → said ≡ get_or saids number said → report ≡ get_or reports number report → AreTrailsOf ((earlier ++ blocks_by cuts reports) ++ block_by cut report ∷ []) new → GoesOn (earlier ++ blocks_by cuts reports) phase end said report (block_by cut report) → next ≡ end + length (block_lines report) → AreUnder earlier phase line saids reports (cuts ++ cut ∷ []) new (number + 1) next
block_taken earlier phase line saids reports cuts cut trails new number end next said report a s p said_is report_is are goes n =
    let done = blocks_by cuts reports in
    let block = block_by cut report in
    let here : report ≡ get_or reports (length cuts) report = report_is ∙ ap (λ (z : ℕ). get_or reports z report) (sym a.count) in
    let more : blocks_by (cuts ++ cut ∷ []) reports ≡ done ++ block ∷ [] = blocks_by_more cuts cut reports report (omega (arith, a.count)) here in
    let behind : (earlier ++ done) ++ block ∷ [] ≡ earlier ++ blocks_by (cuts ++ cut ∷ []) reports =
    append_assoc earlier done (block ∷ []) ∙ ap (λ (z : List Block). earlier ++ z) (sym more) in
    let left : Result (List Block) ℕ = blocks_cut (earlier ++ blocks_by (cuts ++ cut ∷ []) reports) phase next (drop (number + 1) saids) (drop (number + 1) reports) in
    let step : blocks_cut (earlier ++ done) phase end (drop number saids) (drop number reports) ≡ with_block block left =
    ap (λ (z : List Said). blocks_cut (earlier ++ done) phase end z (drop number reports)) (parted saids number said s said_is)
    ∙ ap (λ (z : List BlockReport). blocks_cut (earlier ++ done) phase end (said ∷ drop (number + 1) saids) z) (parted reports number report p report_is)
    ∙ goes (drop (number + 1) saids) (drop (number + 1) reports)
    ∙ ap (λ (z : List Block). with_block block (blocks_cut z phase (end + length (block_lines report)) (drop (number + 1) saids) (drop (number + 1) reports))) behind
    ∙ ap (λ (z : ℕ). with_block block (blocks_cut (earlier ++ blocks_by (cuts ++ cut ∷ []) reports) phase z (drop (number + 1) saids) (drop (number + 1) reports))) (sym n) in
    record {
      same = ap (λ (z : List Block). behind_blocks z left) more ∙ sym (then_block done block left) ∙ ap (behind_blocks done) (sym step) ∙ a.same;
      trails_are = subst (λ (z : List Block). AreTrailsOf z new) behind are;
      count = length-append cuts (cut ∷ []) ∙ ap (λ (z : ℕ). z + 1) a.count;
      line_is = n ∙ ap (λ (z : ℕ). z + length (block_lines report)) a.line_is ∙ blocks_reach line reports number report p report_is;
      within = omega arith;
    }

-- the next block stands in the way
pub block_wrong : (earlier : List Block) (phase line : ℕ) (saids : List Said) (reports : List BlockReport) (cuts : List CutBlock) (trails : BTreeMap ℕ Context) (number end at : ℕ) (said : Said) (report : BlockReport) → AreUnder earlier phase line saids reports cuts trails number end → number < length saids → number < length reports → said ≡ get_or saids number said → report ≡ get_or reports number report → ((others : List Said) (more : List BlockReport) → blocks_cut (earlier ++ blocks_by cuts reports) phase end (said ∷ others) (report ∷ more) ≡ Err at) → blocks_cut earlier phase line saids reports ≡ Err at
block_wrong earlier phase line saids reports cuts trails number end at said report a s p said_is report_is wrong =
    let done = blocks_by cuts reports in
    sym a.same
    ∙ ap (λ (z : List Said). behind_blocks done (blocks_cut (earlier ++ done) phase end z (drop number reports))) (parted saids number said s said_is)
    ∙ ap (λ (z : List BlockReport). behind_blocks done (blocks_cut (earlier ++ done) phase end (said ∷ drop (number + 1) saids) z)) (parted reports number report p report_is)
    ∙ ap (behind_blocks done) (wrong (drop (number + 1) saids) (drop (number + 1) reports))

-- a block is missing
pub block_missing : (earlier : List Block) (phase line : ℕ) (saids : List Said) (reports : List BlockReport) (cuts : List CutBlock) (trails : BTreeMap ℕ Context) (number end : ℕ) (d : Said) → AreUnder earlier phase line saids reports cuts trails number end → number < length saids → length reports ≤ number → blocks_cut earlier phase line saids reports ≡ Err end
unfolding blocks_cut
block_missing earlier phase line saids reports cuts trails number end d a s p =
    sym a.same ∙ rw (drop_more saids number d s, drop_all number reports p) refl

-- one is too many
pub block_extra : (earlier : List Block) (phase line : ℕ) (saids : List Said) (reports : List BlockReport) (cuts : List CutBlock) (trails : BTreeMap ℕ Context) (number end : ℕ) → AreUnder earlier phase line saids reports cuts trails number end → length saids ≤ number → number < length reports → blocks_cut earlier phase line saids reports ≡ Err end
unfolding blocks_cut
block_extra earlier phase line saids reports cuts trails number end a s p =
    sym a.same ∙ rw (drop_all number saids s) (left (drop number reports) (omega (arith, length-drop number reports))) where
      left : (rest : List BlockReport) → 0 < length rest → behind_blocks (blocks_by cuts reports) (blocks_cut (earlier ++ blocks_by cuts reports) phase end [] rest) ≡ Err end
      left [] n = absurd (omega arith)
      left (r ∷ rs) n = refl

-- all are cut
pub blocks_over : (earlier : List Block) (phase line : ℕ) (saids : List Said) (reports : List BlockReport) (cuts : List CutBlock) (trails : BTreeMap ℕ Context) (number end : ℕ) → AreUnder earlier phase line saids reports cuts trails number end → length saids ≤ number → length reports ≤ number → blocks_cut earlier phase line saids reports ≡ Ok (blocks_by cuts reports)
unfolding blocks_cut
blocks_over earlier phase line saids reports cuts trails number end a s p =
    sym a.same ∙ rw (drop_all number saids s, drop_all number reports p, append-nil (blocks_by cuts reports)) refl

pub blocks_end : (earlier : List Block) (phase line : ℕ) (saids : List Said) (reports : List BlockReport) (cuts : List CutBlock) (trails : BTreeMap ℕ Context) (number end : ℕ) → AreUnder earlier phase line saids reports cuts trails number end → length reports ≤ number → end ≡ line + length (flat_map block_lines reports)
blocks_end earlier phase line saids reports cuts trails number end a p =
    a.line_is ∙ ap (λ z. line + length (flat_map block_lines z)) (take_all number reports p)

-- a fault of one block is one of the blocks
pub block_fault : (earlier : List Block) (phase line : ℕ) (saids : List Said) (reports : List BlockReport) (cuts : List CutBlock) (trails new other : BTreeMap ℕ Context) (number end : ℕ) (said : Said) (report : BlockReport) (fault : ShapeFault) → AreUnder earlier phase line saids reports cuts trails number end → number < length saids → number < length reports → said ≡ get_or saids number said → report ≡ get_or reports number report → IsBlockCut (earlier ++ blocks_by cuts reports) phase end said report (Err fault) new → AreBlocksCut earlier phase line saids reports (Err fault) other
block_fault earlier phase line saids reports cuts trails new other number end said report (at_line at) a s p said_is report_is wrong =
    block_wrong earlier phase line saids reports cuts trails number end at said report a s p said_is report_is wrong
block_fault earlier phase line saids reports cuts trails new other number end said report NoMemory a s p said_is report_is wrong = tt

-- a fault of its entries is one of a block
pub entries_fault : (earlier : List Block) (phase line : ℕ) (said : Said) (report : BlockReport) (trail : Context) (new : BTreeMap ℕ Context) (fault : ShapeFault) → (report.session == said.session) ≡ true → AreEntriesCut (told_by said.session fresh earlier) line (lines_in said) report (Err fault) trail → IsBlockCut earlier phase line said report (Err fault) new
entries_fault earlier phase line said report trail new (at_line at) h told = λ others reports.
    wrong_entry earlier phase line said report told.0 others reports h told.1 ∙ ap (λ z. Err z) (sym told.2)
entries_fault earlier phase line said report trail new NoMemory h told = tt

abbrev with_lines : ℕ → Said → List (List Entry) → List Line → Block
with_lines phase said parts lines = record { phase = phase; session = said.session; lines = lines; parts = parts }

-- a block in its parts is cut, and told of its session
pub block_done : (earlier : List Block) (phase line : ℕ) (said : Said) (report : BlockReport) (lines : Vec Line Global) (slice : List Line) (ends : Vec ℕ Global) (old mid new : BTreeMap ℕ Context) (trail : Context) → (report.session == said.session) ≡ true → slice ≡ lines.items → lines.items ≡ lines_in said → AreTrailsOf earlier old → AreEntriesCut (told_by said.session fresh earlier) line slice report (Ok ends) trail → ((other : ℕ) → (said.session == other) ≡ false → trail_at mid other ≡ trail_at old other) → ((other : ℕ) → trail_at new other ≡ cond (said.session == other) trail (trail_at mid other)) → IsBlockCut earlier phase line said report (Ok (record { phase = phase; session = said.session; lines = lines; ends = ends })) new
block_done earlier phase line said report lines slice ends old mid new trail h s l are told others kept =
    let parts = pieces 0 ends.items report.entries in
    let cut : parts_of (told_by said.session fresh earlier) (lines_in said) report.entries ≡ Ok parts =
    sym (ap (λ (z : List Line). parts_of (told_by said.session fresh earlier) z report.entries) (s ∙ l)) ∙ told.0 in
    let own : IsTrailOf (after_lines (told_by said.session fresh earlier) lines.items parts) trail =
    subst (λ (z : List Line). IsTrailOf (after_lines (told_by said.session fresh earlier) z parts) trail) s told.1 in (
      one_more earlier (with_lines phase said parts lines.items) old mid new trail are own others kept,
      λ more reports. right_block earlier phase line said report parts more reports h cut
          ∙ ap (λ (z : List Line). with_block (with_lines phase said parts z) (blocks_cut (earlier ++ with_lines phase said parts z ∷ []) phase
          (line + length (block_lines report)) more reports)) (sym l),
    )

-- where memory runs out nothing is claimed
pub entries_refused : (context : Context) (line : ℕ) (lines : List Line) (report : BlockReport) (r : Result (Vec ℕ Global) ShapeFault) (trail : Context) → IsErrAnd r (λ fault. fault ≡ NoMemory) → AreEntriesCut context line lines report r trail
entries_refused context line lines report (Ok ends) trail is = absurd is
entries_refused context line lines report (Err fault) trail is = subst (λ (z : ShapeFault). AreEntriesCut context line lines report (Err z) trail) (sym is) tt

pub block_refused : (earlier : List Block) (phase line : ℕ) (said : Said) (report : BlockReport) (r : Result CutBlock ShapeFault) (new : BTreeMap ℕ Context) → IsErrAnd r (λ fault. fault ≡ NoMemory) → IsBlockCut earlier phase line said report r new
block_refused earlier phase line said report (Ok cut) new is = absurd is
block_refused earlier phase line said report (Err fault) new is = subst (λ (z : ShapeFault). IsBlockCut earlier phase line said report (Err z) new) (sym is) tt

pub blocks_refused : (earlier : List Block) (phase line : ℕ) (saids : List Said) (reports : List BlockReport) (r : Result (Vec CutBlock Global × ℕ) ShapeFault) (new : BTreeMap ℕ Context) → IsErrAnd r (λ fault. fault ≡ NoMemory) → AreBlocksCut earlier phase line saids reports r new
blocks_refused earlier phase line saids reports (Ok cut) new is = absurd is
blocks_refused earlier phase line saids reports (Err fault) new is = subst (λ (z : ShapeFault). AreBlocksCut earlier phase line saids reports (Err z) new) (sym is) tt
