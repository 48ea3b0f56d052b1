-- Steps of the cut of a report's phases.
use Rattle.std.proofs.Common.{◌≡◌, refl, ℕ, ◌+◌, ◌<◌, ◌≤◌, true, false, List, [], ◌∷◌, ◌++◌, length, get_or, drop, sym, ◌∙◌, ap, arith, append_assoc, subst, IsErrAnd}
use Rattle.std.specs.Prelude.{◌==◌, Result, Ok, Err, Vec}
use Rattle.std.specs.declared.alloc.Global.{Global}
use Rattle.std.specs.List.{flat_map}
use Rattle.std.specs.BTreeMap.{BTreeMap}
use Rattle.std.proofs.lemmas.List.{append-nil, drop_all, drop_more, length-append, length-drop}
use Rattle.pfs_journal.specs.ReportLines.{block_lines, phase_lines}
use Rattle.pfs_journal.specs.declared.blocks.BlockReport.{BlockReport}
use Rattle.pfs_journal.specs.declared.report.PhaseParts.{PhaseParts}
use Rattle.pfs_journal.specs.declared.report.ReportParts.{ReportParts}
use Rattle.pfs_model.specs.Contexts.{Context}
use Rattle.pfs_model.specs.EntryPlaces.{Block}
use Rattle.pfs_runs.specs.Runs.{all_blocks}
use Rattle.pfs_script.specs.declared.blocks.Block.{Block as Said}
use Rattle.pfs_script.specs.declared.blocks.Phase.{Phase}
use Rattle.pfs_check_lines.proofs.ListPlaces.{parted}
use Rattle.pfs_check_faults.specs.ShapeFaults.{blocks_cut, phases_cut, report_cut, with_blocks}
use Rattle.pfs_check_cut.specs.CutReports.{AreBlocksCut, IsPhaseCut, IsReportCut, blocks_by, phases_by}
use Rattle.pfs_check_line_numbers.specs.LineCounts.{result_lines}
use Rattle.pfs_check_cut.specs.Sessions.{AreTrailsOf}
use Rattle.pfs_check_cut.specs.declared.blocks.CutBlock.{CutBlock}
use Rattle.pfs_check_line_numbers.proofs.LineSteps.{phase_reaches}
use Rattle.pfs_check_cut.specs.declared.blocks.CutPhase.{CutPhase}
use Rattle.pfs_check_cut.specs.declared.blocks.ShapeFault.{ShapeFault}
use Rattle.pfs_check_cut.specs.declared.blocks.ShapeFault.TheVariants.{Line as at_line, NoMemory}

-- a phase of another number
pub wrong_number : (earlier : List Block) (number line : ℕ) (phase : Phase) (report : PhaseParts) (phases : List Phase) (reports : List PhaseParts) → (report.number == number) ≡ false → phases_cut earlier number line (phase ∷ phases) (report ∷ reports) ≡ Err line
unfolding phases_cut
wrong_number earlier number line phase report phases reports h = rw h refl

-- a phase with a line in its blocks that stands in the way
pub wrong_blocks : (earlier : List Block) (number line at : ℕ) (phase : Phase) (report : PhaseParts) (phases : List Phase) (reports : List PhaseParts) → (report.number == number) ≡ true → blocks_cut earlier number (line + 1) phase.blocks report.blocks ≡ Err at → phases_cut earlier number line (phase ∷ phases) (report ∷ reports) ≡ Err at
unfolding phases_cut
wrong_blocks earlier number line at phase report phases reports h b = rw (h, b) refl

-- a phase with its blocks
pub right_phase : (earlier : List Block) (number line : ℕ) (phase : Phase) (report : PhaseParts) (blocks : List Block) (phases : List Phase) (reports : List PhaseParts) → (report.number == number) ≡ true → blocks_cut earlier number (line + 1) phase.blocks report.blocks ≡ Ok blocks → phases_cut earlier number line (phase ∷ phases) (report ∷ reports) ≡ with_blocks blocks (phases_cut (earlier ++ blocks) (number + 1) (line + length (phase_lines report)) phases reports)
unfolding phases_cut
right_phase earlier number line phase report blocks phases reports h b = rw (h, b) refl

phases_by_more : (cuts : List CutPhase) (cut : CutPhase) (reports : List PhaseParts) (report : PhaseParts) → length cuts < length reports → report ≡ get_or reports (length cuts) report → phases_by (cuts ++ cut ∷ []) reports ≡ phases_by cuts reports ++ blocks_by cut.blocks.items report.blocks ∷ []
phases_by_more [] cut [] report h is = absurd (omega arith)
phases_by_more [] cut (r ∷ reports) report h is = ap (λ (z : PhaseParts). blocks_by cut.blocks.items z.blocks ∷ []) (sym is)
phases_by_more (one ∷ cuts) cut [] report h is = absurd (omega arith)
phases_by_more (one ∷ cuts) cut (r ∷ reports) report h is = ap (λ (z : List (List Block)). blocks_by one.blocks.items r.blocks ∷ z) (phases_by_more cuts cut reports report (omega arith) is)

all_more : (phases : List (List Block)) (blocks : List Block) → all_blocks (phases ++ blocks ∷ []) ≡ all_blocks phases ++ blocks
all_more [] blocks = append-nil blocks
all_more (one ∷ phases) blocks = ap (λ z. one ++ z) (all_more phases blocks) ∙ sym (append_assoc one (all_blocks phases) blocks)

-- phases, before those that are left
abbrev pub behind_phases : List (List Block) → Result (List (List Block)) ℕ → Result (List (List Block)) ℕ
behind_phases done (Ok phases) = Ok (done ++ phases)
behind_phases done (Err line) = Err line

then_phase : (done : List (List Block)) (blocks : List Block) (r : Result (List (List Block)) ℕ) → behind_phases done (with_blocks blocks r) ≡ behind_phases (done ++ blocks ∷ []) r
then_phase done blocks (Ok phases) = ap (λ z. Ok z) (sym (append_assoc done (blocks ∷ []) phases))
then_phase done blocks (Err line) = refl

-- What is left, behind the phases that are cut, gives the whole.
pub record AreUnder (phases : List Phase) (reports : List PhaseParts) (cuts : List CutPhase) (trails : BTreeMap ℕ Context) (number line : ℕ) : Type 0 where
  pub same : behind_phases (phases_by cuts reports) (phases_cut (all_blocks (phases_by cuts reports)) (number + 1) line (drop number phases) (drop number reports)) ≡ phases_cut [] 1 2 phases reports
  pub trails_are : AreTrailsOf (all_blocks (phases_by cuts reports)) trails
  pub count : length cuts ≡ number
  pub within : number ≤ length reports

pub opening : (phases : List Phase) (reports : List PhaseParts) (cuts : List CutPhase) (trails : BTreeMap ℕ Context) → cuts ≡ [] → AreTrailsOf [] trails → AreUnder phases reports cuts trails 0 2
opening phases reports cuts trails e are = rw e (record {
  same = all (phases_cut [] 1 2 phases reports);
  trails_are = are;
  count = refl;
  within = omega arith;
}) where
  all : (r : Result (List (List Block)) ℕ) → behind_phases [] r ≡ r
  all (Ok phases) = refl
  all (Err line) = refl

-- the next phase, in the words of a cut of one phase
abbrev pub GoesOn : List Block → ℕ → ℕ → Phase → PhaseParts → List Block → Type 0
GoesOn earlier number line phase report blocks =
    (phases : List Phase) (reports : List PhaseParts) → phases_cut earlier number line (phase ∷ phases) (report ∷ reports)
    ≡ with_blocks blocks (phases_cut (earlier ++ blocks) (number + 1) (line + length (phase_lines report)) phases reports)

pub phase_taken : (phases : List Phase) (reports : List PhaseParts) (cuts : List CutPhase) (cut : CutPhase) (trails new : BTreeMap ℕ Context) (number line next : ℕ) (phase : Phase) (report : PhaseParts) → AreUnder phases reports cuts trails number line → number < length phases → number < length reports → phase ≡ get_or phases number phase → report ≡ get_or reports number report → AreTrailsOf (all_blocks (phases_by cuts reports) ++ blocks_by cut.blocks.items report.blocks) new → GoesOn (all_blocks (phases_by cuts reports)) (number + 1) line phase report (blocks_by cut.blocks.items report.blocks) → next ≡ line + length (phase_lines report) → AreUnder phases reports (cuts ++ cut ∷ []) new (number + 1) next
phase_taken phases reports cuts cut trails new number line next phase report a s p phase_is report_is are goes n =
    let done = phases_by cuts reports in
    let earlier = all_blocks done in
    let blocks = blocks_by cut.blocks.items report.blocks in
    let here : report ≡ get_or reports (length cuts) report = report_is ∙ ap (λ (z : ℕ). get_or reports z report) (sym a.count) in
    let more : phases_by (cuts ++ cut ∷ []) reports ≡ done ++ blocks ∷ [] = phases_by_more cuts cut reports report (omega (arith, a.count)) here in
    let behind : earlier ++ blocks ≡ all_blocks (phases_by (cuts ++ cut ∷ []) reports) = sym (ap all_blocks more ∙ all_more done blocks) in
    let left : Result (List (List Block)) ℕ = phases_cut (all_blocks (phases_by (cuts ++ cut ∷ []) reports)) (number + 1 + 1) next (drop (number + 1) phases) (drop (number + 1) reports) in
    let step : phases_cut earlier (number + 1) line (drop number phases) (drop number reports) ≡ with_blocks blocks left =
    ap (λ (z : List Phase). phases_cut earlier (number + 1) line z (drop number reports)) (parted phases number phase s phase_is)
    ∙ ap (λ (z : List PhaseParts). phases_cut earlier (number + 1) line (phase ∷ drop (number + 1) phases) z) (parted reports number report p report_is)
    ∙ goes (drop (number + 1) phases) (drop (number + 1) reports)
    ∙ ap (λ (z : List Block). with_blocks blocks (phases_cut z (number + 1 + 1) (line + length (phase_lines report)) (drop (number + 1) phases) (drop (number + 1) reports))) behind
    ∙ ap (λ (z : ℕ). with_blocks blocks (phases_cut (all_blocks (phases_by (cuts ++ cut ∷ []) reports)) (number + 1 + 1) z (drop (number + 1) phases) (drop (number + 1) reports))) (sym n) in
    record {
      same = ap (λ (z : List (List Block)). behind_phases z left) more ∙ sym (then_phase done blocks left) ∙ ap (behind_phases done) (sym step) ∙ a.same;
      trails_are = subst (λ (z : List Block). AreTrailsOf z new) behind are;
      count = length-append cuts (cut ∷ []) ∙ ap (λ (z : ℕ). z + 1) a.count;
      within = omega arith;
    }

-- the next phase has a line that stands in the way
pub phase_wrong : (phases : List Phase) (reports : List PhaseParts) (cuts : List CutPhase) (trails : BTreeMap ℕ Context) (number line at : ℕ) (phase : Phase) (report : PhaseParts) → AreUnder phases reports cuts trails number line → number < length phases → number < length reports → phase ≡ get_or phases number phase → report ≡ get_or reports number report → ((others : List Phase) (more : List PhaseParts) → phases_cut (all_blocks (phases_by cuts reports)) (number + 1) line (phase ∷ others) (report ∷ more) ≡ Err at) → phases_cut [] 1 2 phases reports ≡ Err at
phase_wrong phases reports cuts trails number line at phase report a s p phase_is report_is wrong =
    let done = phases_by cuts reports in
    let earlier = all_blocks done in
    sym a.same
    ∙ ap (λ (z : List Phase). behind_phases done (phases_cut earlier (number + 1) line z (drop number reports))) (parted phases number phase s phase_is)
    ∙ ap (λ (z : List PhaseParts). behind_phases done (phases_cut earlier (number + 1) line (phase ∷ drop (number + 1) phases) z)) (parted reports number report p report_is)
    ∙ ap (behind_phases done) (wrong (drop (number + 1) phases) (drop (number + 1) reports))

no_report : (earlier : List Block) (number line : ℕ) (phase : Phase) (phases : List Phase) → phases_cut earlier number line (phase ∷ phases) [] ≡ Err line
unfolding phases_cut
no_report earlier number line phase phases = refl

-- a phase is missing
pub phase_missing : (phases : List Phase) (reports : List PhaseParts) (cuts : List CutPhase) (trails : BTreeMap ℕ Context) (number line : ℕ) (d : Phase) → AreUnder phases reports cuts trails number line → number < length phases → length reports ≤ number → phases_cut [] 1 2 phases reports ≡ Err line
phase_missing phases reports cuts trails number line d a s p =
    sym a.same
    ∙ ap (λ z. behind_phases (phases_by cuts reports) (phases_cut (all_blocks (phases_by cuts reports)) (number + 1) line z (drop number reports))) (drop_more phases number d s)
    ∙ ap (λ z. behind_phases (phases_by cuts reports) (phases_cut (all_blocks (phases_by cuts reports)) (number + 1) line (get_or phases number d ∷ drop (number + 1) phases) z)) (drop_all number reports p)
    ∙ ap (behind_phases (phases_by cuts reports)) (no_report (all_blocks (phases_by cuts reports)) (number + 1) line (get_or phases number d) (drop (number + 1) phases))

-- one is too many
pub phase_extra : (phases : List Phase) (reports : List PhaseParts) (cuts : List CutPhase) (trails : BTreeMap ℕ Context) (number line : ℕ) → AreUnder phases reports cuts trails number line → length phases ≤ number → number < length reports → phases_cut [] 1 2 phases reports ≡ Err line
unfolding phases_cut
phase_extra phases reports cuts trails number line a s p =
    sym a.same ∙ rw (drop_all number phases s) (left (drop number reports) (omega (arith, length-drop number reports))) where
      left : (rest : List PhaseParts) → 0 < length rest → behind_phases (phases_by cuts reports) (phases_cut (all_blocks (phases_by cuts reports)) (number + 1) line [] rest) ≡ Err line
      left [] n = absurd (omega arith)
      left (r ∷ rs) n = refl

-- all are cut
pub phases_over : (phases : List Phase) (reports : List PhaseParts) (cuts : List CutPhase) (trails : BTreeMap ℕ Context) (number line : ℕ) → AreUnder phases reports cuts trails number line → length phases ≤ number → length reports ≤ number → phases_cut [] 1 2 phases reports ≡ Ok (phases_by cuts reports)
unfolding phases_cut
phases_over phases reports cuts trails number line a s p =
    sym a.same ∙ rw (drop_all number phases s, drop_all number reports p, append-nil (phases_by cuts reports)) refl

-- so of a report
pub phases_done : (phases : List Phase) (report : ReportParts) (reports : List PhaseParts) (cuts : List CutPhase) (trails : BTreeMap ℕ Context) (number line : ℕ) → reports ≡ report.phases → AreUnder phases reports cuts trails number line → length phases ≤ number → length reports ≤ number → report_cut phases report ≡ Ok (phases_by cuts report.phases)
phases_done phases report reports cuts trails number line e a s p =
    sym (ap (λ (z : List PhaseParts). phases_cut [] 1 2 phases z) e)
    ∙ phases_over phases reports cuts trails number line a s p
    ∙ ap (λ (z : List PhaseParts). Ok (phases_by cuts z)) e

-- what is said of the phases of a report is said of it
pub of_report : (phases : List Phase) (report : ReportParts) (reports : List PhaseParts) (r : Result (List (List Block)) ℕ) → reports ≡ report.phases → phases_cut [] 1 2 phases reports ≡ r → report_cut phases report ≡ r
of_report phases report reports r e h = sym (ap (λ (z : List PhaseParts). phases_cut [] 1 2 phases z) e) ∙ h

-- a fault of its blocks is one of a phase
pub blocks_fault : (earlier : List Block) (number line first : ℕ) (phase : Phase) (report : PhaseParts) (saids : List Said) (reports : List BlockReport) (trails new : BTreeMap ℕ Context) (fault : ShapeFault) → (report.number == number) ≡ true → saids ≡ phase.blocks → reports ≡ report.blocks → first ≡ line + 1 → AreBlocksCut earlier number first saids reports (Err fault) trails → IsPhaseCut earlier number line phase report (Err fault) new
blocks_fault earlier number line first phase report saids reports trails new (at_line at) h s r f told = λ phases others.
    wrong_blocks earlier number line at phase report phases others h
    (sym (ap (λ (z : List Said). blocks_cut earlier number (line + 1) z report.blocks) s)
    ∙ sym (ap (λ (z : List BlockReport). blocks_cut earlier number (line + 1) saids z) r)
    ∙ sym (ap (λ (z : ℕ). blocks_cut earlier number z saids reports) f)
    ∙ told)
blocks_fault earlier number line first phase report saids reports trails new NoMemory h s r f told = tt

-- and one of a phase is one of the report
pub phase_fault : (phases : List Phase) (report : ReportParts) (reports : List PhaseParts) (cuts : List CutPhase) (trails new : BTreeMap ℕ Context) (number line : ℕ) (phase : Phase) (parts : PhaseParts) (fault : ShapeFault) → reports ≡ report.phases → AreUnder phases reports cuts trails number line → number < length phases → number < length reports → phase ≡ get_or phases number phase → parts ≡ get_or reports number parts → IsPhaseCut (all_blocks (phases_by cuts reports)) (number + 1) line phase parts (Err fault) new → IsReportCut phases report (Err fault)
phase_fault phases report reports cuts trails new number line phase parts (at_line at) e a s p phase_is parts_is wrong =
    of_report phases report reports (Err at) e (phase_wrong phases reports cuts trails number line at phase parts a s p phase_is parts_is wrong)
phase_fault phases report reports cuts trails new number line phase parts NoMemory e a s p phase_is parts_is wrong = tt

-- a phase with its blocks is cut
pub phase_done : (earlier : List Block) (number line first last end : ℕ) (phase : Phase) (report : PhaseParts) (saids : List Said) (reports : List BlockReport) (blocks : Vec CutBlock Global) (trails : BTreeMap ℕ Context) → (report.number == number) ≡ true → saids ≡ phase.blocks → reports ≡ report.blocks → first ≡ line + 1 → AreBlocksCut earlier number first saids reports (Ok (blocks, last)) trails → end ≡ last + length (result_lines report) → IsPhaseCut earlier number line phase report (Ok (record { blocks = blocks }, end)) trails
phase_done earlier number line first last end phase report saids reports blocks trails h s r f told e =
    let cut : blocks_cut earlier number (line + 1) phase.blocks report.blocks ≡ Ok (blocks_by blocks.items report.blocks) =
    sym (ap (λ (z : List Said). blocks_cut earlier number (line + 1) z report.blocks) s)
    ∙ sym (ap (λ (z : List BlockReport). blocks_cut earlier number (line + 1) saids z) r)
    ∙ sym (ap (λ (z : ℕ). blocks_cut earlier number z saids reports) f)
    ∙ told.1
    ∙ ap (λ (z : List BlockReport). Ok (blocks_by blocks.items z)) r in
    let reaches : last ≡ first + length (flat_map block_lines report.blocks) =
    told.2 ∙ ap (λ (z : List BlockReport). first + length (flat_map block_lines z)) r in (
      subst (λ (z : List BlockReport). AreTrailsOf (earlier ++ blocks_by blocks.items z) trails) r told.0,
      λ phases others. right_phase earlier number line phase report (blocks_by blocks.items report.blocks) phases others h cut,
      e ∙ phase_reaches report line first last f reaches,
    )

-- where memory runs out nothing is claimed
pub phase_refused : (earlier : List Block) (number line : ℕ) (phase : Phase) (report : PhaseParts) (r : Result (CutPhase × ℕ) ShapeFault) (new : BTreeMap ℕ Context) → IsErrAnd r (λ fault. fault ≡ NoMemory) → IsPhaseCut earlier number line phase report r new
phase_refused earlier number line phase report (Ok cut) new is = absurd is
phase_refused earlier number line phase report (Err fault) new is = subst (λ (z : ShapeFault). IsPhaseCut earlier number line phase report (Err z) new) (sym is) tt

pub report_refused : (phases : List Phase) (report : ReportParts) (r : Result (Vec CutPhase Global) ShapeFault) → IsErrAnd r (λ fault. fault ≡ NoMemory) → IsReportCut phases report r
report_refused phases report (Ok cut) is = absurd is
report_refused phases report (Err fault) is = subst (λ (z : ShapeFault). IsReportCut phases report (Err z)) (sym is) tt
