-- The blocks of a phase and the phases of a report, visited one after another.
use Rattle.std.proofs.Common.{◌≡◌, refl, ℕ, ◌+◌, ◌<◌, ◌≤◌, List, [], ◌∷◌, ◌++◌, length, get_or, drop, sym, ◌∙◌, ap, subst, append_assoc}
use Rattle.std.specs.BTreeMap.{BTreeMap}
use Rattle.std.proofs.lemmas.List.{append-nil, drop_all}
use Rattle.pfs_model.specs.declared.lines.Line.{Line}
use Rattle.pfs_journal.specs.declared.blocks.BlockReport.{BlockReport}
use Rattle.pfs_journal.specs.declared.report.PhaseParts.{PhaseParts}
use Rattle.pfs_model.specs.Contexts.{Context, fresh}
use Rattle.pfs_model.specs.EntryPlaces.{Block, Placed, after_lines, placed_lines, places, places_behind, told_by}
use Rattle.pfs_model.specs.EventNumbers.{AreNumbered, IsNumbered}
use Rattle.pfs_runs.specs.Runs.{all_blocks}
use Rattle.pfs_check_cut.specs.CutReports.{block_by, blocks_by, phases_by}
use Rattle.pfs_check_cut.specs.Sessions.{AreTrailsOf}
use Rattle.pfs_check_cut.specs.declared.blocks.CutBlock.{CutBlock}
use Rattle.pfs_check_cut.specs.declared.blocks.CutPhase.{CutPhase}
use Rattle.pfs_check_faults.specs.ReportCases.{AllHave}
use Rattle.pfs_check_parts.specs.Parts.{pieces}
use Rattle.pfs_check_trail.specs.Trails.{IsTrailOf}
use Rattle.pfs_check_walk.specs.Walks.{LacksFirst, onto}
use Rattle.pfs_check_visits.specs.declared.visited.Visited.{Visited}
use Rattle.pfs_check_visits.specs.declared.visited.Visited.TheVariants.{Kept, Lacking}
use Rattle.pfs_check_visits.specs.ReportVisits.{AreNumbersAsked, block_places}
use Rattle.pfs_check_visits.specs.Visits.{AreKept, AreVisited}
use Rattle.pfs_check_visits.proofs.VisitSteps.{IsAt, at_end, at_first, at_lacking, at_more, next_is, told_as}

-- Blocks are left behind those that the tracks have.
pub record AreLeft (rule : List Placed → Placed → Type 0) (knows : List Placed → Type 0) (earlier : List Placed)
    (before all rest : List Block) (count : ℕ) (tracks : BTreeMap ℕ Context) : Type 0 where
  pub done : List Block
  pub tracked : AreTrailsOf done tracks
  pub behind : done ++ rest ≡ before ++ all
  pub at : IsAt rule knows earlier (places_behind before all) (places_behind done rest) count

pub left_first : (rule : List Placed → Placed → Type 0) (knows : List Placed → Type 0) (earlier : List Placed)
    (before all : List Block) (tracks : BTreeMap ℕ Context) → AreTrailsOf before tracks → knows earlier
    → AreLeft rule knows earlier before all all 0 tracks
left_first rule knows earlier before all tracks t k = record {
  done = before;
  tracked = t;
  behind = refl;
  at = at_first rule knows earlier (places_behind before all) k;
}

-- the entries of blocks, and of those behind them
places_both : (before xs ys : List Block) → places_behind before (xs ++ ys) ≡ places_behind before xs ++ places_behind (before ++ xs) ys
unfolding places_behind
places_both before [] ys = ap (λ (z : List Block). places_behind z ys) (sym (append-nil before))
places_both before (x ∷ xs) ys =
    ap (λ (z : List Placed). block_places before x ++ z) (places_both (before ++ x ∷ []) xs ys
    ∙ ap (λ (z : List Block). places_behind (before ++ x ∷ []) xs ++ places_behind z ys) (append_assoc before (x ∷ []) xs))
    ∙ sym (append_assoc (block_places before x) (places_behind (before ++ x ∷ []) xs) (places_behind (before ++ (x ∷ xs)) ys))

no_places : (before : List Block) → places_behind before [] ≡ []
unfolding places_behind
no_places before = refl

alone : (before : List Block) (block : Block) → places_behind before (block ∷ []) ≡ block_places before block
unfolding places_behind
alone before block = append-nil (block_places before block)

-- some blocks more
pub left_more : (rule : List Placed → Placed → Type 0) (knows known : List Placed → Type 0) (earlier : List Placed)
    (before all rest part more : List Block) (count few next : ℕ) (tracks new : BTreeMap ℕ Context)
    (a : AreLeft rule knows earlier before all rest count tracks) → rest ≡ part ++ more
    → AreKept rule (onto earlier a.at.done) (places_behind a.done part) known few → AreTrailsOf (a.done ++ part) new
    → next ≡ count + few → AreLeft rule known earlier before all more next new
left_more rule knows known earlier before all rest part more count few next tracks new a r kept t n = record {
  done = a.done ++ part;
  tracked = t;
  behind = append_assoc a.done part more ∙ sym (ap (λ (z : List Block). a.done ++ z) r) ∙ a.behind;
  at = at_more rule knows known earlier (places_behind before all) (places_behind a.done rest) (places_behind a.done part)
      (places_behind (a.done ++ part) more) count few next a.at
      (ap (λ (z : List Block). places_behind a.done z) r ∙ places_both a.done part more) kept n;
}

pub left_lacking : (rule : List Placed → Placed → Type 0) (knows : List Placed → Type 0) (earlier : List Placed)
    (before all rest part more : List Block) (count few next : ℕ) (tracks : BTreeMap ℕ Context)
    (a : AreLeft rule knows earlier before all rest count tracks) → rest ≡ part ++ more
    → LacksFirst rule (onto earlier a.at.done) (places_behind a.done part) few → next ≡ count + few
    → LacksFirst rule earlier (places_behind before all) next
left_lacking rule knows earlier before all rest part more count few next tracks a r lacks n =
    at_lacking rule knows earlier (places_behind before all) (places_behind a.done rest) (places_behind a.done part)
    (places_behind (a.done ++ part) more) count few next a.at
    (ap (λ (z : List Block). places_behind a.done z) r ∙ places_both a.done part more) lacks n

pub left_end : (rule : List Placed → Placed → Type 0) (knows : List Placed → Type 0) (earlier : List Placed)
    (before all rest : List Block) (count : ℕ) (tracks : BTreeMap ℕ Context) → rest ≡ []
    → AreLeft rule knows earlier before all rest count tracks
    → AreKept rule earlier (places_behind before all) knows count × AreTrailsOf (before ++ all) tracks
left_end rule knows earlier before all rest count tracks r a = (
  at_end rule knows earlier (places_behind before all) (places_behind a.done rest) count a.at
      (ap (λ (z : List Block). places_behind a.done z) r ∙ no_places a.done),
  subst (λ (z : List Block). AreTrailsOf z tracks)
      (sym (ap (λ (z : List Block). a.done ++ z) r ∙ append-nil a.done) ∙ a.behind) a.tracked,
)

-- one block is visited as blocks are
pub one_kept : (rule : List Placed → Placed → Type 0) (earlier : List Placed) (before : List Block) (block : Block)
    (knows : List Placed → Type 0) (count : ℕ) → AreKept rule earlier (block_places before block) knows count
    → AreKept rule earlier (places_behind before (block ∷ [])) knows count
one_kept rule earlier before block knows count k =
    subst (λ (z : List Placed). AreKept rule earlier z knows count) (sym (alone before block)) k

pub one_lacking : (rule : List Placed → Placed → Type 0) (earlier : List Placed) (before : List Block) (block : Block)
    (at : ℕ) → LacksFirst rule earlier (block_places before block) at → LacksFirst rule earlier (places_behind before (block ∷ [])) at
one_lacking rule earlier before block at l =
    subst (λ (z : List Placed). LacksFirst rule earlier z at) (sym (alone before block)) l

-- the next block of a phase, and the next phase
pub next_block : (cuts : List CutBlock) (reports : List BlockReport) (i : ℕ) (cut : CutBlock) (report : BlockReport)
    → i < length cuts → i < length reports → cut ≡ get_or cuts i cut → report ≡ get_or reports i report
    → blocks_by (drop i cuts) (drop i reports) ≡ (block_by cut report ∷ []) ++ blocks_by (drop (i + 1) cuts) (drop (i + 1) reports)
next_block cuts reports i cut report h g c r =
    ap (λ (z : List CutBlock). blocks_by z (drop i reports)) (next_is cuts i cut h c)
    ∙ ap (λ (z : List BlockReport). blocks_by (cut ∷ drop (i + 1) cuts) z) (next_is reports i report g r)

next_phase : (cuts : List CutPhase) (reports : List PhaseParts) (i : ℕ) (cut : CutPhase) (report : PhaseParts)
    → i < length cuts → i < length reports → cut ≡ get_or cuts i cut → report ≡ get_or reports i report
    → all_blocks (phases_by (drop i cuts) (drop i reports))
    ≡ blocks_by cut.blocks.items report.blocks ++ all_blocks (phases_by (drop (i + 1) cuts) (drop (i + 1) reports))
next_phase cuts reports i cut report h g c r =
    ap (λ (z : List CutPhase). all_blocks (phases_by z (drop i reports))) (next_is cuts i cut h c)
    ∙ ap (λ (z : List PhaseParts). all_blocks (phases_by (cut ∷ drop (i + 1) cuts) z)) (next_is reports i report g r)

pub next_phase_of : (cuts : List CutPhase) (reports : List PhaseParts) (i : ℕ) (cut : CutPhase) (report : PhaseParts)
    (blocks : List CutBlock) (printed : List BlockReport) → i < length cuts → i < length reports → cut ≡ get_or cuts i cut
    → report ≡ get_or reports i report → blocks ≡ cut.blocks.items → printed ≡ report.blocks
    → all_blocks (phases_by (drop i cuts) (drop i reports))
    ≡ blocks_by blocks printed ++ all_blocks (phases_by (drop (i + 1) cuts) (drop (i + 1) reports))
next_phase_of cuts reports i cut report blocks printed h g c r b p =
    next_phase cuts reports i cut report h g c r
    ∙ sym (ap (λ (z : List BlockReport). blocks_by cut.blocks.items z ++ all_blocks (phases_by (drop (i + 1) cuts) (drop (i + 1) reports))) p)
    ∙ sym (ap (λ (z : List CutBlock). blocks_by z printed ++ all_blocks (phases_by (drop (i + 1) cuts) (drop (i + 1) reports))) b)

-- no cut is left, or no report
no_reports : (cuts : List CutBlock) → blocks_by cuts [] ≡ []
no_reports [] = refl
no_reports (cut ∷ cuts) = refl

pub cuts_over : (cuts : List CutBlock) (reports : List BlockReport) (i : ℕ) → length cuts ≤ i → blocks_by (drop i cuts) (drop i reports) ≡ []
cuts_over cuts reports i h = ap (λ (z : List CutBlock). blocks_by z (drop i reports)) (drop_all i cuts h)

pub reports_over : (cuts : List CutBlock) (reports : List BlockReport) (i : ℕ) → length reports ≤ i → blocks_by (drop i cuts) (drop i reports) ≡ []
reports_over cuts reports i h = ap (λ (z : List BlockReport). blocks_by (drop i cuts) z) (drop_all i reports h) ∙ no_reports (drop i cuts)

no_phases : (cuts : List CutPhase) → all_blocks (phases_by cuts []) ≡ []
no_phases [] = refl
no_phases (cut ∷ cuts) = refl

pub phases_over : (cuts : List CutPhase) (reports : List PhaseParts) (i : ℕ) → length cuts ≤ i
    → all_blocks (phases_by (drop i cuts) (drop i reports)) ≡ []
phases_over cuts reports i h = ap (λ (z : List CutPhase). all_blocks (phases_by z (drop i reports))) (drop_all i cuts h)

pub parts_over : (cuts : List CutPhase) (reports : List PhaseParts) (i : ℕ) → length reports ≤ i
    → all_blocks (phases_by (drop i cuts) (drop i reports)) ≡ []
parts_over cuts reports i h =
    ap (λ (z : List PhaseParts). all_blocks (phases_by (drop i cuts) z)) (drop_all i reports h) ∙ no_phases (drop i cuts)

-- the numbers of events, asked one by one, are those of all
all_numbered : (earlier places : List Placed) → AllHave (λ (before : List Placed) (place : Placed). IsNumbered place.context place.entry) earlier places
    → AreNumbered places
all_numbered earlier [] h = tt
all_numbered earlier (place ∷ places) h = (h.0, all_numbered (place ∷ earlier) places h.1)

pub numbers_asked : (all : List Placed) (knows : List Placed → Type 0) (told : Type 0) (visited : Visited)
    → AreVisited (λ (before : List Placed) (place : Placed). IsNumbered place.context place.entry) [] all knows told visited
    → AreNumbersAsked all visited
numbers_asked all knows told (Kept count) v = all_numbered [] all v.0.keep
numbers_asked all knows told (Lacking at) v = v

-- the lines of a block are visited, so it is
pub block_visited : (rule : List Placed → Placed → Type 0) (earlier : List Placed) (blocks : List Block) (cut : CutBlock)
    (report : BlockReport) (ls : List Line) (es : List ℕ) (knows : List Placed → Type 0) (track : Context) (told : Type 0)
    (visited : Visited) → ls ≡ cut.lines.items → es ≡ cut.ends.items
    → (IsTrailOf (after_lines (told_by cut.session fresh blocks) cut.lines.items (pieces 0 cut.ends.items report.entries)) track → told)
    → AreVisited rule earlier (placed_lines cut.phase cut.session (told_by cut.session fresh blocks) ls (pieces 0 es report.entries)) knows
    (IsTrailOf (after_lines (told_by cut.session fresh blocks) ls (pieces 0 es report.entries)) track) visited
    → AreVisited rule earlier (block_places blocks (block_by cut report)) knows told visited
block_visited rule earlier blocks cut report ls es knows track told visited l e go v =
    let context = told_by cut.session fresh blocks in
    told_as rule earlier (block_places blocks (block_by cut report)) knows
    (IsTrailOf (after_lines context cut.lines.items (pieces 0 cut.ends.items report.entries)) track) told visited go
    (subst (λ (z : List ℕ). AreVisited rule earlier (placed_lines cut.phase cut.session context cut.lines.items (pieces 0 z report.entries)) knows
    (IsTrailOf (after_lines context cut.lines.items (pieces 0 z report.entries)) track) visited) e
    (subst (λ (z : List Line). AreVisited rule earlier (placed_lines cut.phase cut.session context z (pieces 0 es report.entries)) knows
    (IsTrailOf (after_lines context z (pieces 0 es report.entries)) track) visited) l v))

-- the entries of all blocks of a report are visited
pub all_visited : (rule : List Placed → Placed → Type 0) (knows : List Placed → Type 0) (cuts : List CutPhase)
    (reports phases : List PhaseParts) (visited : Visited) (told : Type 0) → reports ≡ phases
    → AreVisited rule [] (places_behind [] (all_blocks (phases_by cuts reports))) knows told visited
    → AreVisited rule [] (places (all_blocks (phases_by cuts phases))) knows (Unit {0}) visited
all_visited rule knows cuts reports phases visited told r v =
    told_as rule [] (places (all_blocks (phases_by cuts phases))) knows told (Unit {0}) visited (λ _. tt)
    (subst (λ (z : List PhaseParts). AreVisited rule [] (places_behind [] (all_blocks (phases_by cuts z))) knows told visited) r v)
