-- The actions of a run of a script do what the lines do at which they stand.
use Rattle.std.proofs.Common.{ℕ, ◌≡◌, ◌+◌, ◌==◌, Bool, true, false, cond, List, [], ◌∷◌, ◌++◌, length, length-append, map, Option, Some, None, eq-eqb, refl, sym, subst, ◌∙◌, ap, append_assoc, arith}
use Rattle.std.specs.Prelude.{filter}
use Rattle.std.specs.List.{flat_map}
use Rattle.std.proofs.lemmas.List.Concat.{flat_map-append}
use Rattle.std.proofs.lemmas.List.Elements.{filter-append}
use Rattle.pfs_admin.specs.declared.changes.Change.{Change}
use Rattle.pfs_board.specs.declared.view.Label.{Label}
use Rattle.pfs_play.specs.Errands.{LabelsName}
use Rattle.pfs_law_script.proofs.AskedLabels.{asked_there}
use Rattle.pfs_journal.specs.declared.blocks.BlockReport.{BlockReport}
use Rattle.pfs_journal.specs.declared.report.PhaseParts.{PhaseParts}
use Rattle.pfs_model.specs.Chains.{times}
use Rattle.pfs_model.specs.EntryPlaces.{Block, places}
use Rattle.pfs_model.specs.declared.lines.Line.{Line}
use Rattle.pfs_model.specs.declared.lines.Line.TheVariants as told
use Rattle.pfs_exec.specs.Requests.{request_of}
use Rattle.pfs_exec.specs.declared.requests.Request.{Request}
use Rattle.pfs_exec.specs.declared.requests.Request.TheVariants as requests
use Rattle.pfs_runs.specs.ScriptLines.{lines_in, line_in, sql_line, connect_lines, changes_in, changes_on, sql_changes, connect_changes, change_in}
use Rattle.pfs_runs.specs.Runs.{AreBlocksOf, ArePhasesOf, all_blocks}
use Rattle.pfs_script.specs.declared.blocks.Block.{Block as Said}
use Rattle.pfs_script.specs.declared.blocks.BlockLine.{BlockLine}
use Rattle.pfs_script.specs.declared.blocks.BlockLine.TheVariants as said
use Rattle.pfs_script.specs.declared.blocks.Connect.{Connect}
use Rattle.pfs_script.specs.declared.blocks.Phase.{Phase}
use Rattle.pfs_script.specs.Marks.{written_out}
use Rattle.pfs_law_conservation.specs.Premises.{IsChangeOf}
use Rattle.pfs_law_summaries.specs.OrderlyRuns.{ActionsLaw}
use Rattle.pfs_law_summaries.proofs.LineActions.{line_acts}
use Rattle.pfs_law_summaries.proofs.LabelEntries.{AreAskedOf, AreAskedBehind, asked_among, among_more, named_blocks}
use Rattle.pfs_law_summaries.proofs.LabelChanges.{named_actions}

-- the lines of a block ask for its changes
module _ (change : Label → Change) (session : ℕ) where
  sql_asked : (made : ℕ) (request : Request) (ls : List BlockLine) → ((n : ℕ)
      → LabelsName change session n (flat_map changes_on ls)
      → AreAskedOf change session n (map line_in ls ++ told.Close ∷ []))
      → LabelsName change session made (sql_changes request ++ flat_map changes_on ls)
      → AreAskedOf change session made (sql_line request ∷ (map line_in ls ++ told.Close ∷ []))
  sql_asked made (requests.Truncate what) ls go a = ((λ q. subst (IsChangeOf told.Change) (sym a.0) tt), go (made + 1) a.1)
  sql_asked made (requests.Update update) ls go a = ((λ q. subst (IsChangeOf told.Change) (sym a.0) tt), go (made + 1) a.1)
  sql_asked made (requests.Insert insert) ls go a = ((λ q. subst (IsChangeOf told.Change) (sym a.0) tt), go (made + 1) a.1)
  sql_asked made (requests.Delete delete) ls go a = ((λ q. subst (IsChangeOf told.Change) (sym a.0) tt), go (made + 1) a.1)
  sql_asked made (requests.Show select) ls go a = ((λ q. subst (IsChangeOf told.Show) (sym a.0) tt), go (made + 1) a.1)
  sql_asked made _ ls go a = ((λ q. absurd (cc)), go made a)

  lines_asked : (made : ℕ) (ls : List BlockLine) → LabelsName change session made (flat_map changes_on ls)
      → AreAskedOf change session made (map line_in ls ++ told.Close ∷ [])
  lines_asked made [] a = ((λ q. absurd (cc)), tt)
  lines_asked made (said.Quit ∷ ls) a =
      ((λ q. subst (IsChangeOf told.Quit) (sym a.0) tt), lines_asked (made + 1) ls a.1)
  lines_asked made (said.Sql text ∷ ls) a = sql_asked made (request_of text) ls (λ n h. lines_asked n ls h) a
  lines_asked made (_ ∷ ls) a = ((λ q. absurd (cc)), lines_asked made ls a)

  block_asked : (made : ℕ) (block : Said) → LabelsName change session made (changes_in block)
      → AreAskedOf change session made (lines_in block)
  block_asked made block a = at block.connect a where
    ls : List BlockLine
    ls = written_out block.lines

    at : (connect : Option Connect) → LabelsName change session made (connect_changes connect ++ flat_map changes_on ls)
        → AreAskedOf change session made (connect_lines connect ++ (map line_in ls ++ told.Close ∷ []))
    at None a = lines_asked made ls a
    at (Some names) a = ((λ q. subst (IsChangeOf told.Connect) (sym a.0) tt), lines_asked (made + 1) ls a.1)

sql_count : (request : Request) (ls : List Line) (asked : List Change) → times line_acts ls ≡ length asked
    → times line_acts (sql_line request ∷ ls) ≡ length (sql_changes request ++ asked)
sql_count (requests.Refused error) ls asked e = omega (arith, e)
sql_count (requests.Query select) ls asked e = omega (arith, e)
sql_count (requests.Show select) ls asked e = omega (arith, e)
sql_count (requests.Truncate what) ls asked e = omega (arith, e)
sql_count (requests.Update update) ls asked e = omega (arith, e)
sql_count (requests.Insert insert) ls asked e = omega (arith, e)
sql_count (requests.Delete delete) ls asked e = omega (arith, e)

lines_count : (ls : List BlockLine)
    → times line_acts (map line_in ls ++ told.Close ∷ []) ≡ length (flat_map changes_on ls)
lines_count [] = refl
lines_count (said.Quit ∷ ls) = omega (arith, lines_count ls)
lines_count (said.Sql text ∷ ls) =
    sql_count (request_of text) (map line_in ls ++ told.Close ∷ []) (flat_map changes_on ls) (lines_count ls)
lines_count (_ ∷ ls) = omega (arith, lines_count ls)

block_count : (block : Said) → times line_acts (lines_in block) ≡ length (changes_in block)
block_count block = at block.connect where
  ls : List BlockLine
  ls = written_out block.lines

  at : (connect : Option Connect) → times line_acts (connect_lines connect ++ (map line_in ls ++ told.Close ∷ []))
      ≡ length (connect_changes connect ++ flat_map changes_on ls)
  at None = lines_count ls
  at (Some names) = omega (arith, lines_count ls)

-- the blocks of a script, and how many changes a session's ask for
abbrev blocks_of : List Phase → List Said
blocks_of phases = flat_map (λ (phase : Phase). phase.blocks) phases

abbrev is_own : ℕ → Said → Bool
is_own session block = block.session == session

abbrev own_changes : ℕ → List Said → List Change
own_changes session blocks = flat_map changes_in (filter (is_own session) blocks)

own_then : (session : ℕ) (xs ys : List Said)
    → own_changes session (xs ++ ys) ≡ own_changes session xs ++ own_changes session ys
own_then session xs ys =
    ap (flat_map changes_in) (filter-append (is_own session) xs ys)
    ∙ flat_map-append changes_in (filter (is_own session) xs) (filter (is_own session) ys)

own_here : (block : Said) (rest : List Said)
    → own_changes block.session (block ∷ rest) ≡ changes_in block ++ own_changes block.session rest
own_here block rest =
    let others : List Said = filter (is_own block.session) rest in
    ap (λ b. flat_map changes_in (cond b (block ∷ others) others)) (eq-eqb block.session block.session refl)

own_one : (session : ℕ) (block : Said) → length (own_changes session (block ∷ []))
    ≡ cond {A = ℕ} (block.session == session) (length (changes_in block)) 0
own_one session block = at (block.session == session) where
  at : (b : Bool)
      → length (flat_map changes_in (cond b (block ∷ []) [])) ≡ cond {A = ℕ} b (length (changes_in block)) 0
  at true = omega (arith, length-append (changes_in block) [])
  at false = refl

-- the changes of a block are the next of its session's
said_asked : (phases : List Phase) (done : List Said) (block : Said) (rest : List Said)
    → blocks_of phases ≡ done ++ block ∷ rest
    → LabelsName (change_in phases) block.session (length (own_changes block.session done)) (changes_in block)
said_asked phases done block rest e =
    let session : ℕ = block.session in
    asked_there (change_in phases) session (own_changes session (blocks_of phases)) (λ line. refl)
    (length (own_changes session done)) (own_changes session done) (changes_in block) (own_changes session rest)
    (ap (own_changes session) e
    ∙ (own_then session done (block ∷ rest) ∙ ap (λ z. own_changes session done ++ z) (own_here block rest))) refl

-- the blocks of a run are those of the script, one after another
record IsTold (block : Said) (own : Block) : Type 0 where
  session : own.session ≡ block.session
  lines : own.lines ≡ lines_in block

abbrev AreTold : List Said → List Block → Type 0
AreTold [] [] = Unit {0}
AreTold (block ∷ blocks) (own ∷ owns) = IsTold block own × AreTold blocks owns
AreTold _ _ = ⊥

told_then : (blocks : List Said) (owns : List Block) (others : List Said) (more : List Block) → AreTold blocks owns
    → AreTold others more → AreTold (blocks ++ others) (owns ++ more)
told_then [] [] others more a b = b
told_then (block ∷ blocks) (own ∷ owns) others more a b = (a.0, told_then blocks owns others more a.1 b)
told_then [] (own ∷ owns) others more a b = absurd a
told_then (block ∷ blocks) [] others more a b = absurd a

blocks_told : (number : ℕ) (blocks : List Said) (reports : List BlockReport) (owns : List Block)
    → AreBlocksOf number blocks reports owns → AreTold blocks owns
blocks_told number [] [] [] are = tt
blocks_told number (block ∷ blocks) (report ∷ reports) (own ∷ owns) are =
    (record { session = are.0.session; lines = are.0.lines }, blocks_told number blocks reports owns are.1)
blocks_told number [] [] (own ∷ owns) are = absurd are
blocks_told number [] (report ∷ reports) owns are = absurd are
blocks_told number (block ∷ blocks) [] owns are = absurd are
blocks_told number (block ∷ blocks) (report ∷ reports) [] are = absurd are

phases_told : (number : ℕ) (phases : List Phase) (reports : List PhaseParts) (all : List (List Block))
    → ArePhasesOf number phases reports all → AreTold (blocks_of phases) (all_blocks all)
phases_told number [] [] [] are = tt
phases_told number (phase ∷ phases) (report ∷ reports) (owns ∷ all) are =
    told_then phase.blocks owns (blocks_of phases) (all_blocks all)
    (blocks_told number phase.blocks report.blocks owns are.1) (phases_told (number + 1) phases reports all are.2)
phases_told number [] [] (owns ∷ all) are = absurd are
phases_told number [] (report ∷ reports) all are = absurd are
phases_told number (phase ∷ phases) [] all are = absurd are
phases_told number (phase ∷ phases) (report ∷ reports) [] are = absurd are

module _ (phases : List Phase) where
  blocks_asked : (done blocks : List Said) (earlier owns : List Block) → blocks_of phases ≡ done ++ blocks
      → AreTold blocks owns → ((s : ℕ) → asked_among s earlier ≡ length (own_changes s done))
      → AreAskedBehind (change_in phases) earlier owns
  blocks_asked done [] earlier [] e are same = tt
  blocks_asked done (block ∷ blocks) earlier (own ∷ owns) e are same = (
    subst (AreAskedOf (change_in phases) own.session (asked_among own.session earlier)) (sym are.0.lines)
        (subst (λ s. AreAskedOf (change_in phases) s (asked_among s earlier) (lines_in block)) (sym are.0.session)
        (subst (λ n. AreAskedOf (change_in phases) block.session n (lines_in block)) (sym (same block.session))
        (block_asked (change_in phases) block.session (length (own_changes block.session done)) block
        (said_asked phases done block blocks e)))),
    blocks_asked (done ++ block ∷ []) blocks (earlier ++ own ∷ []) owns
        (e ∙ sym (append_assoc done (block ∷ []) blocks)) are.1 next,
  ) where
    next : (s : ℕ) → asked_among s (earlier ++ own ∷ []) ≡ length (own_changes s (done ++ block ∷ []))
    next s =
        let here : cond {A = ℕ} (own.session == s) (times line_acts own.lines) 0
        ≡ length (own_changes s (block ∷ [])) =
        ap (λ n. cond {A = ℕ} (n == s) (times line_acts own.lines) 0) are.0.session
        ∙ (ap (λ n. cond {A = ℕ} (block.session == s) n 0) (ap (times line_acts) are.0.lines ∙ block_count block)
        ∙ sym (own_one s block)) in
        let all : length (own_changes s (done ++ block ∷ []))
        ≡ length (own_changes s done) + length (own_changes s (block ∷ [])) =
        ap length (own_then s done (block ∷ [])) ∙ length-append (own_changes s done) (own_changes s (block ∷ [])) in
        omega (arith, here, all, same s, among_more s earlier own)
  blocks_asked done [] earlier (own ∷ owns) e are same = absurd are
  blocks_asked done (block ∷ blocks) earlier [] e are same = absurd are

pub actions_law : ActionsLaw
actions_law setting phases report run =
    named_actions (change_in phases) run.labels (places (all_blocks run.blocks)) run.labelled
    run.rules.joint.ordered.numbers
    (named_blocks (change_in phases) (all_blocks run.blocks) run.rules.shaped
    (blocks_asked phases [] (blocks_of phases) [] (all_blocks run.blocks) refl
    (phases_told 1 phases report.phases run.blocks run.phases_are) (λ s. refl)))
