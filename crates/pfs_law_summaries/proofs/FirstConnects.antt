-- The sessions of a script connect in their first blocks, so their connects are their first entries.
use Rattle.std.proofs.Common.{ℕ, ◌≡◌, ◌+◌, ◌==◌, Bool, true, false, cond, List, [], ◌∷◌, ◌++◌, map, Option, Some, None, refl, sym, subst, ◌∙◌, ap, append_assoc, append-nil}
use Rattle.std.specs.Prelude.{IfSome}
use Rattle.pfs_model.proofs.EachLists.{each_join}
use Rattle.pfs_law_script.specs.BlocksAhead.{ReachedLaw, done_before, block_at}
use Rattle.pfs_law_script.specs.Course.{PhasedBlock, own_blocks}
use Rattle.pfs_law_script.proofs.BlocksAhead.{done_block, done_phase}
use Rattle.pfs_law_script.proofs.BlockChanges.{own_more}
use Rattle.pfs_journal.specs.declared.blocks.BlockReport.{BlockReport}
use Rattle.pfs_journal.specs.declared.report.PhaseParts.{PhaseParts}
use Rattle.pfs_model.specs.EntryPlaces.{Block}
use Rattle.pfs_model.specs.declared.lines.Line.{Line}
use Rattle.pfs_model.specs.declared.lines.Line.TheVariants as told
use Rattle.pfs_law_script.specs.PlayableBlocks.{IsPlayable, PlayableLaw}
use Rattle.pfs_exec.specs.Requests.{request_of}
use Rattle.pfs_exec.specs.declared.requests.Request.{Request}
use Rattle.pfs_exec.specs.declared.requests.Request.TheVariants as requests
use Rattle.pfs_runs.specs.ScriptLines.{lines_in, line_in, sql_line}
use Rattle.pfs_runs.specs.Runs.{AreBlocksOf, ArePhasesOf, all_blocks}
use Rattle.pfs_script.specs.declared.blocks.Block.{Block as Said}
use Rattle.pfs_script.specs.declared.blocks.BlockLine.{BlockLine}
use Rattle.pfs_script.specs.declared.blocks.BlockLine.TheVariants as said
use Rattle.pfs_script.specs.declared.blocks.Connect.{Connect}
use Rattle.pfs_script.specs.declared.blocks.Phase.{Phase}
use Rattle.pfs_script.specs.Marks.{written_out}
use Rattle.pfs_law_summaries.specs.FirstConnects.{is_connect, AreUnconnected, NoneOf, Begins, AreBegunBehind}
use Rattle.pfs_law_summaries.specs.OrderlyRuns.{FirstLaw}
use Rattle.pfs_law_summaries.proofs.ConnectEntries.{begun_law}

sql_plain : (request : Request) → is_connect (sql_line request) ≡ false
sql_plain (requests.Refused error) = refl
sql_plain (requests.Query select) = refl
sql_plain (requests.Show select) = refl
sql_plain (requests.Truncate what) = refl
sql_plain (requests.Update update) = refl
sql_plain (requests.Insert insert) = refl
sql_plain (requests.Delete delete) = refl

line_plain : (line : BlockLine) → is_connect (line_in line) ≡ false
line_plain (said.Wait class) = refl
line_plain (said.TableWait class table) = refl
line_plain (said.Statement class digest) = refl
line_plain (said.Transaction access) = refl
line_plain (said.Stage class) = refl
line_plain said.StageEnd = refl
line_plain (said.Spend time) = refl
line_plain said.End = refl
line_plain (said.EndStatement numbers) = refl
line_plain said.Quit = refl
line_plain (said.Sql text) = sql_plain (request_of text)
line_plain (said.Repeat times) = refl
line_plain said.Done = refl

lines_plain : (ls : List BlockLine) → AreUnconnected (map line_in ls ++ told.Close ∷ [])
lines_plain [] = (refl, tt)
lines_plain (line ∷ ls) = (line_plain line, lines_plain ls)

plain_begins : (fact : Type 0) (ls : List Line) → AreUnconnected ls → Begins fact ls
plain_begins fact [] q = tt
plain_begins fact (line ∷ ls) q = ((λ k. absurd (let no : true ≡ false = sym k ∙ q.0 in cc)), q.1)

block_begins : (fact : Type 0) (block : Said) → IfSome block.connect (λ names. fact) → Begins fact (lines_in block)
block_begins fact block given = at block.connect given where
  at : (connect : Option Connect) → IfSome connect (λ names. fact) → Begins fact (lines_in (record { session = block.session; connect = connect; lines = block.lines }))
  at None given = plain_begins fact (map line_in (written_out block.lines) ++ told.Close ∷ []) (lines_plain (written_out block.lines))
  at (Some names) given = ((λ k. given), lines_plain (written_out block.lines))

some_then : {A : Type 0} (one : Option A) (F G : Type 0) → (F → G) → IfSome one (λ x. F) → IfSome one (λ x. G)
some_then None F G f h = tt
some_then (Some x) F G f h = f h

-- a session with none of these blocks has none of those
abbrev Covers : List PhasedBlock → List Block → Type 0
Covers done earlier = (session : ℕ) → own_blocks session done ≡ [] → NoneOf session earlier

covers_more : (done : List PhasedBlock) (one : PhasedBlock) (earlier : List Block) (block : Block) → block.session ≡ one.block.session → Covers done earlier → Covers (done ++ one ∷ []) (earlier ++ block ∷ [])
covers_more done one earlier block e covers session none =
    at (own_blocks session done) (one.block.session == session) refl refl (sym (own_more session done one) ∙ none) where
      at : (xs : List Said) (b : Bool) → own_blocks session done ≡ xs → (one.block.session == session) ≡ b → xs ++ cond b (one.block ∷ []) [] ≡ [] → NoneOf session (earlier ++ block ∷ [])
      at [] false x q h = each_join (λ (other : Block). (other.session == session) ≡ false) earlier (block ∷ []) (covers session x) (ap (λ s. s == session) e ∙ q, tt)
      at [] true x q h = absurd (cc)
      at (y ∷ ys) b x q h = absurd (cc)

module _ (reached : ReachedLaw) (whole : List Phase) where
  blocks_begun : (before : List Phase) (phase : Phase) (after : List Phase) (number : ℕ) (first saids : List Said) (reports : List BlockReport) (blocks more earlier : List Block)
      → whole ≡ before ++ phase ∷ after → IsPlayable before phase after → phase.blocks ≡ first ++ saids → AreBlocksOf number saids reports blocks → Covers (done_before before first) earlier
      → ((now : List Block) → Covers (done_before before phase.blocks) now → AreBegunBehind now more) → AreBegunBehind earlier (blocks ++ more)
  blocks_begun before phase after number first [] [] [] more earlier w p e are covers go =
      go earlier (subst (λ z. Covers (done_before before z) earlier) (sym (e ∙ append-nil first)) covers)
  blocks_begun before phase after number first (block ∷ saids) (report ∷ reports) (own ∷ blocks) more earlier w p e are covers go =
      let one = (reached whole before phase after first block saids w e p).next.first in (
        subst (Begins (NoneOf own.session earlier)) (sym are.0.lines)
            (block_begins (NoneOf own.session earlier) block
            (some_then block.connect (own_blocks block.session (done_before before first) ≡ []) (NoneOf own.session earlier) (λ none. subst (λ s. NoneOf s earlier) (sym are.0.session) (covers block.session none)) one)),
        blocks_begun before phase after number (first ++ block ∷ []) saids reports blocks more (earlier ++ own ∷ []) w p (e ∙ sym (append_assoc first (block ∷ []) saids)) are.1
            (subst (λ z. Covers z (earlier ++ own ∷ [])) (sym (done_block before first block)) (covers_more (done_before before first) (block_at before block) earlier own are.0.session covers)) go,
      )
  blocks_begun before phase after number first [] [] (own ∷ blocks) more earlier w p e are covers go = absurd are
  blocks_begun before phase after number first [] (report ∷ reports) blocks more earlier w p e are covers go = absurd are
  blocks_begun before phase after number first (block ∷ saids) [] blocks more earlier w p e are covers go = absurd are
  blocks_begun before phase after number first (block ∷ saids) (report ∷ reports) [] more earlier w p e are covers go = absurd are

  phases_begun : ((before : List Phase) (phase : Phase) (after : List Phase) → whole ≡ before ++ phase ∷ after → IsPlayable before phase after)
      → (before phases : List Phase) (number : ℕ) (reports : List PhaseParts) (all : List (List Block)) (earlier : List Block) → whole ≡ before ++ phases → ArePhasesOf number phases reports all → Covers (done_before before []) earlier
      → AreBegunBehind earlier (all_blocks all)
  phases_begun playable before [] number [] [] earlier w are covers = tt
  phases_begun playable before (phase ∷ phases) number (report ∷ reports) (blocks ∷ all) earlier w are covers =
      blocks_begun before phase phases number [] phase.blocks report.blocks blocks (all_blocks all) earlier w (playable before phase phases w) refl are.1 covers
      (λ now c. phases_begun playable (before ++ phase ∷ []) phases (number + 1) reports all now (w ∙ sym (append_assoc before (phase ∷ []) phases)) are.2
      (subst (λ z. Covers z now) (sym (done_phase before phase)) c))
  phases_begun playable before [] number [] (blocks ∷ all) earlier w are covers = absurd are
  phases_begun playable before [] number (report ∷ reports) all earlier w are covers = absurd are
  phases_begun playable before (phase ∷ phases) number [] all earlier w are covers = absurd are
  phases_begun playable before (phase ∷ phases) number (report ∷ reports) [] earlier w are covers = absurd are

pub first_law : PlayableLaw → ReachedLaw → FirstLaw
first_law playable reached text setting phases report script run =
    begun_law (all_blocks run.blocks) run.rules.shaped
    (phases_begun reached phases (λ before phase after w. playable text setting phases before phase after script w) [] phases 1 report.phases run.blocks [] refl run.phases_are (λ session none. tt))
