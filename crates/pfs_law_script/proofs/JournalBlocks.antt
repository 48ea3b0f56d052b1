-- The blocks of the journals are those of the script, phase by phase.
use Rattle.std.proofs.Common.{ℕ, ◌≡◌, ◌+◌, List, [], ◌∷◌, ◌++◌, map, Option, Some, None, refl, ap, sym, ◌∙◌, subst}
use Rattle.pfs_admin.specs.AdministrationStates.{State as Administration}
use Rattle.pfs_law_plain.specs.Spells.{Spell, parts_in, stints_of}
use Rattle.pfs_classes.specs.declared.setting.Setting.{Setting}
use Rattle.pfs_event.specs.declared.entry.Entry.{Entry}
use Rattle.pfs_law_plain.specs.ToldAnswers.{Answers}
use Rattle.pfs_law_plain.specs.LineDeeds.{bare, deed_on, sql_deed}
use Rattle.pfs_journal.specs.declared.blocks.BlockReport.{BlockReport}
use Rattle.pfs_journal.specs.declared.report.PhaseParts.{PhaseParts}
use Rattle.pfs_model.specs.Chains.{Each}
use Rattle.pfs_model.specs.EntryPlaces.{Block}
use Rattle.pfs_model.specs.declared.lines.Line.TheVariants as told
use Rattle.pfs_law_session.specs.Deeds.{Deed, Connecting, Starting, Staging, StageEnding, Ending, Spending, Quitting, Truncating, Changing, Showing, Querying, Refusing, Closing, Part, line_of}
use Rattle.pfs_law_session.specs.JournalLaws.{lines_of, entries_of}
use Rattle.pfs_law_session.specs.Stints.{Stint, block_of, blocks_of}
use Rattle.pfs_law_plain.proofs.PhaseFronts.{stints_then}
use Rattle.pfs_law_plain.specs.RunRules.{journals_of}
use Rattle.pfs_play.specs.Errands.{AreFor, asks_on}
use Rattle.pfs_exec.specs.Requests.{request_of}
use Rattle.pfs_exec.specs.declared.requests.Request.{Request}
use Rattle.pfs_exec.specs.declared.requests.Request.TheVariants as requests
use Rattle.pfs_runs.specs.SelectAnswers.{Answer, Selection, AreAnswers, selections_in}
use Rattle.pfs_runs.specs.ScriptLines.{line_in, connect_lines, lines_in, sql_line}
use Rattle.pfs_runs.specs.Runs.{AreBlocksAnswered, AreBlocksOf, ArePhasesAnswered, ArePhasesOf, all_blocks}
use Rattle.pfs_script.specs.declared.blocks.Block.{Block as Said}
use Rattle.pfs_script.specs.declared.blocks.BlockLine.{BlockLine}
use Rattle.pfs_script.specs.declared.blocks.BlockLine.TheVariants as said
use Rattle.pfs_script.specs.declared.blocks.Connect.{Connect}
use Rattle.pfs_script.specs.declared.blocks.Phase.{Phase}
use Rattle.pfs_script.specs.Marks.{written_out}
use Rattle.pfs_law_script.specs.Course.{PhasedBlock, asks_of, phased, numbered, IsSpellOf, AreSpellsOf}
use Rattle.pfs_law_script.specs.ReportSpells.{AreTold, ArePhasesTold}

blocks_then : (xs ys : List Stint) → blocks_of (xs ++ ys) ≡ blocks_of xs ++ blocks_of ys
blocks_then [] ys = refl
blocks_then (x ∷ xs) ys = ap (λ z. block_of x ∷ z) (blocks_then xs ys)

journals_then : (xs ys : List Spell) → journals_of (xs ++ ys) ≡ journals_of xs ++ journals_of ys
journals_then xs ys = ap blocks_of (stints_then xs ys) ∙ blocks_then (stints_of xs) (stints_of ys)

-- the lines of a block's deeds: what a SELECT read and how many rows it showed is in none
line_bare : (deed : Deed) → line_of deed ≡ line_of (bare deed)
line_bare (Connecting at user host) = refl
line_bare (Starting subject) = refl
line_bare (Staging subject) = refl
line_bare StageEnding = refl
line_bare (Ending numbers) = refl
line_bare (Spending time) = refl
line_bare (Quitting at) = refl
line_bare (Truncating at what) = refl
line_bare (Changing at what) = refl
line_bare (Showing at count) = refl
line_bare (Querying found count) = refl
line_bare (Refusing error) = refl
line_bare Closing = refl

sql_told : (admin : Administration) (asks : Request) → line_of (sql_deed admin asks) ≡ sql_line asks
sql_told admin (requests.Refused error) = refl
sql_told admin (requests.Truncate what) = refl
sql_told admin (requests.Update update) = refl
sql_told admin (requests.Insert insert) = refl
sql_told admin (requests.Delete delete) = refl
sql_told admin (requests.Query select) = refl
sql_told admin (requests.Show select) = refl

deed_line : (admin : Administration) (line : BlockLine) → line_of (deed_on admin line) ≡ line_in line
deed_line admin said.Quit = refl
deed_line admin (said.Sql text) = sql_told admin (request_of text)
deed_line admin _ = refl

body_lines : (lines : List BlockLine) (ps : List Part) → AreFor (asks_on lines ++ (λ admin. Closing) ∷ []) ps → lines_of ps ≡ map line_in lines ++ told.Close ∷ []
body_lines [] [] are = absurd are
body_lines [] (p ∷ []) are = ap (λ z. z ∷ []) (line_bare p.deed ∙ ap line_of are.0.is)
body_lines [] (p ∷ (other ∷ ps)) are = absurd are.1
body_lines (line ∷ lines) [] are = absurd are
body_lines (line ∷ lines) (p ∷ ps) are =
    ap (λ z. z ∷ lines_of ps) (line_bare p.deed ∙ (ap line_of are.0.is ∙ deed_line are.0.admin line)) ∙ ap (λ z. line_in line ∷ z) (body_lines lines ps are.1)

asked_lines : (connect : Option Connect) (lines : List BlockLine) (ps : List Part) → AreFor (asks_of connect lines) ps → lines_of ps ≡ connect_lines connect ++ (map line_in lines ++ told.Close ∷ [])
asked_lines None lines ps are = body_lines lines ps are
asked_lines (Some names) lines [] are = absurd are
asked_lines (Some names) lines (p ∷ ps) are = ap (λ z. z ∷ lines_of ps) (line_bare p.deed ∙ ap line_of are.0.is) ∙ ap (λ z. told.Connect ∷ z) (body_lines lines ps are.1)

spell_lines : (one : PhasedBlock) (spell : Spell) → IsSpellOf one spell → lines_of (parts_in spell.doings) ≡ lines_in one.block
spell_lines one spell is = asked_lines one.block.connect (written_out one.block.lines) (parts_in spell.doings) is.asked

-- the blocks of a phase
blocks_are : (setting : Setting) (number : ℕ) (blocks : List Said) (spells : List Spell) (reports : List BlockReport) → AreTold setting number blocks spells reports → AreSpellsOf (phased number blocks) spells
    → AreBlocksOf number blocks reports (journals_of spells)
blocks_are setting number [] [] [] are of = tt
blocks_are setting number (block ∷ blocks) (spell ∷ spells) (report ∷ reports) are of = (
  record {
    phase_is = are.0.phase;
    session = are.0.session;
    reported = are.0.reported;
    lines = spell_lines (record { phase = number; block = block }) spell of.0;
    entries = sym are.0.entries;
  },
  blocks_are setting number blocks spells reports are.1 of.1,
)
blocks_are setting number [] [] (z ∷ zs) are of = absurd are
blocks_are setting number [] (y ∷ ys) reports are of = absurd are
blocks_are setting number (x ∷ xs) [] reports are of = absurd are
blocks_are setting number (x ∷ xs) (y ∷ ys) [] are of = absurd are

-- what a spell's parts answer by what they were told, its entries show as this asks
abbrev AreShown : Setting → (Selection → List Entry → Answer → Type 0) → Spell → Type 0
AreShown setting shown spell =
    (selections : List (Option Selection)) (answers : List Answer) → AreAnswers (Answers setting) selections (parts_in spell.doings) answers
    → AreAnswers shown selections (entries_of (parts_in spell.doings)) answers

blocks_answered : (setting : Setting) (shown : Selection → List Entry → Answer → Type 0) (number : ℕ) (blocks : List Said) (spells : List Spell) (reports : List BlockReport) → AreTold setting number blocks spells reports
    → Each (AreShown setting shown) spells → AreBlocksAnswered shown blocks reports (journals_of spells)
blocks_answered setting shown number [] [] [] are each = tt
blocks_answered setting shown number (block ∷ blocks) (spell ∷ spells) (report ∷ reports) are each =
    (each.0 (selections_in block) report.answers are.0.answers, blocks_answered setting shown number blocks spells reports are.1 each.1)
blocks_answered setting shown number [] [] (z ∷ zs) are each = absurd are
blocks_answered setting shown number [] (y ∷ ys) reports are each = absurd are
blocks_answered setting shown number (x ∷ xs) [] reports are each = absurd are
blocks_answered setting shown number (x ∷ xs) (y ∷ ys) [] are each = absurd are

each_front : (fact : Spell → Type 0) (xs ys : List Spell) → Each fact (xs ++ ys) → Each fact xs
each_front fact [] ys each = tt
each_front fact (x ∷ xs) ys each = (each.0, each_front fact xs ys each.1)

each_back : (fact : Spell → Type 0) (xs ys : List Spell) → Each fact (xs ++ ys) → Each fact ys
each_back fact [] ys each = each
each_back fact (x ∷ xs) ys each = each_back fact xs ys each.1

split_spells : (setting : Setting) (number : ℕ) (blocks : List Said) (first : List Spell) (reports : List BlockReport) (others : List PhasedBlock) (rest : List Spell) → AreTold setting number blocks first reports
    → AreSpellsOf (phased number blocks ++ others) (first ++ rest) → AreSpellsOf (phased number blocks) first × AreSpellsOf others rest
split_spells setting number [] [] [] others rest are of = (tt, of)
split_spells setting number (block ∷ blocks) (spell ∷ first) (report ∷ reports) others rest are of =
    let both : AreSpellsOf (phased number blocks) first × AreSpellsOf others rest = split_spells setting number blocks first reports others rest are.1 of.1 in
    ((of.0, both.0), both.1)
split_spells setting number [] [] (z ∷ zs) others rest are of = absurd are
split_spells setting number [] (y ∷ ys) reports others rest are of = absurd are
split_spells setting number (x ∷ xs) [] reports others rest are of = absurd are
split_spells setting number (x ∷ xs) (y ∷ ys) [] others rest are of = absurd are

-- all phases
pub record HaveJournals (shown : Selection → List Entry → Answer → Type 0) (number : ℕ) (phases : List Phase) (reports : List PhaseParts) (spells : List Spell) : Type 0 where
  pub blocks : List (List Block)
  pub are : ArePhasesOf number phases reports blocks
  pub all : all_blocks blocks ≡ journals_of spells
  pub answered : ArePhasesAnswered shown phases reports blocks

pub have_journals : (setting : Setting) (shown : Selection → List Entry → Answer → Type 0) (number : ℕ) (phases : List Phase) (reports : List PhaseParts) (spells : List Spell) → ArePhasesTold setting number phases reports spells
    → AreSpellsOf (numbered number phases) spells → Each (AreShown setting shown) spells → HaveJournals shown number phases reports spells
have_journals setting shown number [] [] spells are of each = record { blocks = []; are = tt; all = ap journals_of (sym are); answered = tt }
have_journals setting shown number [] (y ∷ ys) spells are of each = absurd are
have_journals setting shown number (x ∷ xs) [] spells are of each = absurd are
have_journals setting shown number (phase ∷ phases) (report ∷ reports) spells are of each =
    let first : List Spell = are.0 in
    let rest : List Spell = are.1 in
    let both : AreSpellsOf (phased number phase.blocks) first × AreSpellsOf (numbered (number + 1) phases) rest =
    split_spells setting number phase.blocks first report.blocks (numbered (number + 1) phases) rest are.2.blocks (subst (AreSpellsOf (phased number phase.blocks ++ numbered (number + 1) phases)) are.2.split of) in
    let shows : Each (AreShown setting shown) (first ++ rest) = subst (λ (z : List Spell). Each (AreShown setting shown) z) are.2.split each in
    let others : HaveJournals shown (number + 1) phases reports rest =
    have_journals setting shown (number + 1) phases reports rest are.3 both.1 (each_back (AreShown setting shown) first rest shows) in
    record {
      blocks = journals_of first ∷ others.blocks;
      are = (are.2.numbered, blocks_are setting number phase.blocks first report.blocks are.2.blocks both.0, others.are);
      all = ap (λ z. journals_of first ++ z) others.all ∙ (sym (journals_then first rest) ∙ ap journals_of (sym are.2.split));
      answered = (blocks_answered setting shown number phase.blocks first report.blocks are.2.blocks (each_front (AreShown setting shown) first rest shows), others.answered);
    }
