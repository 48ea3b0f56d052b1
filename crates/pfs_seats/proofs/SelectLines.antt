-- In what a session did at a block, SELECTs stand only at the lines that are some.
use Rattle.std.proofs.Common.{ℕ, ◌≡◌, ◌+◌, List, [], ◌∷◌, ◌++◌, map, Option, Some, None, sym, subst, append_assoc}
use Rattle.pfs_admin.specs.AdministrationStates.{State as Administration}
use Rattle.pfs_law_plain.specs.Spells.{Spell, parts_in}
use Rattle.pfs_classes.specs.declared.setting.Setting.{Setting}
use Rattle.pfs_law_script.specs.Course.{AreSpellsOf, IsSpellOf, PhasedBlock, asks_of, numbered, phased}
use Rattle.pfs_law_script.specs.ReportSpells.{AreTold, ArePhasesTold}
use Rattle.pfs_law_plain.specs.LineDeeds.{bare, deed_on, sql_deed}
use Rattle.pfs_journal.specs.declared.blocks.BlockReport.{BlockReport}
use Rattle.pfs_journal.specs.declared.report.PhaseParts.{PhaseParts}
use Rattle.pfs_law_session.specs.Deeds.{Deed, Connecting, Starting, Staging, StageEnding, Ending, Spending, Quitting, Truncating, Changing, Showing, Querying, Refusing, Closing, Part}
use Rattle.pfs_play.specs.Errands.{AreFor, asks_on}
use Rattle.pfs_law_report.specs.ReportableRuns.{AreAsked, IsRowless}
use Rattle.pfs_exec.specs.Requests.{request_of}
use Rattle.pfs_exec.specs.declared.requests.Request.{Request}
use Rattle.pfs_exec.specs.declared.requests.Request.TheVariants as requests
use Rattle.pfs_runs.specs.SelectAnswers.{Selection, connect_selections, selection_in, selection_on, selections_in}
use Rattle.pfs_script.specs.Marks.{written_out}
use Rattle.pfs_script.specs.declared.blocks.Block.{Block}
use Rattle.pfs_script.specs.declared.blocks.BlockLine.{BlockLine}
use Rattle.pfs_script.specs.declared.blocks.BlockLine.TheVariants as said
use Rattle.pfs_script.specs.declared.blocks.Connect.{Connect}
use Rattle.pfs_script.specs.declared.blocks.Phase.{Phase}

abbrev IsAskedAt : Option Selection → Deed → Type 0
IsAskedAt None deed = IsRowless deed
IsAskedAt (Some selection) deed = Unit {0}

rowless_bare : (deed : Deed) → IsRowless (bare deed) → IsRowless deed
rowless_bare (Connecting admin user host) is = tt
rowless_bare (Starting subject) is = tt
rowless_bare (Staging subject) is = tt
rowless_bare StageEnding is = tt
rowless_bare (Ending numbers) is = tt
rowless_bare (Spending time) is = tt
rowless_bare (Quitting admin) is = tt
rowless_bare (Truncating admin what) is = tt
rowless_bare (Changing admin what) is = tt
rowless_bare (Showing admin count) is = absurd is
rowless_bare (Querying readings count) is = absurd is
rowless_bare (Refusing error) is = tt
rowless_bare Closing is = tt

rowless_as : (deed asked : Deed) → bare deed ≡ asked → IsRowless asked → IsRowless deed
rowless_as deed asked e is = rowless_bare deed (subst IsRowless (sym e) is)

sql_asked : (admin : Administration) (what : Request) (deed : Deed) → bare deed ≡ sql_deed admin what → IsAskedAt (selection_in what) deed
sql_asked admin (requests.Refused error) deed e = rowless_as deed (sql_deed admin (requests.Refused error)) e tt
sql_asked admin (requests.Query select) deed e = tt
sql_asked admin (requests.Show select) deed e = tt
sql_asked admin (requests.Truncate what) deed e = rowless_as deed (sql_deed admin (requests.Truncate what)) e tt
sql_asked admin (requests.Update update) deed e = rowless_as deed (sql_deed admin (requests.Update update)) e tt
sql_asked admin (requests.Insert insert) deed e = rowless_as deed (sql_deed admin (requests.Insert insert)) e tt
sql_asked admin (requests.Delete delete) deed e = rowless_as deed (sql_deed admin (requests.Delete delete)) e tt

line_asked : (admin : Administration) (line : BlockLine) (deed : Deed) → bare deed ≡ deed_on admin line → IsAskedAt (selection_on line) deed
line_asked admin (said.Wait class) deed e = rowless_as deed (deed_on admin (said.Wait class)) e tt
line_asked admin (said.TableWait class table) deed e = rowless_as deed (deed_on admin (said.TableWait class table)) e tt
line_asked admin (said.Statement class digest) deed e = rowless_as deed (deed_on admin (said.Statement class digest)) e tt
line_asked admin (said.Transaction access) deed e = rowless_as deed (deed_on admin (said.Transaction access)) e tt
line_asked admin (said.Stage class) deed e = rowless_as deed (deed_on admin (said.Stage class)) e tt
line_asked admin said.StageEnd deed e = rowless_as deed (deed_on admin said.StageEnd) e tt
line_asked admin (said.Spend time) deed e = rowless_as deed (deed_on admin (said.Spend time)) e tt
line_asked admin said.End deed e = rowless_as deed (deed_on admin said.End) e tt
line_asked admin (said.EndStatement numbers) deed e = rowless_as deed (deed_on admin (said.EndStatement numbers)) e tt
line_asked admin said.Quit deed e = rowless_as deed (deed_on admin said.Quit) e tt
line_asked admin (said.Sql text) deed e = sql_asked admin (request_of text) deed e
line_asked admin (said.Repeat times) deed e = rowless_as deed (deed_on admin (said.Repeat times)) e tt
line_asked admin said.Done deed e = rowless_as deed (deed_on admin said.Done) e tt

one_asked : (one : Option Selection) (rest : List (Option Selection)) (p : Part) (ps : List Part) → IsAskedAt one p.deed → AreAsked rest ps → AreAsked (one ∷ rest) (p ∷ ps)
one_asked None rest p ps here later = (here, later)
one_asked (Some selection) rest p ps here later = later

along_asked : (lines : List BlockLine) (parts : List Part) → AreFor (asks_on lines ++ (λ admin. Closing) ∷ []) parts → AreAsked (map selection_on lines ++ None ∷ []) parts
along_asked [] [] are = absurd are
along_asked [] (p ∷ []) are = (rowless_as p.deed Closing are.0.is tt, tt)
along_asked [] (p ∷ (other ∷ ps)) are = absurd are.1
along_asked (line ∷ lines) [] are = absurd are
along_asked (line ∷ lines) (p ∷ ps) are = one_asked (selection_on line) (map selection_on lines ++ None ∷ []) p ps (line_asked are.0.admin line p.deed are.0.is) (along_asked lines ps are.1)

parts_asked : (connect : Option Connect) (lines : List BlockLine) (parts : List Part) → AreFor (asks_of connect lines) parts → AreAsked (connect_selections connect ++ (map selection_on lines ++ None ∷ [])) parts
parts_asked None lines parts are = along_asked lines parts are
parts_asked (Some names) lines [] are = absurd are
parts_asked (Some names) lines (p ∷ ps) are = (rowless_as p.deed (Connecting are.0.admin names.user names.host) are.0.is tt, along_asked lines ps are.1)

pub spell_asked : (one : PhasedBlock) (spell : Spell) → IsSpellOf one spell → AreAsked (selections_in one.block) (parts_in spell.doings)
spell_asked one spell is = parts_asked one.block.connect (written_out one.block.lines) (parts_in spell.doings) is.asked

-- the spells of the blocks of a phase, behind those of the phases before it
behind_blocks : (setting : Setting) (number : ℕ) (blocks : List Block) (first rest : List Spell) (reports : List BlockReport) (more : List PhasedBlock) → AreTold setting number blocks first reports
    → AreSpellsOf (phased number blocks ++ more) (first ++ rest) → AreSpellsOf more rest
behind_blocks setting number [] [] rest [] more told are = are
behind_blocks setting number [] [] rest (z ∷ zs) more told are = absurd told
behind_blocks setting number [] (y ∷ ys) rest reports more told are = absurd told
behind_blocks setting number (x ∷ xs) [] rest reports more told are = absurd told
behind_blocks setting number (x ∷ xs) (y ∷ ys) rest [] more told are = absurd told
behind_blocks setting number (x ∷ xs) (y ∷ ys) rest (z ∷ zs) more told are = behind_blocks setting number xs ys rest zs more told.1 are.1

pub behind_phases : (setting : Setting) (number : ℕ) (phases : List Phase) (reports : List PhaseParts) (spells others : List Spell) (more : List PhasedBlock) → ArePhasesTold setting number phases reports spells
    → AreSpellsOf (numbered number phases ++ more) (spells ++ others) → AreSpellsOf more others
behind_phases setting number [] [] spells others more told are = subst (λ (z : List Spell). AreSpellsOf more (z ++ others)) told are
behind_phases setting number [] (y ∷ ys) spells others more told are = absurd told
behind_phases setting number (x ∷ xs) [] spells others more told are = absurd told
behind_phases setting number (x ∷ xs) (y ∷ ys) spells others more told are =
    let split : AreSpellsOf (phased number x.blocks ++ (numbered (number + 1) xs ++ more)) (told.0 ++ (told.1 ++ others)) =
    subst (λ (z : List PhasedBlock). AreSpellsOf z (told.0 ++ (told.1 ++ others))) (append_assoc (phased number x.blocks) (numbered (number + 1) xs) more)
    (subst (AreSpellsOf ((phased number x.blocks ++ numbered (number + 1) xs) ++ more)) (append_assoc told.0 told.1 others)
    (subst (λ (z : List Spell). AreSpellsOf ((phased number x.blocks ++ numbered (number + 1) xs) ++ more) (z ++ others)) told.2.split are)) in
    behind_phases setting (number + 1) xs ys told.1 others more told.3 (behind_blocks setting number x.blocks told.0 (told.1 ++ others) y.blocks (numbered (number + 1) xs ++ more) told.2.blocks split)
