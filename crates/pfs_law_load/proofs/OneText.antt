-- What a load shows of any two runs of a number's script is the same.
use Rattle.std.proofs.Common.{ℕ, ◌≡◌, ◌+◌, List, [], ◌∷◌, ◌++◌, filter, refl, ap, sym, subst, ◌∙◌}
use Rattle.std.specs.List.{flat_map}
use Rattle.pfs_classes.specs.declared.setting.Setting.{Setting}
use Rattle.pfs_gen.specs.GeneratedScript.{script_text}
use Rattle.pfs_journal.specs.Spelling.{table_text}
use Rattle.pfs_journal.specs.declared.report.PhaseParts.{PhaseParts}
use Rattle.pfs_journal.specs.declared.report.ReportParts.{ReportParts}
use Rattle.pfs_journal.specs.declared.values.TableReport.{TableReport}
use Rattle.pfs_law_agreed.specs.FirstPhases.{HasRoom, IsConnecting, SecondPhaseLaw, connects_of}
use Rattle.pfs_law_agreed.specs.QuietPhases.{IsQuietAt}
use Rattle.pfs_law_agreed.specs.SameRows.{AreSameAt, HaveSameRows, RowsLaw}
use Rattle.pfs_model.specs.EntryPlaces.{Block}
use Rattle.pfs_runs.specs.Runs.{AreFinal, ArePhasesOf, IsRun}
use Rattle.pfs_script.specs.Scripts.{AreAlike, IsExact, IsScript}
use Rattle.pfs_script.specs.declared.blocks.Phase.{Phase}
use Rattle.pfs_law_load.specs.LoadPhases.{GeneratedLaw}
use Rattle.pfs_law_load.specs.LoadText.{done_line, is_summary, last_tables, load_text}
use Rattle.pfs_law_load.specs.OneText.{OneTextLaw}
use Rattle.pfs_law_load.proofs.SameSettings.{same_setting}
use Rattle.pfs_law_load.proofs.SameTables.{same_shown}

-- a report of two phases
record HasTwo (phases : List PhaseParts) : Type 0 where
  one : PhaseParts
  two : PhaseParts
  are : phases ≡ one ∷ two ∷ []
  number : two.number ≡ 2

-- the report of the first of some phases, and those of the others
record IsBegun (number : ℕ) (phases : List Phase) (reports : List PhaseParts) : Type 0 where
  one : PhaseParts
  rest : List PhaseParts
  blocks : List (List Block)
  are : reports ≡ one ∷ rest
  number_is : one.number ≡ number
  behind : ArePhasesOf (number + 1) phases rest blocks

begun : (number : ℕ) (phase : Phase) (phases : List Phase) (reports : List PhaseParts) (blocks : List (List Block)) → ArePhasesOf number (phase ∷ phases) reports blocks → IsBegun number phases reports
begun number phase phases [] [] h = absurd h
begun number phase phases [] (block ∷ blocks) h = absurd h
begun number phase phases (report ∷ reports) [] h = absurd h
begun number phase phases (report ∷ reports) (block ∷ blocks) h = record {
  one = report;
  rest = reports;
  blocks = blocks;
  are = refl;
  number_is = h.0;
  behind = h.2;
}

none_left : (number : ℕ) (reports : List PhaseParts) (blocks : List (List Block)) → ArePhasesOf number [] reports blocks → reports ≡ []
none_left number [] blocks h = refl
none_left number (report ∷ reports) [] h = absurd h
none_left number (report ∷ reports) (block ∷ blocks) h = absurd h

two_reported : (first second : Phase) (reports : List PhaseParts) (blocks : List (List Block)) → ArePhasesOf 1 (first ∷ second ∷ []) reports blocks → HasTwo reports
two_reported first second reports blocks h =
    let one = begun 1 first (second ∷ []) reports blocks h in
    let two = begun 2 second [] one.rest one.blocks one.behind in
    record {
      one = one.one;
      two = two.one;
      are = one.are ∙ ap (λ (rest : List PhaseParts). one.one ∷ rest) (two.are ∙ ap (λ (rest : List PhaseParts). two.one ∷ rest) (none_left 3 two.rest two.blocks two.behind));
      number = two.number_is;
    }

-- what is shown of the second phase is what is shown of the report
text_of_two : (report : ReportParts) (two : HasTwo report.phases) → load_text report ≡ flat_map table_text (filter is_summary two.two.tables) ++ done_line
unfolding load_text
text_of_two report two = ap (λ (phases : List PhaseParts). flat_map table_text (filter is_summary (last_tables phases)) ++ done_line) two.are

rows_at : (ones others : List PhaseParts) (a : HasTwo ones) (b : HasTwo others) → AreSameAt 2 ones others → HaveSameRows a.two b.two
rows_at ones others a b same =
    let pair = subst (λ (zs : List PhaseParts). AreSameAt 2 zs (b.one ∷ b.two ∷ [])) a.are (subst (λ (zs : List PhaseParts). AreSameAt 2 ones zs) b.are same) in
    pair.1.0 a.number b.number

module _ (second_law : SecondPhaseLaw) (rows_law : RowsLaw) (text : List ℕ) (setting : Setting) (first second : Phase) (report other : ReportParts) (script : IsScript text setting (first ∷ second ∷ [])) (connecting : IsConnecting first) (room : HasRoom setting (connects_of first.blocks)) (quiet : IsQuietAt 2 1 (first ∷ second ∷ [])) (run : IsRun setting (first ∷ second ∷ []) report) (again : IsRun setting (first ∷ second ∷ []) other) where
  two_phases_show : load_text report ≡ load_text other
  two_phases_show =
      let a = two_reported first second report.phases run.blocks run.phases_are in
      let b = two_reported first second other.phases again.blocks again.phases_are in
      let shown = second_law text setting first (second ∷ []) report other script connecting room quiet run again in
      let rows = rows_at report.phases other.phases a b (rows_law text setting (first ∷ second ∷ []) report other script run again 2 shown) in
      let ends = (subst (AreFinal _) a.are run.finals).1.0 in
      let others = (subst (AreFinal _) b.are again.finals).1.0 in
      text_of_two report a
      ∙ (ap (λ (tables : List TableReport). flat_map table_text tables ++ done_line) (same_shown a.two b.two rows setting ends.reads others.reads ends.order others.order ends.tables others.tables)
      ∙ sym (text_of_two other b))

phases_show : GeneratedLaw → SecondPhaseLaw → RowsLaw → (number : ℕ) (setting : Setting) (phases : List Phase) (report other : ReportParts) → IsScript (script_text number) setting phases → IsRun setting phases report → IsRun setting phases other → load_text report ≡ load_text other
phases_show generated second_law rows_law number setting phases report other script run again =
    let has = generated number setting phases script in
    two_phases_show second_law rows_law (script_text number) setting has.first has.second report other
    (subst (λ (all : List Phase). IsScript (script_text number) setting all) has.two script) has.connecting has.room (subst (λ (all : List Phase). IsQuietAt 2 1 all) has.two has.quiet)
    (subst (λ (all : List Phase). IsRun setting all report) has.two run) (subst (λ (all : List Phase). IsRun setting all other) has.two again)

pub text_law : GeneratedLaw → IsExact → SecondPhaseLaw → RowsLaw → OneTextLaw
text_law generated exact second_law rows_law number setting phases report script run = λ used said other own again.
    let alike : AreAlike setting used × (phases ≡ said) = exact.one_script (script_text number) setting used phases said script own in
    let same : setting ≡ used = same_setting setting used alike.0 in
    phases_show generated second_law rows_law number setting phases report other script run
    (subst (λ (all : List Phase). IsRun setting all other) (sym alike.1) (subst (λ (one : Setting). IsRun one said other) (sym same) again))
