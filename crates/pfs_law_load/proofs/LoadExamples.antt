-- The worked texts and scripts.
use Rattle.std.proofs.Common.{◌≡◌, [], ◌∷◌, length, get_or, refl, ap, sym, subst, ◌∙◌, arith}
use Rattle.std.specs.Prelude.{codes}
use Rattle.std.proofs.lemmas.Fmt.{decimal_digit}
use Rattle.pfs_classes.specs.declared.classes.ClassRef.{ClassRef}
use Rattle.pfs_classes.specs.declared.setting.Setting.{Setting}
use Rattle.pfs_journal.specs.Spelling.{field_text, row_text, table_line, table_text, value_text}
use Rattle.pfs_law_agreed.specs.AgreedExamples.{both_connect, both_wait}
use Rattle.pfs_law_agreed.specs.FirstPhases.{HasRoom, IsConnecting}
use Rattle.pfs_script.specs.Marks.{written_from}
use Rattle.pfs_script.specs.declared.blocks.Phase.{Phase}
use Rattle.pfs_law_load.specs.LoadExamples.{WorkedLoad, WorkedScripts, WorkedTexts, report_with}
use Rattle.pfs_law_load.specs.LoadText.{done_line, is_named, load_text}

shown : load_text (report_with 1 2 4) ≡ codes "table events_waits_summary_global_by_event_name\nrow 4\ntable events_statements_summary_by_digest\nrow 3\ndone\n"
unfolding load_text is_named done_line table_text table_line row_text value_text field_text
shown = rw (decimal_digit 4 (omega arith), decimal_digit 3 (omega arith)) refl

shown_other : load_text (report_with 1 2 5) ≡ codes "table events_waits_summary_global_by_event_name\nrow 5\ntable events_statements_summary_by_digest\nrow 3\ndone\n"
unfolding load_text is_named done_line table_text table_line row_text value_text field_text
shown_other = rw (decimal_digit 5 (omega arith), decimal_digit 3 (omega arith)) refl

texts : WorkedTexts
unfolding load_text is_named done_line
texts = record {
  shown = shown;
  same = refl;
  other = λ e. absurd (let digit : 52 ≡ 53 = ap (λ text. get_or text 52 0) (sym shown ∙ (e ∙ shown_other)) in omega (arith, digit));
  none = refl;
}

second_of : (a b c d : Phase) → a ∷ b ∷ [] ≡ c ∷ d ∷ [] → b ≡ d
second_of a b c d e = cc

first_of_two : (a b c d : Phase) → a ∷ b ∷ [] ≡ c ∷ d ∷ [] → a ≡ c
first_of_two a b c d e = cc

scripts : (setting : Setting) (class : ClassRef) → HasRoom setting 2 → WorkedScripts setting class
unfolding written_from
scripts setting class room = record {
  waits = record {
    first = both_connect;
    second = both_wait class;
    two = refl;
    connecting = (refl, (refl, tt));
    room = room;
    quiet = ((λ e. absurd (omega (arith, e))), ((λ e. (refl, (refl, tt))), tt));
  };
  quits = λ has. absurd (let z = (has.quiet.1.0 refl).0 in cc);
  alone = λ has. absurd (let l : 1 ≡ 2 = ap length has.two in omega (arith, l));
  turned = λ has. absurd (let z = (subst IsConnecting (sym (first_of_two (both_wait class) both_connect has.first has.second has.two)) has.connecting).0 in cc);
}

pub worked_load : WorkedLoad
worked_load = record { texts = texts; scripts = scripts }
