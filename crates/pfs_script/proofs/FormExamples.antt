-- Worked examples of what lines say, by computation.
use Rattle.std.proofs.Common.{◌≡◌, [], ◌∷◌, ◌++◌, true, false, refl, codes}
use Rattle.std.specs.Prelude.{Some, None, Ok, Err}
use Rattle.pfs_classes.specs.declared.kind.Kind.TheVariants.{Mutex}
use Rattle.pfs_classes.specs.Kinds.{kind_of}
use Rattle.pfs_script.specs.Numerals.{is_numeral, number_of}
use Rattle.pfs_script.specs.ScriptWords.{word_of, rest_of, is_word, switch_of, switches_of}
use Rattle.pfs_script.specs.declared.forms.Form.TheVariants.{Silent, Limit, Class, Statement, Stage, Spend}
use Rattle.pfs_script.specs.declared.reasons.Reason.TheVariants.{BadByte, BadForm}
use Rattle.pfs_script.specs.Forms.{is_silent, limit_form, class_kind_of, class_form, start_class, start_class_with, start_form, stage_form, spend_form, block_form, long_form, words_form, form}

pub comment : form (codes "# phase") ≡ Ok Silent
unfolding form is_silent
comment = refl

pub bad_byte : form (codes "phase" ++ 13 ∷ []) ≡ Err BadByte
unfolding form
bad_byte = refl

-- a space at the end leaves an empty word behind it
pub trailing_space : form (codes "phase ") ≡ Err BadForm
unfolding form is_silent words_form word_of rest_of long_form block_form
trailing_space = refl

pub leading_zeros : form (codes "limit x 007") ≡ Ok (Limit (codes "x") (Some 7))
unfolding form is_silent words_form word_of rest_of long_form limit_form is_word number_of is_numeral
leading_zeros = refl

-- a number over the greatest is one that the form has, and says is none
pub number_too_great : form (codes "spend 18446744073709551616") ≡ Ok (Spend None)
unfolding form is_silent words_form word_of rest_of long_form block_form spend_form number_of is_numeral
number_too_great = refl

pub class_line : form (codes "class wait/synch/mutex/a YES NO") ≡ Ok (Class (codes "wait/synch/mutex/a") Mutex true false)
unfolding form is_silent words_form word_of rest_of long_form class_form class_kind_of kind_of switches_of switch_of
class_line = refl

-- a kind's bare name is no class's
pub bare_kind : form (codes "class transaction YES NO") ≡ Err BadForm
unfolding form is_silent words_form word_of rest_of long_form class_form class_kind_of kind_of switches_of switch_of
bare_kind = refl

-- a statement's text is the rest of the line as it stands
pub statement_text : form (codes "start statement/sql/do  a ") ≡ Ok (Statement (codes "statement/sql/do") (codes " a "))
unfolding form is_silent words_form word_of rest_of long_form start_form start_class_with kind_of
statement_text = refl

-- no stage is started by `start`
pub stage_started : form (codes "start stage/sql/init") ≡ Err BadForm
unfolding form is_silent words_form word_of rest_of long_form start_form start_class kind_of
stage_started = refl

pub stage_line : form (codes "stage stage/sql/init") ≡ Ok (Stage (codes "stage/sql/init"))
unfolding form is_silent words_form word_of rest_of long_form block_form stage_form kind_of
stage_line = refl
