-- What holds of a line that has no fault where it stands.
use Rattle.std.proofs.Common.{◌≡◌, Bool, false, true, ◌||◌, cond, List, Option, Some, None, refl}
use Rattle.pfs_lemmas.proofs.Bools.{or_first, or_second}
use Rattle.pfs_script.specs.declared.forms.Form.{Form}
use Rattle.pfs_script.specs.declared.reasons.Reason.{Reason}
use Rattle.pfs_script.specs.declared.reasons.Reason.TheVariants.{OutOfPlace, BadNumber, BadSession, UnknownName, BadLimit, BadNesting, BadStatement, TooLong, TooMuch}
use Rattle.pfs_script.specs.Reasons.{is_out_of_place, is_bad_number, is_bad_session, is_unknown, is_bad_limit, is_bad_nesting, is_bad_statement, is_too_long, is_too_much, is_table_too_many, fault_of}

-- each test for a fault fails
pub record Passes (before : List Form) (line : Form) : Type 0 where
  pub place : is_out_of_place before line ≡ false
  pub number : is_bad_number line ≡ false
  pub session : is_bad_session before line ≡ false
  pub known : is_unknown before line ≡ false
  pub limit : is_bad_limit before line ≡ false
  pub nesting : is_bad_nesting before line ≡ false
  pub long : is_too_long before line ≡ false
  pub statement : is_bad_statement line ≡ false
  pub much : is_too_much before line ≡ false
  pub tables : is_table_too_many before line ≡ false

unless : (test : Bool) (reason : Reason) (rest : Option Reason) → cond test (Some reason) rest ≡ None → (test ≡ false) × (rest ≡ None)
unless true reason rest h = cc
unless false reason rest h = (refl, h)

pub passes : (before : List Form) (line : Form) → fault_of before line ≡ None → Passes before line
unfolding fault_of
passes before line h =
    let b = unless (is_out_of_place before line) OutOfPlace _ h in
    let c = unless (is_bad_number line) BadNumber _ b.1 in
    let d = unless (is_bad_session before line) BadSession _ c.1 in
    let e = unless (is_unknown before line) UnknownName _ d.1 in
    let f = unless (is_bad_limit before line) BadLimit _ e.1 in
    let g = unless (is_bad_nesting before line) BadNesting _ f.1 in
    let s = unless (is_bad_statement line) BadStatement _ g.1 in
    let i = unless (is_too_long before line) TooLong _ s.1 in
    let j = unless (is_too_much before line || is_table_too_many before line) TooMuch _ i.1 in
    record { place = b.0; number = c.0; session = d.0; known = e.0; limit = f.0; nesting = g.0; statement = s.0; long = i.0; much = or_first (is_too_much before line) (is_table_too_many before line) j.0; tables = or_second (is_too_much before line) (is_table_too_many before line) j.0 }
