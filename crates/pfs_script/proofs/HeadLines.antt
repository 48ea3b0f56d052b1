-- A line that has no fault may be taken by the head.
use Rattle.std.proofs.Common.{ℕ, ◌≡◌, Bool, false, true, ◌||◌, not, List, Option, Some, None, Result, Ok, Err, refl, sym, ◌∙◌, arith}
use Rattle.std.specs.Prelude.{IsTrue, is_some}
use Rattle.std.specs.List.{list_any, list_all}
use Rattle.std.proofs.lemmas.Bool.Decides.{nat_tests}
use Rattle.pfs_lemmas.proofs.Bools.{or_first, or_second}
use Rattle.pfs_rows.specs.declared.limits.Limit.{Limit}
use Rattle.pfs_classes.specs.declared.classes.ClassRef.{ClassRef}
use Rattle.pfs_classes.specs.Kinds.{is_fixed}
use Rattle.pfs_script.specs.declared.forms.Form.{Form}
use Rattle.pfs_script.specs.declared.forms.Form.TheVariants as form
use Rattle.pfs_script.specs.declared.reasons.Reason.{Reason}
use Rattle.pfs_script.specs.Forms.{HasItsKind, form}
use Rattle.pfs_script.specs.Headings.{named_limit, is_before_limits, head_of, resolved, is_known, IsAllowed, MayCome, StandsIn}
use Rattle.pfs_script.specs.Reasons.{is_within, gives, fault_of, unless_fault, placed, next}
use Rattle.pfs_script.proofs.FaultlessLines.{Passes}
use Rattle.pfs_script.proofs.HeadLemmas.{knows_resolved}

allowed : (limit : Option Limit) (value : ℕ) (given : Bool) → (not (is_within limit value) || given) ≡ false → IsAllowed limit (Some value)
allowed (Some one) value given h = (grind (arith, nat_tests, h), grind (arith, nat_tests, h))
allowed None value given h = tt

allowed_none : (limit : Option Limit) → IsAllowed limit None
allowed_none (Some one) = tt
allowed_none None = tt

none_there : (o : Option ClassRef) → is_some o ≡ false → o ≡ None
none_there None h = refl
none_there (Some one) h = cc

pub may_come : (before : List Form) (line : Form) → Passes before line → HasItsKind line → MayCome (head_of before) line
may_come before (form.Limit name (Some value)) p k = allowed (named_limit name) value (list_any (gives (named_limit name)) before) p.limit
may_come before (form.Limit name None) p k = allowed_none (named_limit name)
may_come before (form.Class name kind enabled timed) p k =
    (k, or_first (is_fixed kind) (is_known before name) p.known, none_there (resolved (head_of before) name) (knows_resolved before name ∙ or_second (is_fixed kind) (is_known before name) p.known))
may_come before _ p k = tt

is_so : (b : Bool) → not b ≡ false → IsTrue b
is_so true h = refl
is_so false h = cc

pub stands_in : (before : List Form) (line : Form) → Passes before line → StandsIn before line
stands_in before (form.Limit name value) p = is_so (list_all is_before_limits before) p.place
stands_in before _ p = tt

unless_none : (before : List Form) (one line : Form) (fault : Option Reason) → fault_of before one ≡ fault → unless_fault one fault ≡ Ok line → fault_of before line ≡ None
unless_none before one line None h e = let q : one ≡ line = cc in rw (sym q) h
unless_none before one line (Some reason) h e = cc

placed_none : (before : List Form) (said : Result Form Reason) (line : Form) → placed before said ≡ Ok line → fault_of before line ≡ None
placed_none before (Ok one) line e = unless_none before one line (fault_of before one) refl e
placed_none before (Err reason) line e = cc

-- what the next line says has no fault there
pub next_none : (before : List Form) (bytes : List ℕ) (line : Form) → next before bytes ≡ Ok line → fault_of before line ≡ None
unfolding next
next_none before bytes line e = placed_none before (form bytes) line e
