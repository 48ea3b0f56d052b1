-- The front agrees with the lines so far.
use Rattle.std.proofs.Common.{ℕ, ◌≡◌, Bool, false, true, ◌||◌, ◌&&◌, List, [], ◌∷◌, ◌++◌, Option, Some, None, refl, ap, sym, ◌∙◌, length}
use Rattle.std.specs.Prelude.{get_or}
use Rattle.std.specs.List.{list_any, list_all}
use Rattle.std.proofs.lemmas.List.Folds.{list_all-append}
use Rattle.pfs_rows.specs.declared.limits.Limit.{Limit}
use Rattle.pfs_script.specs.declared.forms.Form.{Form}
use Rattle.pfs_script.specs.declared.forms.Form.TheVariants as form
use Rattle.pfs_script.specs.Reasons.{gives}

pub none_gives : (before : List Form) → list_any (gives None) before ≡ false
none_gives [] = refl
none_gives (form.Limit name value ∷ before) = none_gives before
none_gives (_ ∷ before) = none_gives before
