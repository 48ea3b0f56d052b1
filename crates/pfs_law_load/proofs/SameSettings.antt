-- Settings that agree in what they fix are the same setting.
use Rattle.std.proofs.Common.{◌≡◌, ℕ, ◌≤◌, List, length, ap, subst}
use Rattle.std.proofs.Props.{props}
use Rattle.pfs_classes.specs.Registry.{Registry}
use Rattle.pfs_classes.specs.Settings.{ComesFrom, HasNames}
use Rattle.pfs_classes.specs.declared.setting.DigestText.{DigestText}
use Rattle.pfs_classes.specs.declared.setting.Setting.{Setting}
use Rattle.pfs_classes.specs.declared.setting.TableName.{TableName}
use Rattle.pfs_rows.specs.Limits.{AreInRange}
use Rattle.pfs_rows.specs.declared.limits.Limits.{Limits}
use Rattle.pfs_script.specs.Scripts.{AreAlike}

-- what a setting fixes, and what it keeps
abbrev Fields : Type 0
Fields = List (List ℕ) × Registry × List TableName × List DigestText × Limits × ℕ

abbrev Keep : Fields → Type 0
Keep d =
    AreInRange d.4 × (d.1.limits ≡ d.4) × ∥ ComesFrom d.0 d.1 ∥₁ × HasNames d.0 d.1 × (length d.2 ≤ 64)
    × (length d.3 ≤ d.4.digests)

abbrev fields_of : Setting → Fields
fields_of s = (s.names, s.classes, s.tables, s.digests, s.limits, s.consumers)

abbrev keep_of : (s : Setting) → Keep (fields_of s)
keep_of s = (s.in_range, s.same_limits, s.come, s.known, s.few_tables, s.few_digests)

abbrev setting_of : (d : Fields) → Keep d → Setting
setting_of d keep = record {
  names = d.0;
  classes = d.1;
  tables = d.2;
  digests = d.3;
  limits = d.4;
  consumers = d.5;
  in_range = keep.0;
  same_limits = keep.1;
  come = keep.2;
  known = keep.3;
  few_tables = keep.4;
  few_digests = keep.5;
}

keep_once : (d : Fields) → IsProp (Keep d)
keep_once d = hlevel props

same_fields : (a b : Setting) → fields_of a ≡ fields_of b → a ≡ b
same_fields a b same =
    let P : Fields → Type 0 = λ d. (keep : Keep d) → a ≡ setting_of d keep in
    subst P same (λ keep. ap (λ k. setting_of (fields_of a) k) (keep_once (fields_of a) (keep_of a) keep)) (keep_of b)

pub same_setting : (a b : Setting) → AreAlike a b → a ≡ b
same_setting a b h =
    let names : a.names ≡ b.names = h.names in
    let classes : a.classes ≡ b.classes = h.classes in
    let tables : a.tables ≡ b.tables = h.tables in
    let digests : a.digests ≡ b.digests = h.digests in
    let limits : a.limits ≡ b.limits = h.limits in
    let consumers : a.consumers ≡ b.consumers = h.consumers in
    let same : fields_of a ≡ fields_of b = cc in
    same_fields a b same
