-- What the lines of a generated script fix: what MySQL has of its own, and the names of users and hosts.
use Rattle.std.proofs.Common.{ℕ, ◌≡◌, List, [], ◌∷◌, ◌++◌, refl, ap, sym, ◌∙◌, subst, arith}
use Rattle.std.specs.Prelude.{fold}
use Rattle.std.specs.Str.{bytes_eq}
use Rattle.std.specs.List.{list_any}
use Rattle.std.proofs.lemmas.List.Sums.{fold_push}
use Rattle.pfs_rows.specs.declared.limits.Limits.{Limits}
use Rattle.pfs_rows.specs.Limits.{default_limits, AreInRange}
use Rattle.pfs_names.specs.InternedTexts.{interned}
use Rattle.pfs_classes.specs.Registry.{Registry}
use Rattle.pfs_classes.specs.Builtins.{with_builtins}
use Rattle.pfs_classes.specs.Settings.{ComesFrom}
use Rattle.pfs_classes.specs.declared.setting.Setting.{Setting}
use Rattle.pfs_classes.proofs.BuiltinLemmas.{comes_more}
use Rattle.pfs_classes.proofs.RegisterNames.{known_from}
use Rattle.pfs_classes.proofs.RowTexts.{has_builtins}
use Rattle.pfs_script.specs.declared.forms.Form.{Form}
use Rattle.pfs_script.specs.declared.forms.Form.TheVariants as lines
use Rattle.pfs_script.specs.Headings.{limits_behind, limits_of, consumers_behind, consumers_of, Naming, naming_behind, naming_under, naming_of, Head, head_with, head_under, head_of}
use Rattle.pfs_script.specs.SessionNames.{with_session, names_of}
use Rattle.pfs_script.specs.Finds.{tables_of, digests_of}
use Rattle.pfs_script.specs.Scripts.{IsSetting}
use Rattle.pfs_script.proofs.BuiltinNames.{limits-builtin}
use Rattle.pfs_script.proofs.NameIds.{interns}
use Rattle.pfs_script.proofs.NextFinds.{head_limits, few_digests}

-- the line fixes nothing but names of sessions
pub record FixesNothing (line : Form) : Type 0 where
  pub limits : (limits : Limits) → limits_behind limits line ≡ limits
  pub naming : (naming : Naming) → naming_behind naming line ≡ naming
  pub consumers : (word : ℕ) → consumers_behind word line ≡ word

-- what there is without a line
abbrev pub own_head : Head
own_head = head_under default_limits 28888

-- that is what the lines fix, and the classes come from the built-in ones under their names
pub record Fixes (before : List Form) : Type 0 where
  pub head : head_of before ≡ own_head
  pub come : ComesFrom (names_of before) own_head.classes

own_range : AreInRange default_limits
own_range = record {
  thread_instances = omega arith;
  accounts = omega arith;
  users = omega arith;
  hosts = omega arith;
  digests = omega arith;
  statement_stack_least = omega arith;
  statement_stack = omega arith;
  mutex_classes = omega arith;
  rwlock_classes = omega arith;
  cond_classes = omega arith;
  file_classes = omega arith;
  socket_classes = omega arith;
  stage_classes = omega arith;
  statement_classes = omega arith;
}

head_none : head_of [] ≡ own_head
unfolding head_of naming_of limits_of consumers_of
head_none = refl

own_come : ComesFrom own_head.names own_head.classes
unfolding naming_under
own_come = ComesFrom.builtin default_limits own_range (has_builtins [])

names_none : own_head.names ≡ names_of []
unfolding names_of head_of naming_of limits_of
names_none = refl

pub fixes_none : Fixes []
fixes_none = record { head = head_none; come = subst (λ names. ComesFrom names own_head.classes) names_none own_come }

naming_same : (before : List Form) (line : Form) (limits more : Limits) → FixesNothing line → more ≡ limits → fold naming_behind (naming_under more) (before ++ line ∷ []) ≡ fold naming_behind (naming_under limits) before
naming_same before line limits more f e =
    fold_push naming_behind (naming_under more) before line
    ∙ (f.naming (fold naming_behind (naming_under more) before) ∙ ap (λ one. fold naming_behind (naming_under one) before) e)

head_same : (before : List Form) (line : Form) → FixesNothing line → head_of (before ++ line ∷ []) ≡ head_of before
unfolding head_of naming_of limits_of consumers_of
head_same before line f =
    let limits : limits_of (before ++ line ∷ []) ≡ limits_of before = fold_push limits_behind default_limits before line ∙ f.limits (limits_of before) in
    let consumers : consumers_of (before ++ line ∷ []) ≡ consumers_of before = fold_push consumers_behind 28888 before line ∙ f.consumers (consumers_of before) in
    let naming : naming_of (before ++ line ∷ []) ≡ naming_of before = naming_same before line (limits_of before) (limits_of (before ++ line ∷ [])) f limits in
    ap (λ one. head_with one (limits_of (before ++ line ∷ [])) (consumers_of (before ++ line ∷ []))) naming
    ∙ (ap (λ one. head_with (naming_of before) one (consumers_of (before ++ line ∷ []))) limits
    ∙ ap (λ one. head_with (naming_of before) (limits_of before) one) consumers)

come_interned : (names : List (List ℕ)) (text : List ℕ) (r : Registry) → ComesFrom names r → ComesFrom (interned names text) r
come_interned names text r come = comes_more names (interned names text) text r (interns names text (list_any (λ one. bytes_eq one text) names) refl) come

come_line : (names : List (List ℕ)) (line : Form) (r : Registry) → ComesFrom names r → ComesFrom (with_session names line) r
come_line names (lines.Connect session user host) r come = come_interned (interned names user) host r (come_interned names user r come)
come_line names _ r come = come

names_more : (before : List Form) (line : Form) → head_of (before ++ line ∷ []) ≡ head_of before → names_of (before ++ line ∷ []) ≡ with_session (names_of before) line
unfolding names_of
names_more before line e =
    ap (λ (one : Head). fold with_session one.names (before ++ line ∷ [])) e ∙ fold_push with_session (head_of before).names before line

pub fixes_more : (before : List Form) (line : Form) → Fixes before → FixesNothing line → Fixes (before ++ line ∷ [])
fixes_more before line f n =
    let same = head_same before line n in
    record {
      head = same ∙ f.head;
      come = subst (λ names. ComesFrom names own_head.classes) (sym (names_more before line same)) (come_line (names_of before) line own_head.classes f.come);
    }

own_limits : own_head.classes.limits ≡ default_limits
unfolding naming_under
own_limits = limits-builtin (with_builtins []) default_limits

-- so there is a setting of them
pub setting_of : (all : List Form) → Fixes all → tables_of all ≡ [] → (setting : Setting) × IsSetting all setting
setting_of all f none =
    let limits : (head_of all).limits ≡ default_limits = ap (λ (one : Head). one.limits) f.head in
    let come : ComesFrom (names_of all) (head_of all).classes = subst (λ (one : Head). ComesFrom (names_of all) one.classes) (sym f.head) f.come in
    let few = few_digests (limits_of all).digests all in
    let most : (limits_of all).digests ≡ (head_of all).limits.digests = ap (λ (one : Limits). one.digests) (sym (head_limits all)) in (
      record {
        names = names_of all;
        classes = (head_of all).classes;
        tables = tables_of all;
        digests = digests_of (limits_of all).digests all;
        limits = (head_of all).limits;
        consumers = (head_of all).consumers;
        in_range = subst AreInRange (sym limits) own_range;
        same_limits = ap (λ (one : Head). one.classes.limits) f.head ∙ (own_limits ∙ sym limits);
        come = ∣ come ∣₁;
        known = known_from (names_of all) (head_of all).classes come;
        few_tables = rw none (omega arith);
        few_digests = omega (arith, few, most);
      },
      record { names = refl; classes = refl; tables = refl; digests = refl; limits = refl; consumers = refl },
    )
