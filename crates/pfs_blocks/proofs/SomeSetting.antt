-- A setting, so that a run can be named before its script is known: it has room for nothing but the classes that are
-- always there.
use Rattle.std.proofs.Common.{ℕ, ◌≡◌, zero, suc, List, [], ◌∷◌, ◌++◌, map, Contains, refl, ap, arith}
use Rattle.std.specs.Prelude.{codes}
use Rattle.std.proofs.lemmas.Grind.{merely}
use Rattle.std.proofs.lemmas.List.Elements.{Contains-append_left, Contains-push}
use Rattle.pfs_classes.proofs.RegisterNames.{known_from}
use Rattle.pfs_classes.specs.Builtins.{Row, builtins, builtin_of, HasBuiltins}
use Rattle.pfs_classes.specs.Registry.{registered}
use Rattle.pfs_classes.specs.Settings.{ComesFrom, builtin}
use Rattle.pfs_classes.specs.declared.setting.Setting.{Setting}
use Rattle.pfs_rows.specs.Limits.{AreInRange}
use Rattle.pfs_rows.specs.declared.limits.Limits.{Limits}

abbrev limits : Limits
limits = record {
  thread_instances = 0;
  accounts = 0;
  users = 0;
  hosts = 0;
  digests = 0;
  statement_stack = 1;
  mutex_classes = 0;
  rwlock_classes = 0;
  cond_classes = 0;
  file_classes = 0;
  socket_classes = 0;
  stage_classes = 0;
  statement_classes = 0;
}

pub in_range : AreInRange limits
in_range = record {
  thread_instances = omega arith;
  accounts = omega arith;
  users = omega arith;
  hosts = omega arith;
  digests = omega arith;
  statement_stack_least = omega arith;
  statement_stack = omega arith;
  mutex_classes = omega arith;
  rwlock_classes = omega arith;
  cond_classes = omega arith;
  file_classes = omega arith;
  socket_classes = omega arith;
  stage_classes = omega arith;
  statement_classes = omega arith;
}

-- the names of these classes alone
abbrev names : List (List ℕ)
names = map (λ row. row.name) builtins ++ codes "transaction" ∷ []

contains_name : (rows : List Row) (row : Row) → Contains rows row → Contains (map (λ one. one.name) rows) row.name
contains_name [] row (k, within, is) = absurd (omega (arith, within))
contains_name (first ∷ rows) row (zero, within, is) = (zero, omega arith, ap (λ (z : Row). z.name) is)
contains_name (first ∷ rows) row (suc k, within, is) =
    let rest : Contains (map (λ one. one.name) rows) row.name = contains_name rows row (k, omega (arith, within), is) in
    (suc rest.0, omega (arith, rest.1), rest.2)

has_builtins : HasBuiltins names
has_builtins = record {
  rows = λ row has. Contains-append_left (map (λ one. one.name) builtins) (codes "transaction" ∷ []) row.name (contains_name builtins row has);
  transaction = Contains-push (map (λ one. one.name) builtins) (codes "transaction");
}

pub comes : ComesFrom names (builtin_of names limits)
comes = builtin limits in_range has_builtins

pub same_limits : (builtin_of names limits).limits ≡ limits
unfolding registered
same_limits = refl

unfoldable pub some_setting : Setting
some_setting = record {
  names = names;
  classes = builtin_of names limits;
  tables = [];
  digests = [];
  limits = limits;
  consumers = 0;
  in_range = in_range;
  same_limits = same_limits;
  come = merely comes;
  known = known_from names (builtin_of names limits) comes;
  few_tables = omega arith;
  few_digests = omega arith;
}
