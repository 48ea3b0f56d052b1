use Rattle.std.proofs.Common.{◌∙◌, sym, subst}
use Rattle.pfs_classes.specs.declared.classes.Class.{Class}
use Rattle.pfs_classes.specs.Registry.{Registry}
use Rattle.pfs_classes.specs.Settings.{ComesFrom, register}
use Rattle.pfs_classes.proofs.classes.Classes.register.Goals as goal

pub returns-in_default-clause-duplicate : goal.returns-in_default-clause-duplicate
returns-in_default-clause-duplicate c = (λ e. absurd (cc), λ p. absurd (c.in_default.ensures p.0.0 p.0.1))

pub returns-then-is_known-clause-bad_name : goal.returns-then-is_known-clause-bad_name
returns-then-is_known-clause-bad_name c = (λ e. absurd (cc), λ none. absurd (none c.in-Some.kind c.in-Some.ensures))

pub returns-in-Ok-clause-bad_name : goal.returns-in-Ok-clause-bad_name
returns-in-Ok-clause-bad_name c = (λ e. absurd (cc), λ none. absurd (none c.in-Some.kind c.in-Some.ensures))

pub returns-in-Err-clause-bad_name : goal.returns-in-Err-clause-bad_name
returns-in-Err-clause-bad_name c = (λ e. absurd (cc), λ none. absurd (none c.in-Some.kind c.in-Some.ensures))

pub returns-in-Ok-clause-come : goal.returns-in-Ok-clause-come
returns-in-Ok-clause-come c comes =
    let class : Class = record { name = c.args.name; kind = c.in-Some.kind; enabled = c.args.enabled; timed = c.args.timed } in
    subst (λ (r : Registry). ComesFrom c.args.names.now r) (sym c.in-Ok.ensures.ok.1)
    (register c.args.self.now class comes c.requires.of_names c.in-Some.ensures (c.requires.of_kind c.in-Some.kind c.in-Some.ensures) (sym c.is_known.ensures ∙ c.if-is_known.false))
