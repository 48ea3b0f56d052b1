use Rattle.std.proofs.Common.{◌∙◌}
use Rattle.pfs_script.proofs.InternedNames.{named_step, named_end}
use Rattle.pfs_script.proofs.heading.Heading.name_owners.Goals as goal

pub loop-owner-preserved : goal.loop-owner-preserved
loop-owner-preserved c = record {
  named = named_step c.loop-owner.self c.name_owner.new.self c.args.owners.now c.loop-owner.owner-index _ _ c.loop-owner-test.true c.in_ok-name_owner.ensures.names c.loop-owner.invariant.named;
  same = λ name. c.in_ok-name_owner.ensures.same name ∙ c.loop-owner.invariant.same name;
}

pub returns-clause-names : goal.returns-clause-names
returns-clause-names c = named_end c.loop-owner.self c.args.owners.now c.loop-owner.owner-index _ c.loop-owner-test.false c.loop-owner.invariant.named

pub returns-clause-same : goal.returns-clause-same
returns-clause-same c name = c.loop-owner.invariant.same name
