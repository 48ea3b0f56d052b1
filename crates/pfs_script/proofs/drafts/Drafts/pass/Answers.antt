use Rattle.std.proofs.Common.{refl, ap, Some, None}
use Rattle.pfs_script.specs.declared.drafts.Owner.{Owner}
use Rattle.pfs_script.specs.Sessions.{is_phase, ends_block}
use Rattle.pfs_script.specs.Drafts.{front_of}
use Rattle.pfs_script.proofs.DraftSteps.{connect_begins, resume_begins, block_passed, said_passed, no_owner}
use Rattle.pfs_script.proofs.drafts.Drafts.pass.Goals as goal

pub returns-in_ok-push-in-Connect-clause-phases : goal.returns-in_ok-push-in-Connect-clause-phases
returns-in_ok-push-in-Connect-clause-phases c =
    let owner : Owner = record { user = c.as_str.result; host = c.as_str-in-Connect.result } in
    let begun = c.begin_block.ensures in
    block_passed c.begin_block.result c.args.said c.args.line.now (front_of c.in-Connect.session (Some owner)) c.args.self.now
    record c.args.self.now { owners = c.push.new.self } c.begin_block.new.self
    (ap is_phase c.in-Connect.is) (ap ends_block c.in-Connect.is)
    (connect_begins c.args.line.now c.in-Connect.session c.in-Connect.user c.in-Connect.host owner c.in-Connect.is c.as_str.ensures c.as_str-in-Connect.ensures)
    refl refl begun.blocks begun.front begun.lines begun.same

pub returns-in-Resume-clause-phases : goal.returns-in-Resume-clause-phases
returns-in-Resume-clause-phases c =
    let begun = c.begin_block-in-Resume.ensures in
    block_passed c.begin_block-in-Resume.result c.args.said c.args.line.now (front_of c.in-Resume.session None) c.args.self.now
    c.args.self.now c.begin_block-in-Resume.new.self
    (ap is_phase c.in-Resume.is) (ap ends_block c.in-Resume.is)
    (resume_begins c.args.line.now c.in-Resume.session c.in-Resume.is)
    refl refl begun.blocks begun.front begun.lines begun.same

pub returns-in_default : goal.returns-in_default
returns-in_default c = record {
  phases = said_passed c.add.result c.args.said c.args.line.now c.args.self.now c.add.new.self
      c.in_default.not-Phase c.in_default.not-Connect c.in_default.not-Resume c.add.ensures.lines c.add.ensures.same;
  owners = no_owner c.add.result c.args.line.now c.args.self.now c.add.new.self c.in_default.not-Connect c.add.ensures.same;
}
