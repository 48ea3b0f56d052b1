use Rattle.std.proofs.Common.{rules, ◌≡◌, ◌<◌, length, get_or, subst}
use Rattle.pfs_script.specs.declared.blocks.Block.{Block}
use Rattle.pfs_jobs.specs.Jobs.{HasRun}
use Rattle.pfs_jobs.proofs.Halves.{none_ran, one_ran}
use Rattle.pfs_jobs.proofs.jobs.play_at_most_one.Goals as goal

pub returns-then-not-is_empty : goal.returns-then-not-is_empty
returns-then-not-is_empty g c =
    let some : 0 < length c.args.jobs.now = search rules in
    let ran = subst (λ (block : Block). HasRun c.args.setting.now g.A.Actor.setting g.A.Actor.change g.A.Readable.seen block (get_or c.args.jobs.now 0 c.index-jobs-0.result) c.play_job.new.job) c.index-blocks-0.is c.play_job.ensures.ran in
    record { ran = one_ran c.args.setting.now g.A.Actor.setting g.A.Actor.change g.A.Readable.seen c.args.blocks.now c.args.jobs.now c.index-blocks-0.result c.index-jobs-0.result c.play_job.new.job c.requires.short some c.requires.waiting ran }

pub returns-else-not-is_empty : goal.returns-else-not-is_empty
returns-else-not-is_empty g c =
    let none : length c.args.jobs.now ≡ 0 = search rules in
    record { ran = none_ran c.args.setting.now g.A.Actor.setting g.A.Actor.change g.A.Readable.seen c.args.blocks.now c.args.jobs.now none c.requires.waiting }
