use Rattle.std.proofs.Common.{rules, ◌≡◌, List, ◌++◌, length, sym, subst, arith}
use Rattle.pfs_script.specs.declared.blocks.Block.{Block}
use Rattle.pfs_jobs.specs.Jobs.{AreWaiting, HaveRun}
use Rattle.pfs_jobs.specs.declared.jobs.Job.{Job}
use Rattle.pfs_jobs.proofs.Halves.{as_many, both_ran, in_halves}
use Rattle.pfs_jobs.proofs.jobs.+halves.Goals as goal

pub play_all-split_at-requires : goal.play_all-split_at-requires
play_all-split_at-requires g t c =
    let many : length c.args.blocks.now ≡ length c.args.jobs.now = as_many g.A.Actor.setting g.A.Actor.change g.A.Readable.seen c.args.blocks.now c.args.jobs.now c.requires.waiting in
    omega (arith, many)

pub play_all-play_both-requires-clause-front : goal.play_all-play_both-requires-clause-front
play_all-play_both-requires-clause-front g t c κs within =
    let J = Job g.row.A.Denot in
    let these : List Block = c.split_at.result.0.now in
    let those : List Block = c.split_at.result.1.now in
    let front : List J = c.split_at_mut-front.result.0.now in
    let back : List J = c.split_at_mut-front.result.1.now in
    let e : c.args.blocks.now ≡ these ++ those = search rules in
    let same : length these ≡ length front = omega (arith, c.split_at.ensures.front_len, c.split_at_mut-front.ensures.front_len) in
    let Q : List J → Type 0 = λ z. AreWaiting g.A.Actor.setting g.A.Actor.change g.A.Readable.seen (these ++ those) z in
    let S : List Block → Type 0 = λ z. AreWaiting g.A.Actor.setting g.A.Actor.change g.A.Readable.seen z c.args.jobs.now in
    (in_halves g.A.Actor.setting g.A.Actor.change g.A.Readable.seen these those front back same (subst Q c.split_at_mut-front.ensures.value (subst S e c.requires.waiting))).0

pub play_all-play_both-requires-clause-back : goal.play_all-play_both-requires-clause-back
play_all-play_both-requires-clause-back g t c κs within =
    let J = Job g.row.A.Denot in
    let these : List Block = c.split_at.result.0.now in
    let those : List Block = c.split_at.result.1.now in
    let front : List J = c.split_at_mut-front.result.0.now in
    let back : List J = c.split_at_mut-front.result.1.now in
    let e : c.args.blocks.now ≡ these ++ those = search rules in
    let same : length these ≡ length front = omega (arith, c.split_at.ensures.front_len, c.split_at_mut-front.ensures.front_len) in
    let Q : List J → Type 0 = λ z. AreWaiting g.A.Actor.setting g.A.Actor.change g.A.Readable.seen (these ++ those) z in
    let S : List Block → Type 0 = λ z. AreWaiting g.A.Actor.setting g.A.Actor.change g.A.Readable.seen z c.args.jobs.now in
    (in_halves g.A.Actor.setting g.A.Actor.change g.A.Readable.seen these those front back same (subst Q c.split_at_mut-front.ensures.value (subst S e c.requires.waiting))).1

pub play_all-returns : goal.play_all-returns
play_all-returns g t c =
    let J = Job g.row.A.Denot in
    let these : List Block = c.split_at.result.0.now in
    let those : List Block = c.split_at.result.1.now in
    let front : List J = c.split_at_mut-front.result.0.now in
    let back : List J = c.split_at_mut-front.result.1.now in
    let front_now : List J = c.play_both.new.front in
    let back_now : List J = c.play_both.new.back in
    let e : c.args.blocks.now ≡ these ++ those = search rules in
    let Q : List J → Type 0 = λ z. HaveRun c.args.setting.now g.A.Actor.setting g.A.Actor.change g.A.Readable.seen (these ++ those) z (front_now ++ back_now) in
    let S : List Block → Type 0 = λ z. HaveRun c.args.setting.now g.A.Actor.setting g.A.Actor.change g.A.Readable.seen z c.args.jobs.now (front_now ++ back_now) in
    record {
      ran = subst S (sym e) (subst Q (sym c.split_at_mut-front.ensures.value)
          (both_ran c.args.setting.now g.A.Actor.setting g.A.Actor.change g.A.Readable.seen these those front back front_now back_now c.play_both.ensures.front c.play_both.ensures.back));
    }
