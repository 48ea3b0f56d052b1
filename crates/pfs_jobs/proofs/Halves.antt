-- Jobs in two halves, and all of them again.
use Rattle.std.proofs.Common.{suc, ◌≡◌, ◌<◌, List, [], ◌∷◌, ◌++◌, length, get_or, slice_set, refl, ap, arith}
use Rattle.pfs_admin.specs.declared.changes.Change.{Change}
use Rattle.pfs_board.specs.declared.view.Label.{Label}
use Rattle.pfs_classes.specs.declared.setting.Setting.{Setting}
use Rattle.pfs_levels.specs.Views.{Store}
use Rattle.pfs_script.specs.declared.blocks.Block.{Block}
use Rattle.pfs_jobs.specs.Jobs.{AreWaiting, HasRun, HaveRun}
use Rattle.pfs_jobs.specs.declared.jobs.Job.{Job}

-- as many jobs as blocks
pub as_many : {A : Type 0} (fixed : Setting) (change : Label → Change) (seen : A → Store) (blocks : List Block) (jobs : List (Job A)) → AreWaiting fixed change seen blocks jobs → length blocks ≡ length jobs
as_many fixed change seen [] [] waiting = refl
as_many fixed change seen [] (job ∷ jobs) waiting = absurd waiting
as_many fixed change seen (block ∷ blocks) [] waiting = absurd waiting
as_many fixed change seen (block ∷ blocks) (job ∷ jobs) waiting = ap suc (as_many fixed change seen blocks jobs waiting.1)

pub in_halves : {A : Type 0} (fixed : Setting) (change : Label → Change) (seen : A → Store) (these those : List Block) (front back : List (Job A)) → length these ≡ length front → AreWaiting fixed change seen (these ++ those) (front ++ back)
    → AreWaiting fixed change seen these front × AreWaiting fixed change seen those back
in_halves fixed change seen [] those [] back same waiting = (tt, waiting)
in_halves fixed change seen [] those (job ∷ front) back same waiting = (let no : ⊥ = omega (arith, same) in absurd no)
in_halves fixed change seen (block ∷ these) those [] back same waiting = (let no : ⊥ = omega (arith, same) in absurd no)
in_halves fixed change seen (block ∷ these) those (job ∷ front) back same waiting =
    (let halves = in_halves fixed change seen these those front back (omega (arith, same)) waiting.1 in ((waiting.0, halves.0), halves.1))

pub both_ran : {A : Type 0} (setting fixed : Setting) (change : Label → Change) (seen : A → Store) (these those : List Block) (front back front_now back_now : List (Job A)) → HaveRun setting fixed change seen these front front_now
    → HaveRun setting fixed change seen those back back_now → HaveRun setting fixed change seen (these ++ those) (front ++ back) (front_now ++ back_now)
both_ran setting fixed change seen [] those [] back [] back_now first second = second
both_ran setting fixed change seen [] those [] back (now ∷ front_now) back_now first second = absurd first
both_ran setting fixed change seen [] those (job ∷ front) back front_now back_now first second = absurd first
both_ran setting fixed change seen (block ∷ these) those [] back front_now back_now first second = absurd first
both_ran setting fixed change seen (block ∷ these) those (job ∷ front) back [] back_now first second = absurd first
both_ran setting fixed change seen (block ∷ these) those (job ∷ front) back (now ∷ front_now) back_now first second =
    (first.0, both_ran setting fixed change seen these those front back front_now back_now first.1 second)

pub none_ran : {A : Type 0} (setting fixed : Setting) (change : Label → Change) (seen : A → Store) (blocks : List Block) (jobs : List (Job A)) → length jobs ≡ 0 → AreWaiting fixed change seen blocks jobs → HaveRun setting fixed change seen blocks jobs jobs
none_ran setting fixed change seen [] [] none waiting = tt
none_ran setting fixed change seen (block ∷ blocks) [] none waiting = absurd waiting
none_ran setting fixed change seen blocks (job ∷ jobs) none waiting = (let no : ⊥ = omega (arith, none) in absurd no)

pub one_ran : {A : Type 0} (setting fixed : Setting) (change : Label → Change) (seen : A → Store) (blocks : List Block) (jobs : List (Job A)) (block : Block) (job new : Job A) → length jobs < 2 → 0 < length jobs → AreWaiting fixed change seen blocks jobs
    → HasRun setting fixed change seen (get_or blocks 0 block) (get_or jobs 0 job) new → HaveRun setting fixed change seen blocks jobs (slice_set jobs 0 new)
one_ran setting fixed change seen blocks [] block job new few some waiting ran = (let no : ⊥ = omega (arith, some) in absurd no)
one_ran setting fixed change seen [] (first ∷ jobs) block job new few some waiting ran = absurd waiting
one_ran setting fixed change seen (one ∷ []) (first ∷ []) block job new few some waiting ran = (ran, tt)
one_ran setting fixed change seen (one ∷ (two ∷ blocks)) (first ∷ []) block job new few some waiting ran = absurd waiting.1
one_ran setting fixed change seen blocks (first ∷ (second ∷ jobs)) block job new few some waiting ran = (let no : ⊥ = omega (arith, few) in absurd no)
