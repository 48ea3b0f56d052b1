use Rattle.std.proofs.Common.{◌∷◌, [], ◌∙◌, inl, inr, None, subst, sym, arith}
use Rattle.std.proofs.lemmas.List.{take_all}
use Rattle.std.proofs.lemmas.List.Elements.{All-append, All-cons, All-nil}
use Rattle.pfs_event.specs.declared.entry.Entry.TheVariants as says
use Rattle.pfs_readsets.specs.ReadSets.{IsNext}
use Rattle.pfs_readsets.specs.TablePlaces.{scope_of}
use Rattle.pfs_runs.specs.SelectAnswers.{IsShown}
use Rattle.pfs_check_answers.proofs.WalkSteps.{missed_end, missed_here, told_more}
use Rattle.pfs_check_answers.proofs.walking.walk_entries.Goals as goal

pub returns-in_default-clause-walked : goal.returns-in_default-clause-walked
returns-in_default-clause-walked g c =
    missed_here c.args.entries.now c.loop-at.readings.items c.loop-at.at c.loop-at.invariant.told (scope_of c.args.setting.now) c.args.table says.Query
    c.loop-at-test.true (inl (c.in_default.ensures (scope_of c.args.setting.now) c.args.table c.loop-at.readings.items c.loop-at.invariant.reached))

pub returns-in_default-reading_of-clause-walked : goal.returns-in_default-reading_of-clause-walked
returns-in_default-reading_of-clause-walked g c =
    missed_here c.args.entries.now c.loop-at.readings.items c.loop-at.at c.loop-at.invariant.told (scope_of c.args.setting.now) c.args.table
    (says.Connect 0 None None None None) c.loop-at-test.true
    (inr (
      c.in-Some.target,
      c.in-Some.ensures (scope_of c.args.setting.now) c.args.table c.loop-at.readings.items c.loop-at.invariant.reached,
      c.in_default-reading_of.ensures.told,
    ))

pub loop-at-preserved : goal.loop-at-preserved
loop-at-preserved g c =
    let items = c.loop-at.readings.items in
    let reading = c.in-Some-reading_of.reading in
    let told = c.in-Some-reading_of.ensures.told in
    let next = c.in-Some.ensures (scope_of c.args.setting.now) c.args.table items c.loop-at.invariant.reached in
    rw c.in_ok-push.ensures.items (record {
      reached = c.note.ensures (scope_of c.args.setting.now) c.args.table items c.loop-at.invariant.reached
          (subst (IsNext (scope_of c.args.setting.now) c.args.table items) (sym told.0) next);
      told = told_more c.args.entries.now items c.loop-at.at c.loop-at.invariant.told reading (says.Connect 0 None None None None) c.loop-at-test.true told.1;
      shown = λ all content flags knows named.
          All-append (IsShown content flags) items (reading ∷ []) (c.loop-at.invariant.shown all content flags knows named)
          (All-cons (IsShown content flags) reading []
          (c.in-Some-reading_of.ensures.shown all content flags knows (named c.loop-at.at (says.Connect 0 None None None None) c.loop-at-test.true)) (All-nil _));
    })

pub returns-in-Some-target-clause-walked : goal.returns-in-Some-target-clause-walked
returns-in-Some-target-clause-walked g c =
    missed_end c.args.entries.now c.loop-at.readings.items
    (c.loop-at.invariant.told ∙ take_all c.loop-at.at c.args.entries.now (omega (arith, c.loop-at-test.false))) (scope_of c.args.setting.now) c.args.table
    c.in-Some-target.field-0
    (c.in-Some-target.ensures (scope_of c.args.setting.now) c.args.table c.loop-at.readings.items c.loop-at.invariant.reached)

pub returns-in-None-clause-walked : goal.returns-in-None-clause-walked
returns-in-None-clause-walked g c = record {
  whole = c.in-None.ensures (scope_of c.args.setting.now) c.args.table c.loop-at.readings.items c.loop-at.invariant.reached;
  told = c.loop-at.invariant.told ∙ take_all c.loop-at.at c.args.entries.now (omega (arith, c.loop-at-test.false));
}
