use Rattle.std.proofs.Common.{◌≡◌, ◌+◌, [], ◌∷◌, length, ap, ◌∙◌, sym, subst, arith}
use Rattle.std.proofs.lemmas.List.{length-append}
use Rattle.std.proofs.lemmas.List.Elements.{All-append, All-cons, All-nil}
use Rattle.pfs_reader.proofs.Readings.{more_left}
use Rattle.pfs_readsets.specs.ReadSets.{IsNext, target_of}
use Rattle.pfs_readsets.specs.TablePlaces.{scope_of}
use Rattle.pfs_check_finals.proofs.standing.read_standing.Goals as goal

pub loop-target-init : goal.loop-target-init
loop-target-init g c = rw c.new-readings.ensures.items (record {
  reached = c.open-set.ensures;
  shown = λ shown stands. All-nil _;
})

pub loop-target-smaller : goal.loop-target-smaller
loop-target-smaller g c =
    let items = c.loop-target.readings.items in
    let few = more_left (scope_of c.args.setting.now) c.args.table items c.in-Some.target
    (c.in-Some.ensures (scope_of c.args.setting.now) c.args.table items c.loop-target.invariant.reached) in
    let more : length c.push.new.self.items ≡ length items + 1 =
    ap length c.in_ok-push.ensures.items ∙ length-append items (c.reading-reading.result ∷ []) in
    omega (arith, few, more)

pub loop-target-preserved : goal.loop-target-preserved
loop-target-preserved g c =
    let items = c.loop-target.readings.items in
    let next = c.in-Some.ensures (scope_of c.args.setting.now) c.args.table items c.loop-target.invariant.reached in
    rw c.in_ok-push.ensures.items (record {
      reached = c.note.ensures (scope_of c.args.setting.now) c.args.table items c.loop-target.invariant.reached
          (subst (IsNext (scope_of c.args.setting.now) c.args.table items) (sym c.reading-reading.ensures.target) next);
      shown = λ shown stands.
          All-append (λ reading. reading ≡ shown c.args.phase (target_of reading)) items (c.reading-reading.result ∷ [])
          (c.loop-target.invariant.shown shown stands)
          (All-cons (λ reading. reading ≡ shown c.args.phase (target_of reading)) c.reading-reading.result []
          (c.reading-reading.ensures.shown shown stands ∙ ap (shown c.args.phase) (sym c.reading-reading.ensures.target)) (All-nil _));
    })

pub returns-clause-whole : goal.returns-clause-whole
returns-clause-whole g c = c.in_default.ensures (scope_of c.args.setting.now) c.args.table c.loop-target.readings.items c.loop-target.invariant.reached

pub returns-clause-each : goal.returns-clause-each
returns-clause-each g c = λ shown stands. c.loop-target.invariant.shown shown stands
