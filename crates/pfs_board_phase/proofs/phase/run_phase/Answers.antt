use Rattle.std.proofs.Common.{◌∷◌, ◌++◌, [], ap, refl, ◌∙◌, arith}
use Rattle.std.specs.List.{flat_map}
use Rattle.pfs_finals.specs.Counters.{counters, lost_row}
use Rattle.pfs_board_phase.proofs.PhaseRuns.{has_read, is_played, may_play}
use Rattle.pfs_board_phase.proofs.phase.run_phase.Goals as goal

pub play_blocks-requires-clause-may : goal.play_blocks-requires-clause-may
play_blocks-requires-clause-may g c κs within =
    let h = c.requires.here in
    may_play c.requires.script.0 c.args.setting.now c.args.phases.now h.0 c.args.phase.now h.1 g.N.Shared.switches c.args.run.root c.args.run.seats.items c.args.run.lost c.args.run.phases.items
    c.requires.script.1 h.2 h.3 g.N.Named.change _ c.requires.change c.as_slice.ensures c.begins.ensures

pub read_tables-requires-clause-whole : goal.read_tables-requires-clause-whole
read_tables-requires-clause-whole g c =
    let h = c.requires.here in
    let p = is_played c.requires.script.0 c.args.setting.now c.args.phases.now h.0 c.args.phase.now h.1 g.N.Shared.switches c.args.run.root c.args.run.seats.items c.args.run.lost c.args.run.phases.items
    c.requires.script.1 h.2 h.3 g.N.Named.change _ c.requires.change c.as_slice.ensures c.played.ensures _ _ _ _ c.in_ok-played.ensures in
    p.whole

pub new-report-requires : goal.new-report-requires
new-report-requires g c =
    let h = c.requires.here in
    let p = is_played c.requires.script.0 c.args.setting.now c.args.phases.now h.0 c.args.phase.now h.1 g.N.Shared.switches c.args.run.root c.args.run.seats.items c.args.run.lost c.args.run.phases.items
    c.requires.script.1 h.2 h.3 g.N.Named.change _ c.requires.change c.as_slice.ensures c.played.ensures _ _ _ _ c.in_ok-played.ensures in
    p.good _ _ _ _ (has_read c.args.setting.now g.N.Named.change _ g.N.Shared.switches _ _ _ _ c.requires.change c.in_ok-root.ensures p.actors p.gathered p.keeps) (record {
      number = omega (arith, c.len.ensures, c.args.run.phases.ok);
      blocks = c.new.ensures;
      shown = refl;
      counted = c.in_ok-counted.ensures.rows ∙ ap (λ z. flat_map (lost_row c.args.setting.now.classes z) counters) c.counters_of.ensures;
      good = c.in_ok-counted.ensures.good;
    })

pub returns : goal.returns
returns g c = λ before after parted between.
    (let p = is_played c.requires.script.0 c.args.setting.now c.args.phases.now before c.args.phase.now after g.N.Shared.switches c.args.run.root c.args.run.seats.items c.args.run.lost c.args.run.phases.items
    c.requires.script.1 parted between g.N.Named.change _ c.requires.change c.as_slice.ensures c.played.ensures _ _ _ _ c.in_ok-played.ensures in
    p.next _ _ _ _ _ (has_read c.args.setting.now g.N.Named.change _ g.N.Shared.switches _ _ _ _ c.requires.change c.in_ok-root.ensures p.actors p.gathered p.keeps) (record {
      number = omega (arith, c.len.ensures, c.args.run.phases.ok);
      blocks = c.new.ensures;
      shown = refl;
      counted = c.in_ok-counted.ensures.rows ∙ ap (λ z. flat_map (lost_row c.args.setting.now.classes z) counters) c.counters_of.ensures;
      good = c.in_ok-counted.ensures.good;
    }) (c.in_ok-push.ensures.items ∙ ap (λ z. c.args.run.phases.items ++ z ∷ []) c.new-report.ensures))
