use Rattle.std.proofs.Common.{◌≡◌, ◌+◌, ◌++◌, ◌∷◌, [], ap, refl, ◌∙◌, subst, sym, arith}
use Rattle.std.specs.List.{All}
use Rattle.pfs_admin.specs.Fold.{state_of}
use Rattle.pfs_admin.specs.declared.changes.Change.{Change}
use Rattle.pfs_board.specs.declared.view.Label.{Label}
use Rattle.pfs_classes.specs.declared.setting.Setting.{Setting}
use Rattle.pfs_containers.specs.ContainerState.{lost_in}
use Rattle.pfs_levels.specs.PlainStore.{labels_after}
use Rattle.pfs_journal.specs.Reports.{IsBlock}
use Rattle.pfs_journal.specs.declared.report.PhaseParts.{PhaseParts}
use Rattle.pfs_run.proofs.RunPhaseEnds.{ended_along, lost_of}
use Rattle.pfs_run.proofs.ReportedPhases.{blocks_good}
use Rattle.pfs_seats.proofs.ReportedPhases.{tables_good}
use Rattle.pfs_run.proofs.RunnerState.{standing_of, store_of}
use Rattle.pfs_run.proofs.runner.Runner.end_phase.Goals as goal

pub final_tables-requires : goal.final_tables-requires
final_tables-requires g c = record { away = λ row high. refl }

pub new-report-requires : goal.new-report-requires
new-report-requires g c =
    let h = c.requires.here in
    let told = c.new.ensures ∙ ap (λ z. z.items) c.replace-blocks.ensures.value in
    record {
      blocks = subst (All IsBlock) (sym told) (blocks_good c.alone.ensures c.blocks-2.ensures h.0 c.args.setting.now h.1 h.2 h.3 h.4 (standing_of g.N.Named.setting g.N.Named.change c.args.self.now.actor.rows c.args.self.now.actor.admin c.args.self.now.progress) h.5 h.7);
      tables = tables_good c.tables.ensures c.args.setting.now c.in_ok-tables.tables _ _ c.requires.named c.requires.texts c.requires.tables c.in_ok-tables.ensures.tables;
      lost = c.in_ok-lost.ensures.good;
    }

pub returns : goal.returns
returns g c =
    let report : PhaseParts = record { number = c.len.result + 1; blocks = c.new.result; tables = c.in_ok-tables.tables; lost = c.in_ok-lost.lost } in
    let h = c.requires.here in
    let told = c.new.ensures ∙ ap (λ z. z.items) c.replace-blocks.ensures.value in
    λ phases before first after changes a. ended_along c.args.setting.now phases before first after (standing_of g.N.Named.setting g.N.Named.change c.args.self.now.actor.rows c.args.self.now.actor.admin c.args.self.now.progress) (store_of g.N.Named.setting g.N.Named.change c.final_tables.new.rows.rows c.final_tables.new.rows.admin) _ _ report a (record {
      answers = λ start calls at. at.0.answers;
      kept = c.in_ok-tables.ensures.kept;
      number = omega (arith, c.len.ensures, c.args.self.now.progress.phases.ok);
      blocks = told;
      tables = c.in_ok-tables.ensures.tables;
      counters_of = c.counters.result;
      containers = λ start calls led.
          subst (λ (what : Label → Change). lost_in (state_of c.args.setting.now what (labels_after calls)).kept.now ≡ lost_of c.counters.result) changes
          (subst (λ (fixed : Setting). lost_in (state_of fixed g.N.Named.change (labels_after calls)).kept.now ≡ lost_of c.counters.result) c.requires.setting (c.counters.ensures.containers start calls led));
      digests = c.counters.ensures.digests;
      statements = c.counters.ensures.statements;
      waits = c.counters.ensures.waits;
      good = record {
        blocks = subst (All IsBlock) (sym told) (blocks_good c.alone.ensures c.blocks-2.ensures h.0 c.args.setting.now h.1 h.2 h.3 h.4 (standing_of g.N.Named.setting g.N.Named.change c.args.self.now.actor.rows c.args.self.now.actor.admin c.args.self.now.progress) h.5 h.7);
        tables = tables_good c.tables.ensures c.args.setting.now c.in_ok-tables.tables _ _ c.requires.named c.requires.texts c.requires.tables c.in_ok-tables.ensures.tables;
        lost = c.in_ok-lost.ensures.good;
      };
      lost_are = c.in_ok-lost.ensures.rows;
    }) (c.in_ok-push.ensures.items ∙ ap (λ z. c.args.self.now.progress.phases.items ++ z ∷ []) c.new-report.ensures) (ap (λ z. z.items) c.replace-blocks.ensures.after ∙ c.new-empty.ensures.items)
