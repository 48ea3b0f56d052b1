use Rattle.std.proofs.Common.{ℕ, ◌≡◌, List, [], ◌∷◌, ap, ◌∙◌, arith, subst, length}
use Rattle.pfs_play.proofs.ActionParts.{remarked}
use Rattle.pfs_exec.specs.Selections.{IsAnswer}
use Rattle.pfs_law_session.specs.Deeds.{remark}
use Rattle.pfs_rows.specs.declared.table.Reading.{Reading}
use Rattle.pfs_runs.specs.SelectAnswers.{Answer}
use Rattle.pfs_session.specs.Turns.{Played}
use Rattle.pfs_session.specs.declared.remarks.Remark.TheVariants.{Query, Rows}
use Rattle.pfs_tables.specs.ListedRows.{listed_rows}
use Rattle.pfs_play.proofs.ReadingCounts.{queried}
use Rattle.pfs_play.proofs.ErrandParts.{query_ran}
use Rattle.pfs_play.proofs.queries.query.Goals as goal

pub append-requires-2 : goal.append-requires-2
append-requires-2 g c = record { room = omega (arith, c.append.ensures.room, c.in_ok-readings.ensures.used.room, c.requires.room) }

pub returns-clause-run : goal.returns-clause-run
returns-clause-run g c =
    let readings : List Reading = c.in_ok-readings.readings in
    let answer : Answer = c.in_ok-answer.answer in
    let listed : c.in_ok-shown.shown ≡ listed_rows c.args.setting.now c.args.what.table readings = c.in_ok-shown.ensures.rows ∙ ap (listed_rows c.args.setting.now c.args.what.table) c.as_slice.ensures in
    let begin : Played (remark Query ∷ []) c.args.session.now c.append.new.self (g.R.Readable.seen c.args.rows.now).reached (g.R.Readable.seen c.args.rows.now).reached =
    remarked Query c.args.session.now c.append.new.self (g.R.Readable.seen c.args.rows.now).reached c.append.ensures.does c.append.ensures.entries in
    let end : Played (remark (Rows (length answer)) ∷ []) c.look_at.new.session c.append-2.new.self (g.R.Readable.seen c.look_at.new.rows).reached (g.R.Readable.seen c.look_at.new.rows).reached =
    subst (λ (n : ℕ). Played (remark (Rows n) ∷ []) c.look_at.new.session c.append-2.new.self (g.R.Readable.seen c.look_at.new.rows).reached (g.R.Readable.seen c.look_at.new.rows).reached) (ap length c.as_slice-2.ensures)
    (remarked (Rows (length c.as_slice-2.result.now)) c.look_at.new.session c.append-2.new.self (g.R.Readable.seen c.look_at.new.rows).reached c.append-2.ensures.does c.append-2.ensures.entries) in
    λ fixed change. query_ran c.args.setting.now fixed change c.args.what readings answer c.args.session.now c.append-2.new.self c.args.answers.now.items c.push.new.self.items (g.R.Readable.seen c.args.rows.now).reached (g.R.Readable.seen c.look_at.new.rows).reached
    c.in_ok-readings.ensures.whole (subst (λ (rows : Answer). IsAnswer c.args.what rows answer) listed c.in_ok-answer.ensures) c.in_ok-push.ensures.items
    (queried readings (length answer) c.args.session.now c.append.new.self c.look_at.new.session c.append-2.new.self (g.R.Readable.seen c.args.rows.now).reached (g.R.Readable.seen c.look_at.new.rows).reached begin c.in_ok-readings.ensures.played end)

pub returns-clause-used : goal.returns-clause-used
returns-clause-used g c =
    let used = c.in_ok-readings.ensures.used in
    record {
      left = used.left;
      draws = used.draws;
      no_more = used.no_more;
      hand = used.hand;
      words = used.words;
      name = used.name;
      room = omega (arith, c.append.ensures.room, used.room, c.append-2.ensures.room);
    }
