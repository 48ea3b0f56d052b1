use Rattle.std.proofs.Common.{subst, ◌∙◌, ap}
use Rattle.pfs_levels.specs.Moves.{Did}
use Rattle.pfs_admin.specs.WordChanges.{flags_changed, words_changed}
use Rattle.pfs_admin.specs.SetupStatements.{first_word, word_count}
use Rattle.pfs_admin.specs.Works.{flagging_calls, flagging_entries}
use Rattle.pfs_admin.proofs.WordChanges.{answered_rows}
use Rattle.pfs_admin.proofs.setups.set_deleted.Goals as goal

pub returns-clause-did : goal.returns-clause-did
returns-clause-did g c =
    let words = c.args.words.now in
    let first = first_word c.args.table in
    let count = word_count c.args.table in
    subst (λ z. Did (flagging_calls words (flags_changed z words first count)) (flagging_entries words (flags_changed z words first count)) c.args.log.now c.set_inserted.new.log (g.H.Readable.seen c.args.rows.now).reached (g.H.Readable.seen c.set_inserted.new.rows).reached)
    (answered_rows c.args.names.now c.args.objects.now c.args.table 1) c.set_inserted.ensures.did

pub returns-clause-mine : goal.returns-clause-mine
returns-clause-mine g c =
    c.set_inserted.ensures.mine
    ∙ ap (λ z. words_changed z c.args.words.now (first_word c.args.table) (word_count c.args.table)) (answered_rows c.args.names.now c.args.objects.now c.args.table 1)
