use Rattle.std.proofs.Common.{◌≡◌, ◌+◌, List, length, ap, sym, subst, ◌∙◌, arith}
use Rattle.pfs_levels.specs.declared.answers.Word.{Word}
use Rattle.pfs_levels.specs.Moves.{Did}
use Rattle.pfs_setups.specs.Updates as updates
use Rattle.pfs_admin.specs.WordChanges.{changed_up_to, flags_changed, words_changed}
use Rattle.pfs_admin.specs.SetupStatements.{word_count}
use Rattle.pfs_admin.specs.Works.{flagging, flagged, flagging_calls, flagging_entries, word_at}
use Rattle.pfs_admin.proofs.WordChanges.{changed_past, changed_wide, changed_next, words_whole, flags_whole, changed_more, early_same}
use Rattle.pfs_admin.proofs.setups.set_updated.Goals as goal

pub flag-requires-clause-wide : goal.flag-requires-clause-wide
flag-requires-clause-wide g c =
    ap length c.loop-at.invariant.mine ∙ (changed_wide (updates.flags_behind c.args.names.now c.args.containers.now.now.places.threads c.args.objects.now c.args.what.now) c.args.words.now c.first_word-first.result c.loop-at.at ∙ c.requires.wide)

pub flag-requires-clause-early : goal.flag-requires-clause-early
flag-requires-clause-early g c =
    let at = c.first_word-first.result + c.loop-at.at in
    early_same c.loop-at.words c.args.words.now at
    (ap (λ (z : List Word). word_at z at) c.loop-at.invariant.mine ∙ changed_past (updates.flags_behind c.args.names.now c.args.containers.now.now.places.threads c.args.objects.now c.args.what.now) c.args.words.now c.first_word-first.result c.loop-at.at at (omega arith))
    (c.requires.early at)

pub loop-at-preserved : goal.loop-at-preserved
loop-at-preserved g c =
    let change = updates.flags_behind c.args.names.now c.args.containers.now.now.places.threads c.args.objects.now c.args.what.now in
    let words = c.args.words.now in
    let first = c.first_word-first.result in
    let i = c.loop-at.at in
    let same : word_at c.loop-at.words (first + i) ≡ word_at words (first + i) =
    ap (λ (z : List Word). word_at z (first + i)) c.loop-at.invariant.mine ∙ changed_past change words first i (first + i) (omega arith) in
    let flags : c.flags_behind-flags.result ≡ change (first + i) (word_at words (first + i)).flags =
    c.flags_behind-flags.ensures ∙ ap (λ (w : Word). change (first + i) w.flags) same in
    record {
      did = changed_more change words first i c.flags_behind-flags.result c.args.log.now c.loop-at.log c.flag.new.log _ _ _ flags c.loop-at.invariant.did
          (subst (λ z. Did (flagging_calls z (flagging z (first + i) c.flags_behind-flags.result)) (flagging_entries z (flagging z (first + i) c.flags_behind-flags.result)) c.loop-at.log c.flag.new.log (g.H.Readable.seen c.loop-at.rows).reached (g.H.Readable.seen c.flag.new.rows).reached) c.loop-at.invariant.mine c.flag.ensures.did);
      mine = c.flag.ensures.mine ∙ (ap (λ (z : List Word). flagged z (first + i) c.flags_behind-flags.result) c.loop-at.invariant.mine
          ∙ (ap (λ z. flagged (changed_up_to change words first i) (first + i) z) flags ∙ sym (changed_next change words first i)));
      used = record {
        left = omega (arith, c.flag.ensures.used.left, c.loop-at.invariant.used.left);
        draws = omega (arith, c.flag.ensures.used.draws, c.loop-at.invariant.used.draws);
        no_more = omega (arith, c.flag.ensures.used.no_more, c.loop-at.invariant.used.no_more);
        hand = λ r. c.flag.ensures.used.hand r ∙ c.loop-at.invariant.used.hand r;
        words = c.flag.ensures.used.words;
        name = c.flag.ensures.used.name ∙ c.loop-at.invariant.used.name;
        room = omega (arith, c.flag.ensures.used.room, c.loop-at.invariant.used.room);
      };
    }

pub returns-clause-did : goal.returns-clause-did
returns-clause-did g c =
    let change = updates.flags_behind c.args.names.now c.args.containers.now.now.places.threads c.args.objects.now c.args.what.now in
    subst (λ z. Did (flagging_calls c.args.words.now (flags_changed change c.args.words.now z (word_count c.args.what.now.table))) (flagging_entries c.args.words.now (flags_changed change c.args.words.now z (word_count c.args.what.now.table))) c.args.log.now c.loop-at.log (g.H.Readable.seen c.args.rows.now).reached (g.H.Readable.seen c.loop-at.rows).reached)
    c.first_word-first.ensures.first
    (subst (λ z. Did (flagging_calls c.args.words.now z) (flagging_entries c.args.words.now z) c.args.log.now c.loop-at.log (g.H.Readable.seen c.args.rows.now).reached (g.H.Readable.seen c.loop-at.rows).reached)
    (flags_whole change c.args.words.now c.first_word-first.result c.loop-at.at (word_count c.args.what.now.table) (omega arith)) c.loop-at.invariant.did)

pub returns-clause-mine : goal.returns-clause-mine
returns-clause-mine g c =
    let change = updates.flags_behind c.args.names.now c.args.containers.now.now.places.threads c.args.objects.now c.args.what.now in
    c.loop-at.invariant.mine
    ∙ (words_whole change c.args.words.now c.first_word-first.result c.loop-at.at (word_count c.args.what.now.table) (omega arith)
    ∙ ap (λ z. words_changed change c.args.words.now z (word_count c.args.what.now.table)) c.first_word-first.ensures.first)
