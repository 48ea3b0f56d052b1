use Rattle.std.proofs.Common.{◌+◌, List, length, refl, ap, sym, subst, ◌∙◌, arith}
use Rattle.pfs_levels.specs.declared.answers.Word.{Word}
use Rattle.pfs_levels.specs.Moves.{Did}
use Rattle.pfs_admin.specs.Truncations.{off}
use Rattle.pfs_admin.specs.Works.{flagging, flagged, flagging_calls, flagging_entries, word_at}
use Rattle.pfs_admin.proofs.WordChanges.{changed_past, changed_wide, changed_next, words_whole, flags_whole, changed_more, early_same}
use Rattle.pfs_admin.proofs.truncations.turn_off.Goals as goal

pub flag-requires-clause-wide : goal.flag-requires-clause-wide
flag-requires-clause-wide g c =
    ap length c.loop-table.invariant.mine ∙ (changed_wide off c.args.words.now 96 c.loop-table.table ∙ c.requires.wide)

pub flag-requires-clause-early : goal.flag-requires-clause-early
flag-requires-clause-early g c =
    let at = 96 + c.loop-table.table in
    early_same c.loop-table.words c.args.words.now at
    (ap (λ (z : List Word). word_at z at) c.loop-table.invariant.mine ∙ changed_past off c.args.words.now 96 c.loop-table.table at (omega arith)) (c.requires.early at)

pub loop-table-preserved : goal.loop-table-preserved
loop-table-preserved g c =
    let words = c.args.words.now in
    let i = c.loop-table.table in
    record {
      did = changed_more off words 96 i 0 c.args.log.now c.loop-table.log c.flag.new.log _ _ _ refl c.loop-table.invariant.did
          (subst (λ z. Did (flagging_calls z (flagging z (96 + i) 0)) (flagging_entries z (flagging z (96 + i) 0)) c.loop-table.log c.flag.new.log (g.H.Readable.seen c.loop-table.rows).reached (g.H.Readable.seen c.flag.new.rows).reached) c.loop-table.invariant.mine c.flag.ensures.did);
      mine = c.flag.ensures.mine ∙ (ap (λ (z : List Word). flagged z (96 + i) 0) c.loop-table.invariant.mine ∙ sym (changed_next off words 96 i));
      used = record {
        left = omega (arith, c.flag.ensures.used.left, c.loop-table.invariant.used.left);
        draws = omega (arith, c.flag.ensures.used.draws, c.loop-table.invariant.used.draws);
        no_more = omega (arith, c.flag.ensures.used.no_more, c.loop-table.invariant.used.no_more);
        hand = λ r. c.flag.ensures.used.hand r ∙ c.loop-table.invariant.used.hand r;
        words = c.flag.ensures.used.words;
        name = c.flag.ensures.used.name ∙ c.loop-table.invariant.used.name;
        room = omega (arith, c.flag.ensures.used.room, c.loop-table.invariant.used.room);
      };
    }

pub returns-clause-did : goal.returns-clause-did
returns-clause-did g c =
    subst (λ z. Did (flagging_calls c.args.words.now z) (flagging_entries c.args.words.now z) c.args.log.now c.loop-table.log (g.H.Readable.seen c.args.rows.now).reached (g.H.Readable.seen c.loop-table.rows).reached)
    (flags_whole off c.args.words.now 96 c.loop-table.table 64 (omega arith)) c.loop-table.invariant.did

pub returns-clause-mine : goal.returns-clause-mine
returns-clause-mine g c = c.loop-table.invariant.mine ∙ words_whole off c.args.words.now 96 c.loop-table.table 64 (omega arith)

pub flag-requires-clause-room : goal.flag-requires-clause-room
flag-requires-clause-room g c = omega (arith, c.loop-table.invariant.used.room, c.requires.room)
