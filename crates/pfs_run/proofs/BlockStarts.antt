-- What a run knows where its next block begins.
use Rattle.std.proofs.Common.{◌≤◌, ◌<◌, ◌+◌, ◌^◌, List, ◌∷◌, ◌++◌, arith}
use Rattle.pfs_law_plain.specs.Spells.{Spell}
use Rattle.pfs_classes.specs.declared.setting.Setting.{Setting}
use Rattle.pfs_law_script.specs.BlocksAhead.{ahead_of, block_at, done_before}
use Rattle.pfs_blocks.specs.BlockNeeds.{need_of_block}
use Rattle.pfs_play.specs.Errands.{cost_on}
use Rattle.pfs_play.specs.Needs.{Ready}
use Rattle.pfs_script.specs.Marks.{written_out}
use Rattle.pfs_script.specs.declared.blocks.Block.{Block}
use Rattle.pfs_script.specs.declared.blocks.Phase.{Phase}
use Rattle.pfs_session.specs.SessionStates.{Book}
use Rattle.pfs_seats.proofs.BlockPlaces.{IsHere}
use Rattle.pfs_seats.proofs.BlockStarts.{early_at, rare_at}
use Rattle.pfs_seats.proofs.ReadySessions.{IsReady, ready}
use Rattle.pfs_seats.specs.Seats.{GoesOn, depth_of, seat_of}
use Rattle.pfs_run.specs.RunPositions.{IsAlong, Standing, position}

module _ (setting : Setting) (phases before : List Phase) (first : List Block) (block : Block) (others : List Block) (after : List Phase)
    (run : Standing) (along : IsAlong setting phases (position before first (block_at before block ∷ ahead_of before others after)) run)
    (here : IsHere setting phases before first block others after (done_before before first)) where
  abbrev spells : List Spell
  spells = along.earlier ++ along.current

  pub ready_at : (book : Book) → GoesOn (seat_of run.seats block.session) block.session setting.limits.statement_stack (depth_of phases block.session) book → IsReady setting phases (done_before before first) spells block book
  ready_at book goes =
      ready setting phases before first block others after (done_before before first) spells book (seat_of run.seats block.session) here along.course.blocks (along.seated block.session here.playable.low here.playable.high) goes

  pub needs_at : (book : Book) → IsReady setting phases (done_before before first) spells block book → cost_on (written_out block.lines) + 648 ≤ book.journal.room → Ready (need_of_block block) book run.store
  needs_at book is room = record {
    early = early_at setting phases before first block others after (done_before before first) spells book here is;
    rare = rare_at setting phases before first block others after (done_before before first) spells book here is;
    begun = (along.start, along.calls, along.led);
    affords = record {
      left = omega (arith, along.spare, here.few, here.playable.short, here.rare);
      draws = omega (arith, along.tickets, here.few, here.playable.short);
      room = room;
    };
  }

  pub digests_at : run.lost.digests < 2 ^ 63
  digests_at = omega (arith, along.few_digests, here.few)

  pub statements_at : run.lost.statements < 2 ^ 63
  statements_at = omega (arith, along.few_statements, here.few)

  pub waits_at : run.lost.waits < 2 ^ 63
  waits_at = omega (arith, along.few_waits, here.few)
