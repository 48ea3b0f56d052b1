-- What is there for a block is there for its connect, its lines, its quit and its end.
use Rattle.std.proofs.Common.{ℕ, ◌≡◌, ◌<◌, ◌≤◌, ◌+◌, ◌*◌, ◌^◌, List, [], ◌∷◌, ◌++◌, length, ap, ◌∙◌, arith}
use Rattle.pfs_actor.specs.ActionAsks.{MayAct}
use Rattle.pfs_levels.specs.Views.{Store, Affords, Used}
use Rattle.pfs_play.specs.Errands.{actions_on, cost_on}
use Rattle.pfs_play.specs.Needs.{Advanced, Ready, need_on}
use Rattle.pfs_play.proofs.NeedSteps.{SomeLed}
use Rattle.pfs_play.proofs.HeldBounds.{owed_fits, settling_fits}
use Rattle.pfs_script.specs.declared.blocks.Block.{Block}
use Rattle.pfs_script.specs.declared.blocks.BlockLine.{BlockLine}
use Rattle.pfs_script.specs.declared.blocks.BlockLine.TheVariants as said
use Rattle.pfs_script.specs.Marks.{written_out}
use Rattle.pfs_session.specs.SessionStates.{State, Book, no_place, nothing_held}
use Rattle.pfs_session.specs.Settlements.{owed_by_state, settle_cost}
use Rattle.pfs_blocks.specs.BlockNeeds.{Within, need_of_block, need_to_end}
use Rattle.pfs_blocks.proofs.BlockEnds.{quit_actions, quit_cost, quit_length}

-- the lines alone
pub ready_lines : (lines : List BlockLine) (session : Book) (s : Store) → Ready (need_to_end lines) session s → Ready (need_on (written_out lines)) session s
ready_lines lines session s r = record {
  early = r.early;
  rare = omega (arith, r.rare);
  begun = r.begun;
  affords = record {
    left = omega (arith, r.affords.left);
    draws = r.affords.draws;
    room = omega (arith, r.affords.room);
  };
}

pub lines_within : (lines : List BlockLine) (old new : Book) (was now : Store) → Advanced (need_on (written_out lines)) old new was now → Within (need_to_end lines) old new was now
lines_within lines old new was now p = record {
  drawn = p.drawn;
  actions = omega (arith, p.actions);
  number = ap (λ (s : State). s.number) p.rest;
  depth = p.depth;
  used = record {
    left = omega (arith, p.used.left);
    draws = p.used.draws;
    no_more = p.used.no_more;
    hand = p.used.hand;
    words = p.used.words;
    name = p.used.name;
    room = omega (arith, p.used.room);
  };
}

-- behind the lines the session may end
pub quit_early : (lines : List BlockLine) (old at : Book) (a b : Store) → Ready (need_to_end lines) old a → Advanced (need_on (written_out lines)) old at a b → at.state.actions + 1 < 2 ^ 64
quit_early lines old at a b r p = omega (arith, r.rare, p.actions)

pub quit_acts : (lines : List BlockLine) (old at : Book) (a b : Store) → Ready (need_to_end lines) old a → Advanced (need_on (written_out lines)) old at a b → SomeLed b.reached
    → MayAct (length (owed_by_state at.state) + 253) (settle_cost (owed_by_state at.state) + 254) b at.journal
quit_acts lines old at a b r p led = record {
  begun = led;
  affords = record {
    left = omega (arith, owed_fits at.state p.wide, r.affords.left, p.used.left);
    draws = omega arith;
    room = omega (arith, settling_fits at.state p.wide, r.affords.room, p.used.room);
  };
}

pub quit_within : (lines : List BlockLine) (old at new : Book) (a b c : Store) → Advanced (need_on (written_out lines)) old at a b
    → new.state ≡ record at.state { place = no_place; held = nothing_held; actions = at.state.actions + 1; last = new.state.last }
    → Used (length (owed_by_state at.state) + 253) 0 (settle_cost (owed_by_state at.state) + 254) b c at.journal new.journal → Within (need_to_end lines) old new a c
quit_within lines old at new a b c p rest used =
    let drawn = ap (λ (s : State). s.drawn) rest in
    let actions = ap (λ (s : State). s.actions) rest in
    record {
      drawn = omega (arith, drawn, p.drawn);
      actions = omega (arith, actions, p.actions);
      number = ap (λ (s : State). s.number) rest ∙ ap (λ (s : State). s.number) p.rest;
      depth = ap (λ (s : State). s.opened.depth) rest ∙ p.depth;
      used = record {
        left = omega (arith, owed_fits at.state p.wide, p.used.left, used.left);
        draws = omega (arith, p.used.draws, used.draws);
        no_more = omega (arith, p.used.no_more, used.no_more);
        hand = λ row. used.hand row ∙ p.used.hand row;
        words = used.words ∙ p.used.words;
        name = used.name ∙ p.used.name;
        room = omega (arith, settling_fits at.state p.wide, p.used.room, used.room);
      };
    }

-- the lines before a quit
pub ready_before : (body : List BlockLine) (session : Book) (s : Store) → Ready (need_to_end (body ++ said.Quit ∷ [])) session s → Ready (need_to_end body) session s
ready_before body session s r =
    let n = quit_length body in
    let k = quit_actions body in
    let m = quit_cost body in
    record {
      early = omega (arith, n, r.early);
      rare = omega (arith, k, r.rare);
      begun = r.begun;
      affords = record {
        left = omega (arith, n, k, r.affords.left);
        draws = omega (arith, n, r.affords.draws);
        room = omega (arith, m, r.affords.room);
      };
    }

pub within_behind : (body : List BlockLine) (old new : Book) (was now : Store) → Within (need_to_end body) old new was now → Within (need_to_end (body ++ said.Quit ∷ [])) old new was now
within_behind body old new was now p =
    let n = quit_length body in
    let k = quit_actions body in
    let m = quit_cost body in
    record {
      drawn = omega (arith, n, p.drawn);
      actions = omega (arith, k, p.actions);
      number = p.number;
      depth = p.depth;
      used = record {
        left = omega (arith, n, k, p.used.left);
        draws = omega (arith, n, p.used.draws);
        no_more = p.used.no_more;
        hand = p.used.hand;
        words = p.used.words;
        name = p.used.name;
        room = omega (arith, m, p.used.room);
      };
    }

-- behind a connect, where there was one
pub record IsConnected (old one : Book) (a b : Store) : Type 0 where
  pub rest : one.state ≡ record old.state { place = one.state.place; actions = one.state.actions; last = one.state.last }
  pub actions : one.state.actions ≤ old.state.actions + 1
  pub used : Used 5 0 6 a b old.journal one.journal

pub ready_connect : (block : Block) (session : Book) (s : Store) → Ready (need_of_block block) session s → MayAct 5 6 s session.journal
ready_connect block session s r = record {
  begun = r.begun;
  affords = record {
    left = omega (arith, r.affords.left);
    draws = omega arith;
    room = omega (arith, r.affords.room);
  };
}

pub ready_connected : (block : Block) (old one : Book) (a b : Store) → Ready (need_of_block block) old a → IsConnected old one a b → SomeLed b.reached → Ready (need_to_end block.lines) one b
ready_connected block old one a b r p led =
    let drawn = ap (λ (s : State). s.drawn) p.rest in
    record {
      early = omega (arith, drawn, r.early);
      rare = omega (arith, p.actions, r.rare);
      begun = led;
      affords = record {
        left = omega (arith, r.affords.left, p.used.left);
        draws = omega (arith, r.affords.draws, p.used.draws);
        room = omega (arith, r.affords.room, p.used.room);
      };
    }

-- the session may pause behind its lines
pub may_pause : (block : Block) (old one two : Book) (a b c : Store) → Ready (need_of_block block) old a → IsConnected old one a b → Within (need_to_end block.lines) one two b c → length two.state.held ≡ 193
    → Affords (length (owed_by_state two.state)) 0 (settle_cost (owed_by_state two.state)) c two.journal
may_pause block old one two a b c r p q wide = record {
  left = omega (arith, owed_fits two.state wide, r.affords.left, p.used.left, q.used.left);
  draws = omega arith;
  room = omega (arith, settling_fits two.state wide, r.affords.room, p.used.room, q.used.room);
}

-- and has used no more than its block needs
pub block_within : (block : Block) (old one two new : Book) (a b c d : Store) → IsConnected old one a b → Within (need_to_end block.lines) one two b c → length two.state.held ≡ 193
    → new.state ≡ record two.state { held = nothing_held } → Used (length (owed_by_state two.state)) 0 (settle_cost (owed_by_state two.state)) c d two.journal new.journal → Within (need_of_block block) old new a d
block_within block old one two new a b c d p q wide settled used =
    let first = ap (λ (s : State). s.drawn) p.rest in
    let last = ap (λ (s : State). s.drawn) settled in
    let actions = ap (λ (s : State). s.actions) settled in
    record {
      drawn = omega (arith, first, last, q.drawn);
      actions = omega (arith, actions, p.actions, q.actions);
      number = ap (λ (s : State). s.number) settled ∙ (q.number ∙ ap (λ (s : State). s.number) p.rest);
      depth = ap (λ (s : State). s.opened.depth) settled ∙ (q.depth ∙ ap (λ (s : State). s.opened.depth) p.rest);
      used = record {
        left = omega (arith, owed_fits two.state wide, p.used.left, q.used.left, used.left);
        draws = omega (arith, p.used.draws, q.used.draws, used.draws);
        no_more = omega (arith, p.used.no_more, q.used.no_more, used.no_more);
        hand = λ row. used.hand row ∙ (q.used.hand row ∙ p.used.hand row);
        words = used.words ∙ (q.used.words ∙ p.used.words);
        name = used.name ∙ (q.used.name ∙ p.used.name);
        room = omega (arith, settling_fits two.state wide, p.used.room, q.used.room, used.room);
      };
    }
