-- A root takes an actor's seats in.
use Rattle.std.proofs.Common.{List, [], ◌∷◌, ◌++◌, sym, arith, refl, inl, inr, ⊎_elim}
use Rattle.pfs_board.specs.declared.view.Entered.{Entered}
use Rattle.pfs_board.specs.declared.view.Finished.{Finished}
use Rattle.pfs_board.specs.declared.view.Sight.{Sight}
use Rattle.pfs_board_store.specs.Looks.{AreLooked}
use Rattle.pfs_board_store.specs.RootActors.{Worked, AllShown, GatherLaw}
use Rattle.pfs_board_store.specs.RootLaws.{MeetLaw}
use Rattle.pfs_levels.specs.Calls.{Meets, Opening}
use Rattle.pfs_switches.specs.declared.view.View.{View as WordView}
use Rattle.pfs_switches.specs.Knowledge.{meet_of}
use Rattle.pfs_board_store.proofs.KeptCalls.{Within, shown_more}

within_left : {A : Type 0} (xs ys : List A) → Within xs (xs ++ ys)
within_left [] ys P h = absurd h
within_left (x ∷ xs) ys P h = ⊎_elim (λ e. inl e) (λ e. inr (within_left xs ys P e)) h

within_right : {A : Type 0} (xs ys : List A) → Within ys (xs ++ ys)
within_right [] ys P h = h
within_right (x ∷ xs) ys P h = inr (within_right xs ys P h)

all_shown_more : (actors : List Worked) (reads reads' : List Finished) (sights sights' : List Sight) (entered entered' : List Entered) → Within reads reads' → Within sights sights' → Within entered entered'
    → AllShown reads sights entered actors → AllShown reads' sights' entered' actors
all_shown_more [] reads reads' sights sights' entered entered' f g h s = tt
all_shown_more (a ∷ actors) reads reads' sights sights' entered entered' f g h s =
    (shown_more a.start.board reads reads' sights sights' entered entered' f g h a.calls s.0, all_shown_more actors reads reads' sights sights' entered entered' f g h s.1)

pub gathers : GatherLaw
gathers actors v w t g start calls b words tickets m =
    let u = b.view in
    let r = m.made in
    record {
      tied = (u.made, v.made, refl, r.board.tied, g.tied);
      shown = (
        shown_more start.board u.reads (u.reads ++ v.reads) u.sights (u.sights ++ v.sights) u.entered (u.entered ++ v.entered) (within_left u.reads v.reads) (within_left u.sights v.sights) (within_left u.entered v.entered) calls r.board.shown,
        all_shown_more actors v.reads (u.reads ++ v.reads) v.sights (u.sights ++ v.sights) v.entered (u.entered ++ v.entered) (within_right u.reads v.reads) (within_right u.sights v.sights) (within_right u.entered v.entered) g.shown,
      );
      looked = (u.reads, v.reads, refl, u.sights, v.sights, refl, m.looked, g.looked);
      loaded = (words.view.loads, w.loads, refl, r.words.3, g.loaded);
      met = (words.view.meets, w.meets, refl, r.words.5, g.met);
      drawn = (tickets.view.tickets, t.tickets, refl, r.tickets.2, g.drawn);
      done = (record { outside = m.outside; empty = m.empty; rising = r.rising; there = r.there }, g.done);
    }

-- such a meet looks at no row
met_looks : (start : Opening) (pen : WordView) → AreLooked start.board (Meets pen.seen ∷ []) [] []
unfolding AreLooked
met_looks start pen = ([], [], refl, [], [], refl, (refl, refl), (refl, refl))

pub meets : MeetLaw
meets actors v w pen t g start same = record {
  tied = ([], v.made, refl, refl, g.tied);
  shown = ((tt, tt), g.shown);
  looked = ([], v.reads, refl, [], v.sights, refl, met_looks start pen, g.looked);
  loaded = ([], w.loads, refl, refl, g.loaded);
  met = (meet_of w pen ∷ [], w.meets, refl, (sym same, refl, refl), g.met);
  drawn = ([], t.tickets, refl, refl, g.drawn);
  done = (record { outside = refl; empty = λ row some. refl; rising = ((λ at low. omega arith), tt); there = (tt, tt) }, g.done);
}
