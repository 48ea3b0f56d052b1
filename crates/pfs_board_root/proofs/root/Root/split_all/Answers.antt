use Rattle.std.proofs.Common.{◌≡◌, ◌∷◌, [], ◌∙◌, ap, arith, length, length-append, refl}
use Rattle.std.proofs.lemmas.List.Elements.{All-nil}
use Rattle.pfs_admin.specs.OpeningState.{opening_flags}
use Rattle.pfs_board_session.specs.contracts.seated.SeatedReadable.TheImpl.{ghosts}
use Rattle.pfs_matching.specs.ObjectRules.{opening_objects}
use Rattle.pfs_board_root.proofs.SeatSplits.{all_and, next_split, share, share_of, split_more, split_none}
use Rattle.pfs_board_root.proofs.root.Root.split_all.Goals as goal

pub loop-init : goal.loop-init
loop-init g c = rw c.requires.room.0 (split_none c.args.publications c.args.draws c.args.self.now, refl, refl, tt, All-nil (λ a. (((ghosts g.row.R g.row.G g.row.N g.R.Wait g.R.Wait-dict g.G.Gate g.G.Gate-dict g.N.Shared g.N.Shared-dict g.N.Named g.N.Named-dict).seen a).left ≡ c.args.publications) × (((ghosts g.row.R g.row.G g.row.N g.R.Wait g.R.Wait-dict g.G.Gate g.G.Gate-dict g.N.Shared g.N.Shared-dict g.N.Named g.N.Named-dict).seen a).draws ≡ c.args.draws)))

pub split-actor-requires-clause-some : goal.split-actor-requires-clause-some
split-actor-requires-clause-some g c κs within = (c.requires.some.0, share c.loop.counter c.args.count c.args.publications _ _ c.loop-test.true c.loop.invariant.0.allowance c.requires.some.1)

pub split-actor-requires-clause-draws : goal.split-actor-requires-clause-draws
split-actor-requires-clause-draws g c κs within = share_of c.loop.counter c.args.count c.args.draws _ _ c.loop-test.true c.loop.invariant.0.left c.requires.draws

pub loop-preserved : goal.loop-preserved
loop-preserved g c =
    let i = c.loop.invariant in
    let s = c.split-actor.ensures in
    let items = c.push_reserved.ensures.items in (
      split_more c.loop.counter c.args.publications c.args.draws c.args.self.now c.loop.self c.split-actor.new.self i.0 s.root,
      omega (arith, ap length items, length-append c.loop.actors.items (c.split-actor.result ∷ []), i.1),
      c.push_reserved.ensures.capacity ∙ i.2,
      rw items (next_split (λ a. ((ghosts g.row.R g.row.G g.row.N g.R.Wait g.R.Wait-dict g.G.Gate g.G.Gate-dict g.N.Shared g.N.Shared-dict g.N.Named g.N.Named-dict).seen a).reached) (opening_flags g.N.Named.setting opening_objects) c.args.self.now c.loop.self c.loop.counter c.args.publications c.args.draws c.loop.actors.items c.split-actor.result i.0 i.1 s.began i.3),
      rw items (all_and (λ a. (((ghosts g.row.R g.row.G g.row.N g.R.Wait g.R.Wait-dict g.G.Gate g.G.Gate-dict g.N.Shared g.N.Shared-dict g.N.Named g.N.Named-dict).seen a).left ≡ c.args.publications) × (((ghosts g.row.R g.row.G g.row.N g.R.Wait g.R.Wait-dict g.G.Gate g.G.Gate-dict g.N.Shared g.N.Shared-dict g.N.Named g.N.Named-dict).seen a).draws ≡ c.args.draws)) c.loop.actors.items c.split-actor.result i.4 (s.left, s.draws)),
    )
