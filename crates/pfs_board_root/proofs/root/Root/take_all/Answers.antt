use Rattle.std.proofs.Common.{◌∷◌, [], ◌++◌, ◌-◌, ◌∙◌, ap, arith, length, length-append, refl, sum_by, take}
use Rattle.pfs_board_session.specs.contracts.seated.SeatedReadable.TheImpl.{ghosts}
use Rattle.pfs_board_root.proofs.SeatJoins.{all_left, given_back, last_left, none_left, one_left}
use Rattle.pfs_board_root.proofs.root.Root.take_all.Goals as goal

pub loop-actor-init : goal.loop-actor-init
loop-actor-init g c = (λ ws k. all_left g.N.Named.setting g.N.Named.change (λ a. ((ghosts g.row.R g.row.G g.row.N g.R.Wait g.R.Wait-dict g.G.Gate g.G.Gate-dict g.N.Shared g.N.Shared-dict g.N.Named g.N.Named-dict).seen a).reached) ws _ _ k, refl, refl)

pub take_in-requires-clause-known : goal.take_in-requires-clause-known
take_in-requires-clause-known g c κs within =
    let some = c.requires.known in
    last_left g.N.Named.setting g.N.Named.change (λ a. ((ghosts g.row.R g.row.G g.row.N g.R.Wait g.R.Wait-dict g.G.Gate g.G.Gate-dict g.N.Shared g.N.Shared-dict g.N.Named g.N.Named-dict).seen a).reached) some.0 _ _ _ _ _ c.in-Some.ensures.items (c.loop-actor.invariant.0 some.0 some.1)

pub loop-actor-smaller : goal.loop-actor-smaller
loop-actor-smaller g c = omega (arith, ap length c.in-Some.ensures.items, length-append c.pop.new.self.items (c.in-Some.actor ∷ []))

pub loop-actor-preserved : goal.loop-actor-preserved
loop-actor-preserved g c =
    let i = c.loop-actor.invariant in
    let t = c.take_in.ensures in
    let is = c.in-Some.ensures.items in (
      (λ ws k. one_left g.N.Named.setting g.N.Named.change (λ a. ((ghosts g.row.R g.row.G g.row.N g.R.Wait g.R.Wait-dict g.G.Gate g.G.Gate-dict g.N.Shared g.N.Shared-dict g.N.Named g.N.Named-dict).seen a).reached) ws _ _ _ _ _ _ is t.taken (i.0 ws k)),
      given_back (λ a. ((ghosts g.row.R g.row.G g.row.N g.R.Wait g.R.Wait-dict g.G.Gate g.G.Gate-dict g.N.Shared g.N.Shared-dict g.N.Named g.N.Named-dict).seen a).left) _ _ _ _ _ _ is t.back i.1,
      given_back (λ a. ((ghosts g.row.R g.row.G g.row.N g.R.Wait g.R.Wait-dict g.G.Gate g.G.Gate-dict g.N.Shared g.N.Shared-dict g.N.Named g.N.Named-dict).seen a).draws) _ _ _ _ _ _ is t.draws_back i.2,
    )

pub returns : goal.returns
returns g c =
    let e = c.in_default.ensures in
    let i = c.loop-actor.invariant in
    let none = e.items ∙ ap (λ z. z ++ []) (e.rest ∙ ap (λ n. take (n - 1) c.loop-actor.actors.items) e.cases.0) in
    record {
      taken = λ ws k. none_left g.N.Named.setting g.N.Named.change (λ a. ((ghosts g.row.R g.row.G g.row.N g.R.Wait g.R.Wait-dict g.G.Gate g.G.Gate-dict g.N.Shared g.N.Shared-dict g.N.Named g.N.Named-dict).seen a).reached) ws _ _ _ none (i.0 ws k);
      back = omega (arith, i.1, ap (sum_by (λ a. ((ghosts g.row.R g.row.G g.row.N g.R.Wait g.R.Wait-dict g.G.Gate g.G.Gate-dict g.N.Shared g.N.Shared-dict g.N.Named g.N.Named-dict).seen a).left)) none);
      draws_back = omega (arith, i.2, ap (sum_by (λ a. ((ghosts g.row.R g.row.G g.row.N g.R.Wait g.R.Wait-dict g.G.Gate g.G.Gate-dict g.N.Shared g.N.Shared-dict g.N.Named g.N.Named-dict).seen a).draws)) none);
    }
