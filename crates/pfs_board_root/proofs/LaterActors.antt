-- An actor that was split off behind an end.
use Rattle.std.proofs.Common.{ℕ, ◌<◌, List, [], ◌∷◌, ◌++◌, length, slice_index, ap, sym, ◌∙◌, subst, arith}
use Rattle.pfs_board.specs.declared.view.View.{View}
use Rattle.pfs_board_session.specs.SeatedViews.{MeetsInside}
use Rattle.pfs_levels.specs.Calls.{Call, Adds, Rings, Reads, Loads, Draws, Takes, Puts, Frees, Sets, Enters, Leaves, Meets, Opening, action_in}
use Rattle.pfs_switches.specs.declared.view.View.{View as WordView}
use Rattle.pfs_board_root.specs.Settlements.{BeganLaw}

met_inside : (more earlier : List Call) (versions : List ℕ) → MeetsInside (more ++ Meets versions ∷ earlier) → 0 < action_in earlier
met_inside [] earlier versions m = m.0
met_inside (Adds row amount answer ∷ more) earlier versions m = met_inside more earlier versions m
met_inside (Rings row content answer ∷ more) earlier versions m = met_inside more earlier versions m
met_inside (Reads row seen ∷ more) earlier versions m = met_inside more earlier versions m
met_inside (Loads at to flags ∷ more) earlier versions m = met_inside more earlier versions m
met_inside (Draws kind ticket ∷ more) earlier versions m = met_inside more earlier versions m
met_inside (Meets other ∷ more) earlier versions m = met_inside more earlier versions m.1
met_inside (Takes row k found ∷ more) earlier versions m = met_inside more earlier versions m
met_inside (Puts row content k ∷ more) earlier versions m = met_inside more earlier versions m
met_inside (Frees row k ∷ more) earlier versions m = met_inside more earlier versions m
met_inside (Sets at to k ∷ more) earlier versions m = met_inside more earlier versions m
met_inside (Enters label labels ∷ more) earlier versions m = met_inside more earlier versions m
met_inside (Leaves ∷ more) earlier versions m = met_inside more earlier versions m

pub begins : BeganLaw
begins setting change flags run actors lost old new s publications draws n seen w is kept = record {
  base = ap (λ (o : Opening). o.board.base) is ∙ ap (λ (v : View). length v.made) (s.seat ∙ sym s.seat_was);
  words = λ at low. omega (arith, ap (λ (o : Opening). slice_index o.words at) is, ap (λ (v : WordView). slice_index v.seen at) s.words);
  inside = λ more earlier versions e. met_inside more earlier versions (subst MeetsInside e kept.inside);
}
