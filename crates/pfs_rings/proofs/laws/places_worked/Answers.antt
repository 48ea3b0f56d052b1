use Rattle.std.proofs.Common.{refl}
use Rattle.pfs_rings.proofs.laws.places_worked.Goals as goal

pub returns : goal.returns
returns c = record {
  wait = refl;
  stage = refl;
  statement = refl;
  transaction = refl;
  oldest = refl;
  newest = refl;
  next = refl;
  eleventh = refl;
  thousandth = refl;
  long = refl;
  first_ticket = refl;
  no_ticket = refl;
  ring = refl;
  long_put = refl;
  busy = refl;
  late = refl;
}
