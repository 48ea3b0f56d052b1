-- What an entry does, whatever its version.
use Rattle.std.specs.Prelude.{List, [], ◌∷◌}
use Rattle.pfs_model.specs.ActionAsks.{Did, Flagged, Freed, Gave, Tagged, Took}
use Rattle.pfs_check_moves.specs.declared.comparing.Deed.{Deed}
use Rattle.pfs_check_moves.specs.declared.comparing.Deed.TheVariants as deeds

abbrev pub done_by : Deed → List Did
done_by (deeds.Take row) = Took row ∷ []
done_by (deeds.Give row from) = Gave row from ∷ []
done_by (deeds.Free row) = Freed row ∷ []
done_by (deeds.Tag row) = Tagged row ∷ []
done_by (deeds.Set word flags) = Flagged word flags ∷ []
done_by deeds.Nothing = []
