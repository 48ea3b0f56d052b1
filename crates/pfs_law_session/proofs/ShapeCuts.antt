-- Shapes, item by item.
use Rattle.std.proofs.Common.{◌≡◌, true, false, List, [], ◌∷◌, refl, ap}
use Rattle.std.specs.Prelude.{Ok, Err, if◌then◌else◌}
use Rattle.pfs_event.specs.declared.entry.Entry.{Entry}
use Rattle.pfs_model.specs.declared.shapes.Ask.{Ask}
use Rattle.pfs_model.specs.declared.shapes.Item.{Item}
use Rattle.pfs_model.specs.EntryAsks.{fits}
use Rattle.pfs_model.specs.Cuts.{cut, then_cut}
use Rattle.pfs_model.specs.Shapes.{one, maybe}

-- what is asked for stands there
pub cut_one : (ask : Ask) (items : List Item) (entry : Entry) (entries : List Entry) → fits ask entry ≡ true
    → cut (one ask ∷ items) (entry ∷ entries) ≡ cut items entries
unfolding cut
cut_one ask items entry entries f = ap (λ b. then_cut (if b then Ok entries else Err (entry ∷ entries)) (cut items)) f

-- what is merely allowed is there
pub cut_maybe : (ask : Ask) (items : List Item) (entry : Entry) (entries : List Entry) → fits ask entry ≡ true
    → cut (maybe ask ∷ items) (entry ∷ entries) ≡ cut items entries
unfolding cut
cut_maybe ask items entry entries f = ap (λ b. then_cut (if b then Ok entries else Ok (entry ∷ entries)) (cut items)) f

-- or isn't
pub cut_maybe_end : (ask : Ask) (items : List Item) → cut (maybe ask ∷ items) [] ≡ cut items []
unfolding cut
cut_maybe_end ask items = refl

pub cut_maybe_other : (ask : Ask) (items : List Item) (entry : Entry) (entries : List Entry) → fits ask entry ≡ false
    → cut (maybe ask ∷ items) (entry ∷ entries) ≡ cut items (entry ∷ entries)
unfolding cut
cut_maybe_other ask items entry entries f = ap (λ b. then_cut (if b then Ok entries else Ok (entry ∷ entries)) (cut items)) f

pub cut_nothing : (entries : List Entry) → cut [] entries ≡ Ok entries
unfolding cut
cut_nothing entries = refl
