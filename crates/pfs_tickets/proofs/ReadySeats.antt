-- What holds of a seat between calls.
use Rattle.std.proofs.Common.{◌≡◌, subst, List, [], ◌∷◌, sym, ap, ◌∙◌}
use Rattle.atomic_table.specs.Seated.{TableId}
use Rattle.pfs_tickets.specs.declared.view.View.{View}
use Rattle.pfs_tickets.specs.SeatViews.{Known, known, first_view, IsReady}

-- the view of a seat that a badge became
pub view_of_seat : (z : TableId) (views views' : List View) (v : View) (k : Known) → views' ≡ v ∷ [] → views' ≡ views → known z (first_view views) ≡ k → v ≡ k.view
view_of_seat z views views' v k e f g = sym (ap first_view e) ∙ (ap first_view f ∙ ap (λ (x : Known). x.view) g)

pub ready_view : (views views' : List View) (v : View) → views' ≡ v ∷ [] → views' ≡ views → IsReady views → IsReady (v ∷ [])
ready_view views views' v e f r = subst IsReady (sym f ∙ e) r
