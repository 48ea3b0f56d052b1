-- What holds of a seat and of the writer between calls.
use Rattle.std.proofs.Common.{◌≡◌, ℕ, subst, List, [], ◌∷◌, length, get_or, set, sym, refl, ap, ◌∙◌}
use lib.Seq.{set-get_or}
use Rattle.atomic_table.specs.Seated.{TableId}
use Rattle.pfs_switches.specs.declared.view.View.{View}
use Rattle.pfs_switches.specs.Knowledge.{reader, writer, joined, met, gathered, loaded}
use Rattle.pfs_switches.specs.SeatViews.{Known, known, first_view, IsReady, IsWriting}
use Rattle.pfs_switches.proofs.ViewFacts.{length_merged}

-- the view of a seat that a badge became
pub view_of_seat : (z : TableId) (views views' : List View) (v : View) (k : Known) → views' ≡ v ∷ [] → views' ≡ views → known z (first_view views) ≡ k → v ≡ k.view
view_of_seat z views views' v k e f g = sym (ap first_view e) ∙ (ap first_view f ∙ ap (λ (x : Known). x.view) g)

pub ready_view : (z : TableId) (views views' : List View) (v : View) → views' ≡ v ∷ [] → views' ≡ views → IsReady z views → IsReady z (v ∷ [])
ready_view z views views' v e f r = subst (IsReady z) (sym f ∙ e) r

pub writing_view : (z : TableId) (views views' : List View) (v : View) → views' ≡ v ∷ [] → views' ≡ views → IsWriting z views → IsWriting z (v ∷ [])
writing_view z views views' v e f r = subst (IsWriting z) (sym f ∙ e) r

pub ready_joined : (z : TableId) (v w : View) → IsReady z (v ∷ []) → IsReady z (joined v w ∷ [])
ready_joined z v w r = record { one = refl; live = r.live; sits = r.sits; reads = r.reads; bare = r.bare; wide = length_merged v.seen w.seen ∙ r.wide }

-- what the two have after a meeting
pub reader_met : (z : TableId) (v w : View) → IsReady z (v ∷ []) → reader (gathered v w) ≡ met v w
reader_met z v w r = λ i. record (met v w) { writes = sym r.reads i; sets = sym r.bare i }

pub writer_met : (z : TableId) (v w : View) → IsWriting z (w ∷ []) → w.start ≡ v.start → writer (gathered v w) ≡ w
writer_met z v w r same = (λ i. record (writer w) { start = sym same i }) ∙ sym r.own

-- and after a load
pub reader_loaded : (z : TableId) (v w : View) (q k flags : ℕ) → IsReady z (v ∷ []) → reader (loaded (gathered v w) q k flags) ≡ loaded (met v w) q k flags
reader_loaded z v w q k flags r = λ i. loaded (record (met v w) { writes = sym r.reads i; sets = sym r.bare i }) q k flags

pub writer_loaded : (z : TableId) (v w : View) (q k flags : ℕ) → IsWriting z (w ∷ []) → w.start ≡ v.start → k ≡ get_or w.seen q 0 → writer (loaded (gathered v w) q k flags) ≡ w
writer_loaded z v w q k flags r same knew = let e : set w.seen q k ≡ w.seen = ap (set w.seen q) knew ∙ set-get_or w.seen q 0 in (λ i. record (writer w) { start = sym same i; seen = e i }) ∙ sym r.own
