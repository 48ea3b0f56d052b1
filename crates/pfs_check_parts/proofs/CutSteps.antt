-- Steps of the loops that cut.
use Rattle.std.proofs.Common.{◌≡◌, refl, ℕ, ◌+◌, ◌<◌, ◌≤◌, Bool, true, false, not, List, [], ◌∷◌, length, get_or, drop, sym, ◌∙◌, ap}
use Rattle.std.specs.Prelude.{Ok, Err, Some, if◌then◌else◌, slice_get}
use Rattle.std.proofs.lemmas.List.{drop_more, drop_all, drop-drop}
use Rattle.std.proofs.lemmas.Option.{get_or_from_slice_get}
use Rattle.pfs_model.specs.EntryAsks.{fits}
use Rattle.pfs_event.specs.declared.entry.Entry.{Entry}
use Rattle.pfs_model.specs.declared.shapes.Ask.{Ask}
use Rattle.pfs_model.specs.declared.shapes.Item.{Item}
use Rattle.pfs_model.specs.declared.shapes.Often.TheVariants.{One, Maybe}
use Rattle.pfs_check_parts.specs.declared.cuts.Stop.{Stop}
use Rattle.pfs_model.specs.Cuts.{behind, step, then_cut, cut}
use Rattle.pfs_check_parts.specs.Stops.{fits_first, stopped}

pub next : (es : List Entry) (at : ℕ) → drop (at + 1) es ≡ drop 1 (drop at es)
next es at = sym (drop-drop 1 at es)

-- the first entry from a place on
pub fits_there : (ask : Ask) (es : List Entry) (at : ℕ) (e : Entry) → slice_get es at ≡ Some e → at < length es → fits_first ask (drop at es) ≡ fits ask e
fits_there ask es at e s h = ap (fits_first ask) (drop_more es at e h) ∙ ap (fits ask) (get_or_from_slice_get es at e e s)

pub behind_yes : (ask : Ask) (rest : List Entry) → fits_first ask rest ≡ true → behind ask (drop 1 rest) ≡ behind ask rest
unfolding behind
behind_yes ask [] f = absurd (cc)
behind_yes ask (e ∷ es) f = rw f refl

pub behind_no : (ask : Ask) (rest : List Entry) → fits_first ask rest ≡ false → behind ask rest ≡ rest
unfolding behind
behind_no ask [] f = refl
behind_no ask (e ∷ es) f = rw f refl

-- one step of a shape, by whether the first entry fits
pub one_yes : (ask : Ask) (rest : List Entry) → fits_first ask rest ≡ true → step One ask rest ≡ Ok (drop 1 rest)
one_yes ask [] f = absurd (cc)
one_yes ask (e ∷ es) f = rw f refl

pub maybe_yes : (ask : Ask) (rest : List Entry) → fits_first ask rest ≡ true → step Maybe ask rest ≡ Ok (drop 1 rest)
maybe_yes ask [] f = absurd (cc)
maybe_yes ask (e ∷ es) f = rw f refl

pub one_no : (ask : Ask) (rest : List Entry) → fits_first ask rest ≡ false → step One ask rest ≡ Err rest
one_no ask [] f = refl
one_no ask (e ∷ es) f = rw f refl

pub maybe_no : (ask : Ask) (rest : List Entry) → fits_first ask rest ≡ false → step Maybe ask rest ≡ Ok rest
maybe_no ask [] f = refl
maybe_no ask (e ∷ es) f = rw f refl

-- an item of a shape
pub cut_item : (items : List Item) (at : ℕ) (d : Item) (es : List Entry) → at < length items → cut (drop at items) es ≡ then_cut (step (get_or items at d).often (get_or items at d).ask es) (cut (drop (at + 1) items))
unfolding cut
cut_item items at d es h = rw (drop_more items at d h) refl

pub cut_end : (items : List Item) (at : ℕ) (es : List Entry) → length items ≤ at → cut (drop at items) es ≡ Ok es
unfolding cut
cut_end items at es h = rw (drop_all at items h) refl

-- the step that a loop over the items takes
pub cut_stops : (items : List Item) (at : ℕ) (d : Item) (es rest : List Entry) → at < length items → step (get_or items at d).often (get_or items at d).ask es ≡ Err rest → cut (drop at items) es ≡ Err rest
cut_stops items at d es rest h s = cut_item items at d es h ∙ ap (λ z. then_cut z (cut (drop (at + 1) items))) s

pub cut_goes : (items : List Item) (at : ℕ) (d : Item) (es rest : List Entry) → at < length items → step (get_or items at d).often (get_or items at d).ask es ≡ Ok rest → cut (drop at items) es ≡ cut (drop (at + 1) items) rest
cut_goes items at d es rest h s = cut_item items at d es h ∙ ap (λ z. then_cut z (cut (drop (at + 1) items))) s

pub stop_err : (stop : Stop) (es : List Entry) → not stop.whole ≡ true → stopped stop es ≡ Err (drop stop.at es)
stop_err stop es h = at stop.whole h where
  at : (b : Bool) → not b ≡ true → (if b then Ok (drop stop.at es) else Err (drop stop.at es)) ≡ Err (drop stop.at es)
  at true h = absurd (cc)
  at false h = refl

pub stop_ok : (stop : Stop) (es : List Entry) → not stop.whole ≡ false → stopped stop es ≡ Ok (drop stop.at es)
stop_ok stop es h = at stop.whole h where
  at : (b : Bool) → not b ≡ false → (if b then Ok (drop stop.at es) else Err (drop stop.at es)) ≡ Ok (drop stop.at es)
  at true h = refl
  at false h = absurd (cc)
