-- Items that are read one after another from the front of a text.
use Rattle.std.proofs.Common.{ℕ, ◌≡◌, ◌≢◌, ◌<◌, List, [], ◌∷◌, ◌++◌, length, append_assoc, append-nil, length-append, sym, ap, ◌∙◌, refl, arith}
use Rattle.std.specs.List.{All, flat_map}
use Rattle.std.proofs.lemmas.List.Elements.{All-head, All-tail}

-- of all items these were read, and the texts of those that are left stand in front
pub record ItemsRead {Item : Type 0} (text : Item → List ℕ) (Fit : Item → Type 0) (all got : List Item) (rest : List ℕ) : Type 0 where
  pub left : List Item
  pub parts : all ≡ got ++ left
  pub fit : All Fit left
  pub rest_is : rest ≡ flat_map text left

pub items_none : {Item : Type 0} (text : Item → List ℕ) (Fit : Item → Type 0) (all : List Item) (rest : List ℕ) → All Fit all → rest ≡ flat_map text all → ItemsRead text Fit all [] rest
items_none text Fit all rest fit is = record { left = all; parts = refl; fit = fit; rest_is = is }

more_by : {Item : Type 0} (text : Item → List ℕ) (Fit : Item → Type 0) (all got left : List Item) (rest behind : List ℕ) (item : Item) → all ≡ got ++ left → All Fit left → rest ≡ flat_map text left → rest ≢ []
    → ((x : Item) (more : List Item) → Fit x → rest ≡ text x ++ flat_map text more → (item ≡ x) × (behind ≡ flat_map text more)) → ItemsRead text Fit all (got ++ item ∷ []) behind
more_by text Fit all got [] rest behind item parts fit is some told = absurd (some is)
more_by {Item} text Fit all got (x ∷ left) rest behind item parts fit is some told =
    let known = told x left (All-head Fit x left fit) is in
    record {
      left = left;
      parts = parts ∙ (ap (λ (y : Item). got ++ y ∷ left) (sym known.0) ∙ sym (append_assoc got (item ∷ []) left));
      fit = All-tail Fit x left fit;
      rest_is = known.1;
    }

-- one item more
pub items_more : {Item : Type 0} (text : Item → List ℕ) (Fit : Item → Type 0) (all got : List Item) (rest behind : List ℕ) (item : Item) → ItemsRead text Fit all got rest → rest ≢ []
    → ((x : Item) (more : List Item) → Fit x → rest ≡ text x ++ flat_map text more → (item ≡ x) × (behind ≡ flat_map text more)) → ItemsRead text Fit all (got ++ item ∷ []) behind
items_more text Fit all got rest behind item r some told = more_by text Fit all got r.left rest behind item r.parts r.fit r.rest_is some told

refused_by : {Item : Type 0} (text : Item → List ℕ) (Fit : Item → Type 0) (left : List Item) (rest : List ℕ) → All Fit left → rest ≡ flat_map text left → rest ≢ [] → ((x : Item) (more : List Item) → Fit x → rest ≡ text x ++ flat_map text more → ⊥) → ⊥
refused_by text Fit [] rest fit is some told = some is
refused_by text Fit (x ∷ left) rest fit is some told = told x left (All-head Fit x left fit) is

-- an item that is left is not refused
pub items_refused : {Item : Type 0} (text : Item → List ℕ) (Fit : Item → Type 0) (all got : List Item) (rest : List ℕ) → ItemsRead text Fit all got rest → rest ≢ []
    → ((x : Item) (more : List Item) → Fit x → rest ≡ text x ++ flat_map text more → ⊥) → ⊥
items_refused text Fit all got rest r some told = refused_by text Fit r.left rest r.fit r.rest_is some told

end_by : {Item : Type 0} (text : Item → List ℕ) → ((x : Item) (more : List ℕ) → text x ++ more ≢ []) → (all got left : List Item) → all ≡ got ++ left → [] ≡ flat_map text left → got ≡ all
end_by text some all got [] parts is = sym (append-nil got) ∙ sym parts
end_by text some all got (x ∷ left) parts is = absurd (some x (flat_map text left) (sym is))

-- all were read where nothing is left
pub items_end : {Item : Type 0} (text : Item → List ℕ) (Fit : Item → Type 0) (all got : List Item) (rest : List ℕ) → ((x : Item) (more : List ℕ) → text x ++ more ≢ []) → ItemsRead text Fit all got rest → rest ≡ [] → got ≡ all
items_end text Fit all got rest some r none = end_by text some all got r.left r.parts (sym none ∙ r.rest_is)

many_by : {Item : Type 0} (text : Item → List ℕ) (all got left : List Item) (rest : List ℕ) → all ≡ got ++ left → rest ≡ flat_map text left → rest ≢ [] → length got < length all
many_by text all got [] rest parts is some = absurd (some is)
many_by text all got (x ∷ left) rest parts is some =
    let size = length-append got (x ∷ left) in
    let same = ap length parts in
    omega (arith, size, same)

-- where something is left, not all were read
pub items_left : {Item : Type 0} (text : Item → List ℕ) (Fit : Item → Type 0) (all got : List Item) (rest : List ℕ) → ItemsRead text Fit all got rest → rest ≢ [] → length got < length all
items_left text Fit all got rest r some = many_by text all got r.left rest r.parts r.rest_is some
