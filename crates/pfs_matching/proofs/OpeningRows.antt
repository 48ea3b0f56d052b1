-- The opening rows.
use Rattle.std.proofs.Common.{◌≡◌, List, [], ◌∷◌, ◌++◌, ap, ◌∙◌, append_assoc}

-- four rows appended one after another
pub pushed_four : {R : Type 0} (old first second third fourth : List R) (a b c d w x y z : R) → first ≡ old ++ a ∷ [] → second ≡ first ++ b ∷ [] → third ≡ second ++ c ∷ [] → fourth ≡ third ++ d ∷ []
    → a ≡ w → b ≡ x → c ≡ y → d ≡ z → fourth ≡ old ++ (w ∷ x ∷ y ∷ z ∷ [])
pushed_four old first second third fourth a b c d w x y z one two three four is_w is_x is_y is_z =
    let pushes : fourth ≡ ((old ++ a ∷ []) ++ b ∷ []) ++ c ∷ [] ++ d ∷ [] = four ∙ ap (λ rs. rs ++ d ∷ []) (three ∙ ap (λ rs. rs ++ c ∷ []) (two ∙ ap (λ rs. rs ++ b ∷ []) one)) in
    let groups : ((old ++ a ∷ []) ++ b ∷ []) ++ c ∷ [] ++ d ∷ [] ≡ old ++ (a ∷ b ∷ c ∷ d ∷ []) = simp append_assoc in
    pushes ∙ groups ∙ ap (λ rs. old ++ rs) (let same : (a ∷ b ∷ c ∷ d ∷ []) ≡ (w ∷ x ∷ y ∷ z ∷ []) = cc in same)
