-- Amounts put together, in whatever order.
use Rattle.std.proofs.Common.{ℕ, ◌≡◌, ◌+◌, Bool, List, [], ◌∷◌, Some, map, refl, ap, sym, ◌∙◌}
use Rattle.pfs_model.specs.Contents.{merged}
use Rattle.pfs_model.specs.Contexts.{Context, brought}
use Rattle.pfs_model.specs.declared.lines.Opened.{Opened}
use Rattle.pfs_event.specs.declared.entry.Entry.TheVariants as says
use Rattle.pfs_session.specs.Ends.{with_held}
use Rattle.pfs_stat.specs.Stat.{merge_of, words_of, stat_of_words, MergeIsMonoid}
use Rattle.pfs_stat.specs.declared.Measure.{Measure}
use Rattle.pfs_stat.specs.declared.Stat.{Stat}
use Rattle.pfs_law_session.specs.Amounts.{sum_of, IsAdded}

-- one amount after another merged into a content is their sum merged into it
pub merged_sum : MergeIsMonoid → (here amount : Stat) (amounts : List Stat) → merged here (amount ∷ amounts) ≡ merge_of here (with_held (sum_of amounts) amount)
merged_sum m here amount [] = refl
merged_sum m here amount (b ∷ bs) =
    let x : Stat = with_held (sum_of bs) b in
    merged_sum m (merge_of here amount) b bs ∙ (m.associates here amount x ∙ ap (merge_of here) (m.commutes amount x))

pub merged_some : MergeIsMonoid → (here amount : Stat) (amounts : List Stat) → sum_of amounts ≡ Some amount → merge_of here amount ≡ merged here amounts
merged_some m here amount [] e = absurd (cc)
merged_some m here amount (b ∷ bs) e =
    let same : with_held (sum_of bs) b ≡ amount = cc in
    ap (merge_of here) (sym same) ∙ sym (merged_sum m here b bs)

-- an addition of the sum of what is brought
pub is_added : MergeIsMonoid → (amounts : Opened → Stat) (content : ℕ → ℕ → List ℕ) (context : Context) (row version before : ℕ) (amount : Stat) → version ≡ before + 1
    → content row version ≡ words_of (merge_of (stat_of_words (content row before)) amount) → sum_of (map amounts (brought context row)) ≡ Some amount
    → IsAdded amounts content context (says.Add row version)
is_added m amounts content context row version before amount v c s =
    (before, v, c ∙ ap words_of (merged_some m (stat_of_words (content row before)) amount (map amounts (brought context row)) s))

abbrev pub measure : Bool → ℕ → ℕ → ℕ → ℕ → ℕ → ℕ → ℕ → Measure
measure t a b c d e f g = record { timed = t; wait = a; lock = b; errors = c; warnings = d; affected = e; sent = f; examined = g }

pub same_measure : (t u : Bool) (a h b i c j d k e l f m g n : ℕ) → t ≡ u → a ≡ h → b ≡ i → c ≡ j → d ≡ k → e ≡ l → f ≡ m → g ≡ n
    → measure t a b c d e f g ≡ measure u h i j k l m n
same_measure t u a h b i c j d k e l f m g n p q r s v w x y =
    ap (λ z. measure z a b c d e f g) p ∙ (ap (λ z. measure u z b c d e f g) q ∙ (ap (λ z. measure u h z c d e f g) r
    ∙ (ap (λ z. measure u h i z d e f g) s ∙ (ap (λ z. measure u h i j z e f g) v ∙ (ap (λ z. measure u h i j k z f g) w
    ∙ (ap (λ z. measure u h i j k l z g) x ∙ ap (λ z. measure u h i j k l m z) y))))))
