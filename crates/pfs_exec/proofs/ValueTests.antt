-- The tests of values say what the conditions mean.
use Rattle.std.proofs.Common.{◌≡◌, ◌↔◌, ℕ, List, IsTrue, Bool, true, false, refl}
use Rattle.std.specs.declared.cmp.Ordering.{Ordering}
use Rattle.std.specs.declared.cmp.Ordering.TheVariants.{Less as Lower, Equal as Same, Greater as Higher}
use Rattle.std.specs.Cmp.Lexicographic.{slice_cmp}
use Rattle.std.specs.Ordering.{nat_cmp}
use Rattle.pfs_text.specs.Likes.{is_like}
use Rattle.pfs_text.specs.Conditions.{Agrees, Meets}
use Rattle.pfs_text.specs.Patterns.{IsLike}
use Rattle.pfs_text.specs.declared.conditions.Comparison.{Comparison}
use Rattle.pfs_text.specs.declared.conditions.Comparison.TheVariants.{Equal, Unequal, Less, AtMost, Greater, AtLeast}
use Rattle.pfs_text.specs.declared.conditions.Literal.TheVariants.{Number as NumberLiteral, Text as TextLiteral}
use Rattle.pfs_text.specs.declared.conditions.Shown.{Shown}
use Rattle.pfs_text.specs.declared.conditions.Shown.TheVariants.{Null as ShownNull, Number as ShownNumber, Text as ShownText}
use Rattle.pfs_text.specs.declared.conditions.TestKind.{TestKind}
use Rattle.pfs_text.specs.declared.conditions.TestKind.TheVariants.{Compare, Like, IsNull, IsNotNull}
use Rattle.pfs_exec.specs.Selections.{agrees, meets_value, value_of}

false_not_true : {P : Type 0} → false ≡ true → P
false_not_true e = absurd (cc)

agrees_is : (comparison : Comparison) (order : Ordering) → IsTrue (agrees comparison order) ↔ Agrees comparison order
agrees_is Equal Lower = ((λ e. false_not_true e), (λ h. absurd (cc)))
agrees_is Equal Same = ((λ e. refl), (λ h. refl))
agrees_is Equal Higher = ((λ e. false_not_true e), (λ h. absurd (cc)))
agrees_is Unequal Lower = ((λ e h. cc), (λ h. refl))
agrees_is Unequal Same = ((λ e. false_not_true e), (λ h. absurd (h refl)))
agrees_is Unequal Higher = ((λ e h. cc), (λ h. refl))
agrees_is Less Lower = ((λ e. refl), (λ h. refl))
agrees_is Less Same = ((λ e. false_not_true e), (λ h. absurd (cc)))
agrees_is Less Higher = ((λ e. false_not_true e), (λ h. absurd (cc)))
agrees_is AtMost Lower = ((λ e h. cc), (λ h. refl))
agrees_is AtMost Same = ((λ e h. cc), (λ h. refl))
agrees_is AtMost Higher = ((λ e. false_not_true e), (λ h. absurd (h refl)))
agrees_is Greater Lower = ((λ e. false_not_true e), (λ h. absurd (cc)))
agrees_is Greater Same = ((λ e. false_not_true e), (λ h. absurd (cc)))
agrees_is Greater Higher = ((λ e. refl), (λ h. refl))
agrees_is AtLeast Lower = ((λ e. false_not_true e), (λ h. absurd (h refl)))
agrees_is AtLeast Same = ((λ e h. cc), (λ h. refl))
agrees_is AtLeast Higher = ((λ e h. cc), (λ h. refl))

pub decides : ((pattern text : List ℕ) → IsTrue (is_like pattern text) ↔ IsLike pattern text) → (kind : TestKind) (shown : Shown) → IsTrue (meets_value kind (value_of shown)) ↔ Meets kind shown
decides like IsNull ShownNull = ((λ e. tt), (λ h. refl))
decides like IsNull (ShownNumber value) = ((λ e. false_not_true e), (λ h. absurd h))
decides like IsNull (ShownText value) = ((λ e. false_not_true e), (λ h. absurd h))
decides like IsNotNull ShownNull = ((λ e. false_not_true e), (λ h. absurd h))
decides like IsNotNull (ShownNumber value) = ((λ e. tt), (λ h. refl))
decides like IsNotNull (ShownText value) = ((λ e. tt), (λ h. refl))
decides like (Compare comparison (NumberLiteral literal)) ShownNull = ((λ e. false_not_true e), (λ h. absurd h))
decides like (Compare comparison (NumberLiteral literal)) (ShownNumber value) = agrees_is comparison (nat_cmp value literal)
decides like (Compare comparison (NumberLiteral literal)) (ShownText value) = ((λ e. false_not_true e), (λ h. absurd h))
decides like (Compare comparison (TextLiteral literal)) ShownNull = ((λ e. false_not_true e), (λ h. absurd h))
decides like (Compare comparison (TextLiteral literal)) (ShownNumber value) = ((λ e. false_not_true e), (λ h. absurd h))
decides like (Compare comparison (TextLiteral literal)) (ShownText value) = agrees_is comparison (slice_cmp nat_cmp value.now literal)
decides like (Like pattern) ShownNull = ((λ e. false_not_true e), (λ h. absurd h))
decides like (Like pattern) (ShownNumber value) = ((λ e. false_not_true e), (λ h. absurd h))
decides like (Like pattern) (ShownText value) = like pattern value.now
