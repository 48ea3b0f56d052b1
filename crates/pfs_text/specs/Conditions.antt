-- When a value meets a condition.
use Rattle.std.specs.Prelude.{◌≡◌, ◌≢◌}
use Rattle.std.specs.declared.cmp.Ordering.{Ordering}
use Rattle.std.specs.declared.cmp.Ordering.TheVariants.{Less as Lower, Equal as Same, Greater as Higher}
use Rattle.std.specs.Cmp.Lexicographic.{slice_cmp}
use Rattle.std.specs.Ordering.{nat_cmp}
use Rattle.pfs_text.specs.Patterns.{IsLike}
use Rattle.pfs_text.specs.declared.conditions.Comparison.{Comparison}
use Rattle.pfs_text.specs.declared.conditions.Comparison.TheVariants.{Equal, Unequal, Less, AtMost, Greater, AtLeast}
use Rattle.pfs_text.specs.declared.conditions.Literal.TheVariants.{Number as NumberLiteral, Text as TextLiteral}
use Rattle.pfs_text.specs.declared.conditions.Shown.{Shown}
use Rattle.pfs_text.specs.declared.conditions.Shown.TheVariants.{Null, Number, Text}
use Rattle.pfs_text.specs.declared.conditions.TestKind.{TestKind}
use Rattle.pfs_text.specs.declared.conditions.TestKind.TheVariants.{Compare, Like, IsNull, IsNotNull}

-- a value that stands in this order to the literal meets the comparison
abbrev pub Agrees : Comparison → Ordering → Type 0
Agrees Equal order = order ≡ Same
Agrees Unequal order = order ≢ Same
Agrees Less order = order ≡ Lower
Agrees AtMost order = order ≢ Higher
Agrees Greater order = order ≡ Higher
Agrees AtLeast order = order ≢ Lower

-- a comparison and a LIKE are met only by a value of the literal's type, and texts compare by bytes
abbrev pub Meets : TestKind → Shown → Type 0
Meets IsNull Null = Unit {0}
Meets IsNull (Number value) = ⊥
Meets IsNull (Text value) = ⊥
Meets IsNotNull Null = ⊥
Meets IsNotNull (Number value) = Unit {0}
Meets IsNotNull (Text value) = Unit {0}
Meets (Compare comparison (NumberLiteral literal)) (Number value) = Agrees comparison (nat_cmp value literal)
Meets (Compare comparison (TextLiteral literal)) (Text value) = Agrees comparison (slice_cmp nat_cmp value.now literal)
Meets (Compare comparison literal) shown = ⊥
Meets (Like pattern) (Text value) = IsLike pattern value.now
Meets (Like pattern) shown = ⊥
