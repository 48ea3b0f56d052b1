-- Worked examples of the definitions, by computation.
use Rattle.std.proofs.Common.{◌≡◌, [], ◌∷◌, codes, refl, arith}
use Rattle.std.specs.declared.cmp.Ordering.TheVariants.{Less as Lower}
use Rattle.pfs_text.specs.declared.conditions.Comparison.TheVariants.{Equal, AtMost}
use Rattle.pfs_text.specs.declared.conditions.Literal.TheVariants.{Number as NumberLiteral, Text as TextLiteral}
use Rattle.pfs_text.specs.declared.conditions.Shown.TheVariants.{Null, Number}
use Rattle.pfs_text.specs.declared.conditions.TestKind.TheVariants.{Compare, IsNotNull}
use Rattle.pfs_text.specs.Conditions.{Agrees, Meets}
use Rattle.pfs_text.specs.Patterns.{IsLike}
use Rattle.pfs_text.specs.QuotedTexts.{IsQuotedFront, quoted}

-- `_` is one byte
one_byte : IsLike (codes "a_c") (codes "abc")
one_byte = (refl, (refl, tt))

not_two_bytes : ¬ IsLike (codes "a_") (codes "abc")
not_two_bytes h = h.1

-- `%` is any bytes
any_bytes : IsLike (codes "%v%") (codes "David")
any_bytes = (2, (refl, (2, tt)))

-- `\_` is the byte `_`: the pattern is a, `\`, `_`
escaped : IsLike (97 ∷ 92 ∷ 95 ∷ []) (codes "a_")
escaped = (refl, (refl, tt))

not_escaped : ¬ IsLike (97 ∷ 92 ∷ 95 ∷ []) (codes "ab")
not_escaped h = let e : 98 ≡ 95 = h.1.0 in omega arith

-- a last `\` is itself
last_escape : IsLike (97 ∷ 92 ∷ []) (97 ∷ 92 ∷ [])
last_escape = (refl, (refl, tt))

-- a quote in a text is doubled
doubled_quote : quoted (codes "a'b") ≡ codes "'a''b'"
doubled_quote = refl

-- a quoted text ends where no quote follows
quoted_front : IsQuotedFront (codes "'a' b") 3
quoted_front = (codes "a", codes " b", refl, refl, (λ e. omega arith))

-- numbers and texts never compare
unlike_types : ¬ Meets (Compare Equal (TextLiteral (codes "1"))) (Number 1)
unlike_types h = h

null_compares : ¬ Meets (Compare AtMost (NumberLiteral 1)) Null
null_compares h = h

null_is_null : ¬ Meets IsNotNull Null
null_is_null h = h

less_is_at_most : Agrees AtMost Lower
less_is_at_most = λ e. cc
