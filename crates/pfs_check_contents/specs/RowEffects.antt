-- What changes make of the content before them.
use Rattle.std.specs.Prelude.{ℕ, ◌-◌, List, [], ◌∷◌, Option, Some, None}
use Rattle.pfs_stat.specs.declared.Stat.{Stat}
use Rattle.pfs_stat.specs.Stat.{merge_of, stat_of_words, words_of, zero_of}
use Rattle.pfs_check_contents.specs.declared.changes.Effect.{Effect}
use Rattle.pfs_check_contents.specs.declared.changes.Effect.TheVariants as effects

-- two amounts in one, and all of a list; None of no event
abbrev pub both_in : Option Stat → Option Stat → Option Stat
both_in None other = other
both_in (Some amount) None = Some amount
both_in (Some amount) (Some more) = Some (merge_of amount more)

abbrev pub in_one : List Stat → Option Stat
in_one [] = None
in_one (amount ∷ amounts) = both_in (Some amount) (in_one amounts)

-- the numbers of a row with an amount more
abbrev pub with_amount : Stat → Option Stat → Stat
with_amount here None = here
with_amount here (Some amount) = merge_of here amount

-- by the content before the change, and by those of all rows
abbrev pub effect_on : Effect → (ℕ → ℕ → List ℕ) → List ℕ → List ℕ
effect_on (effects.Add amount) content here = words_of (with_amount (stat_of_words here) amount)
effect_on effects.Take content here = words_of zero_of
effect_on (effects.Give from version) content here =
    words_of (merge_of (stat_of_words here) (stat_of_words (content from (version - 1))))
effect_on (effects.Put words) content here = words
