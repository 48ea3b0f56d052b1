-- What is written over a store that keeps what is put last stands there, where no row is written twice.
use Rattle.std.proofs.Common.{◌≡◌, refl, ℕ, ◌+◌, ◌<◌, List, [], ◌∷◌, ◌++◌, map, sym, ◌∙◌, ap, subst, append_assoc, ne_eqb, eq-eqb, arith, Some}
use Rattle.std.proofs.lemmas.List.{append-nil}
use Rattle.std.specs.Prelude.{if◌then◌else◌}
use Rattle.pfs_levels.specs.Calls.{Call}
use Rattle.pfs_levels.specs.declared.answers.Word.{Word}
use Rattle.pfs_levels.specs.Flushes.{Ascends}
use Rattle.pfs_levels.specs.Moves.{moves_calls}
use Rattle.pfs_model.specs.Chains.{Each}
use Rattle.pfs_admin.specs.FoldLaws.{row_of}
use Rattle.pfs_admin.specs.Works.{Sign, Releases, Tags, Made, Flagging, made_calls, sign_calls, signs_of, signs_calls, flagging_calls}
use Rattle.pfs_check_blank.specs.AllAsked.{HaveWords, WordsLaw}
use Rattle.pfs_check_blank.specs.BlankStores.{ArePut, last_put}
use Rattle.pfs_check_blank.proofs.BlankWorks.{nothing_called, some_start}

-- rows that ascend and end with one: the others are below it, and ascend themselves
rows_below : (low limit : ℕ) (xs : List Sign) (y : Sign) → Ascends low limit (map row_of (xs ++ y ∷ [])) → Each (λ x. row_of x < row_of y) xs
rows_below low limit [] y a = tt
rows_below low limit (x ∷ xs) y a = (first (row_of x + 1) xs (omega arith) a.1.1, rows_below (row_of x + 1) limit xs y a.1.1) where
  first : (next : ℕ) (more : List Sign) → row_of x < next → Ascends next limit (map row_of (more ++ y ∷ [])) → row_of x < row_of y
  first next [] l b = omega (arith, l, b.0)
  first next (z ∷ more) l b = first (row_of z + 1) more (omega (arith, l, b.0)) b.1.1

rows_front : (low limit : ℕ) (xs ys : List Sign) → Ascends low limit (map row_of (xs ++ ys)) → Ascends low limit (map row_of xs)
rows_front low limit [] ys a = tt
rows_front low limit (x ∷ xs) ys a = (a.0, (a.1.0, rows_front (row_of x + 1) limit xs ys a.1.1))

-- what a sign writes was put there last
abbrev IsLast : List Call → Sign → Type 0
IsLast calls (Releases row) = Unit {0}
IsLast calls (Tags row content) = last_put calls row ≡ Some content

-- flags are no contents
over_flags : (words : List Word) (flags : List Flagging) (calls : List Call) (row : ℕ) → last_put (flagging_calls words flags ++ calls) row ≡ last_put calls row
over_flags words [] calls row = refl
over_flags words (f ∷ fs) calls row =
    ap (λ z. last_put z row) (append_assoc (flagging_calls words fs) _ calls)
    ∙ over_flags words fs _ row

-- one sign more, of another row
over_made : (m : Made) (calls : List Call) (row : ℕ) → row < row_of m.sign → last_put (made_calls m ++ calls) row ≡ last_put calls row
over_made m calls row l = at m.sign l where
  at : (s : Sign) → row < row_of s → last_put (sign_calls s m.version m.found ++ calls) row ≡ last_put calls row
  at (Releases other) l = refl
  at (Tags other content) l = ap (λ b. if b then Some content else last_put calls row) (ne_eqb other row (λ q. absurd (omega (arith, q, l))))

own_made : (m : Made) (calls : List Call) → IsLast (made_calls m ++ calls) m.sign
own_made m calls = at m.sign where
  at : (s : Sign) → IsLast (sign_calls s m.version m.found ++ calls) s
  at (Releases row) = tt
  at (Tags row content) = ap (λ b. if b then Some content else last_put calls row) (eq-eqb row row refl)

last_still : (m : Made) (calls : List Call) (s : Sign) → row_of s < row_of m.sign → IsLast calls s → IsLast (made_calls m ++ calls) s
last_still m calls (Releases row) l h = tt
last_still m calls (Tags row content) l h = over_made m calls row l ∙ h

all_still : (m : Made) (calls : List Call) (xs : List Sign) → Each (λ x. row_of x < row_of m.sign) xs → Each (IsLast calls) xs → Each (IsLast (made_calls m ++ calls)) xs
all_still m calls [] l h = tt
all_still m calls (x ∷ xs) l h = (last_still m calls x l.0 h.0, all_still m calls xs l.1 h.1)

each_then : (P : Sign → Type 0) (xs : List Sign) (y : Sign) → Each P xs → P y → Each P (xs ++ y ∷ [])
each_then P [] y a b = (b, tt)
each_then P (x ∷ xs) y a b = (a.0, each_then P xs y a.1 b)

all_last : (made : List Made) (calls : List Call) (low limit : ℕ) → Ascends low limit (map row_of (signs_of made)) → Each (IsLast (signs_calls made ++ calls)) (signs_of made)
all_last [] calls low limit a = tt
all_last (m ∷ ms) calls low limit a =
    let rest : List Call = signs_calls ms ++ calls in
    subst (λ z. Each (IsLast z) (signs_of ms ++ m.sign ∷ [])) (sym (append_assoc (made_calls m) (signs_calls ms) calls))
    (each_then (IsLast (made_calls m ++ rest)) (signs_of ms) m.sign
    (all_still m rest (signs_of ms) (rows_below low limit (signs_of ms) m.sign a) (all_last ms calls low limit (rows_front low limit (signs_of ms) (m.sign ∷ []) a)))
    (own_made m rest))

-- and so it stands there
all_put : (contents : List (List ℕ)) (calls : List Call) (signs : List Sign) → ArePut contents calls → Each (IsLast calls) signs → HaveWords contents signs
all_put contents calls [] put are = tt
all_put contents calls (Releases row ∷ signs) put are = all_put contents calls signs put are.1
all_put contents calls (Tags row content ∷ signs) put are = (put row content are.0, all_put contents calls signs put are.1)

each_over : (words : List Word) (flags : List Flagging) (calls : List Call) (xs : List Sign) → Each (IsLast calls) xs → Each (IsLast (flagging_calls words flags ++ calls)) xs
each_over words flags calls [] are = tt
each_over words flags calls (Releases row ∷ xs) are = (tt, each_over words flags calls xs are.1)
each_over words flags calls (Tags row content ∷ xs) are = (over_flags words flags calls row ∙ are.0, each_over words flags calls xs are.1)

pub words_law : WordsLaw
words_law work words head old new was now w low limit a =
    let calls : List Call = flagging_calls words work.flags ++ (signs_calls w.made ++ moves_calls w.moves) in
    all_put now calls work.signs
    (subst (ArePut now) (append-nil calls) (w.did.goes some_start [] nothing_called).are_put)
    (each_over words work.flags (signs_calls w.made ++ moves_calls w.moves) work.signs
    (subst (λ z. Each (IsLast (signs_calls w.made ++ moves_calls w.moves)) z) w.signs_are
    (all_last w.made (moves_calls w.moves) low limit (subst (λ z. Ascends low limit (map row_of z)) (sym w.signs_are) a))))
