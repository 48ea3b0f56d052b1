-- Worked lists and texts, by computation.
use Rattle.std.proofs.Common.{◌≡◌, [], ◌∷◌, refl}
use Rattle.std.specs.Prelude.{codes}
use Rattle.pfs_digest.specs.declared.pieces.Shape.TheVariants.{Value, Single, Several}
use Rattle.pfs_digest.specs.declared.pieces.Piece.TheVariants.{One, Run, Open, Close, Comma, Semicolon}
use Rattle.pfs_digest.specs.Reduction.{joined_from, joined, bracketed, reduced}
use Rattle.pfs_digest.specs.Keywords.{keyword_of, word_text}

-- `?` , `?` , `?` is one run
pub one_run : joined Value (One Value ∷ Comma ∷ One Value ∷ Comma ∷ One Value ∷ []) ≡ Run Value ∷ []
unfolding joined_from
one_run = refl

-- one `?` is no run, and the `,` behind a run stays
pub no_run : joined Value (One Value ∷ Comma ∷ Open ∷ One Value ∷ []) ≡ One Value ∷ Comma ∷ Open ∷ One Value ∷ []
unfolding joined_from
no_run = refl

-- `(?)` , `(...)` is no run: the two are not the same
pub apart : joined Several (joined Single (One Single ∷ Comma ∷ One Several ∷ [])) ≡ One Single ∷ Comma ∷ One Several ∷ []
unfolding joined_from
apart = refl

-- ( ? , ? ) , ( ? , ? ) ; becomes (...) /* , ... */
pub rows : reduced (Open ∷ One Value ∷ Comma ∷ One Value ∷ Close ∷ Comma ∷ Open ∷ One Value ∷ Comma ∷ One Value ∷ Close ∷ Semicolon ∷ []) ≡ Run Several ∷ []
unfolding joined_from bracketed
rows = refl

-- a keyword in any case, and a word that only begins with one
pub keyword : word_text (codes "Select") ≡ codes "SELECT"
unfolding keyword_of
keyword = refl

pub no_keyword : word_text (codes "selected") ≡ codes "`selected`"
unfolding keyword_of
no_keyword = refl
