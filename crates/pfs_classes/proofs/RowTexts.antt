-- Names that have the texts of rows.
use Rattle.std.proofs.Common.{◌≡◌, ℕ, zero, suc, ◌+◌, ◌<◌, Bool, true, false, cond, not, List, [], ◌∷◌, ◌++◌, length, get_or, take, map, Some, Contains, inl, inr, refl, sym, ap, ◌∙◌, subst, arith}
use Rattle.std.specs.Prelude.{codes, fold, slice_get}
use Rattle.std.specs.List.{list_any}
use Rattle.std.specs.Str.{bytes_eq}
use Rattle.std.proofs.lemmas.Bool.{false≢true}
use Rattle.std.proofs.lemmas.List.{get_or-take, take_more, length-take-le}
use Rattle.std.proofs.lemmas.List.Elements.{Contains-append_left, Contains-push}
use Rattle.std.proofs.lemmas.List.Folds.{Any-from_list_any, list_any_at}
use Rattle.std.proofs.lemmas.List.Sums.{position_or_len_is}
use Rattle.std.proofs.lemmas.Option.{same_Some, slice_get-get_or, slice_get_within, get_or_from_slice_get}
use Rattle.std.proofs.lemmas.Slice.Eq.{bytes_eq-Decides}
use Rattle.pfs_names.specs.InternedTexts.{AreNames, Interns, id_of, interned}
use Rattle.pfs_classes.specs.Builtins.{Row, builtins, with_rows, with_builtins, HasRows, HasBuiltins, row_of}
use Rattle.pfs_classes.specs.declared.builtin.Builtin.{Builtin}
use Rattle.pfs_names.proofs.Ids.{contains_from_any, any_from_contains, interned_known, interned_new}

interned_has : (texts : List (List ℕ)) (text : List ℕ) (b : Bool) → list_any (λ one. bytes_eq one text) texts ≡ b → Contains (interned texts text) text
interned_has texts text true e =
    let has = contains_from_any texts text e in
    subst (λ (all : List (List ℕ)). Contains all text) (sym (interned_known texts text has)) has
interned_has texts text false e =
    subst (λ (all : List (List ℕ)). Contains all text) (sym (interned_new texts text (λ has. false≢true (sym e ∙ any_from_contains texts text has)))) (Contains-push texts text)

interned_keeps : (texts : List (List ℕ)) (text old : List ℕ) (b : Bool) → list_any (λ one. bytes_eq one text) texts ≡ b → Contains texts old → Contains (interned texts text) old
interned_keeps texts text old true e has =
    subst (λ (all : List (List ℕ)). Contains all old) (sym (interned_known texts text (contains_from_any texts text e))) has
interned_keeps texts text old false e has =
    subst (λ (all : List (List ℕ)). Contains all old) (sym (interned_new texts text (λ here. false≢true (sym e ∙ any_from_contains texts text here)))) (Contains-append_left texts (text ∷ []) old has)

-- an interned text is there, and what was there stays
contains_interned : (texts : List (List ℕ)) (text : List ℕ) → Contains (interned texts text) text
contains_interned texts text = interned_has texts text (list_any (λ one. bytes_eq one text) texts) refl

keeps_interned : (texts : List (List ℕ)) (text old : List ℕ) → Contains texts old → Contains (interned texts text) old
keeps_interned texts text old has = interned_keeps texts text old (list_any (λ one. bytes_eq one text) texts) refl has

keeps_fold : (texts more : List (List ℕ)) (old : List ℕ) → Contains texts old → Contains (fold interned texts more) old
keeps_fold texts [] old has = has
keeps_fold texts (text ∷ more) old has = keeps_fold (interned texts text) more old (keeps_interned texts text old has)

has_row : (texts : List (List ℕ)) (rows : List Row) (k : ℕ) (row : Row) → slice_get rows k ≡ Some row → Contains (fold interned texts (map (λ one. one.name) rows)) row.name
has_row texts [] k row at = cc
has_row texts (first ∷ rows) zero row at =
    let e : first ≡ row = same_Some first row at in
    keeps_fold (interned texts first.name) (map (λ one. one.name) rows) row.name (subst (λ (one : Row). Contains (interned texts first.name) one.name) e (contains_interned texts first.name))
has_row texts (first ∷ rows) (suc k) row at = has_row (interned texts first.name) rows k row at

has_rows : (texts : List (List ℕ)) (rows : List Row) → HasRows (with_rows texts rows) rows
has_rows texts rows row (k, within, is) = has_row texts rows k row (slice_get-get_or rows k row within ∙ ap Some is)

-- the names have those of the built-in classes
pub has_builtins : (texts : List (List ℕ)) → HasBuiltins (with_builtins texts)
has_builtins texts = record {
  rows = λ row has. keeps_interned (with_rows texts builtins) (codes "transaction") row.name (has_rows texts builtins row has);
  transaction = contains_interned (with_rows texts builtins) (codes "transaction");
}

absent_before : (texts : List (List ℕ)) (i : ℕ) (text : List ℕ) → AreNames texts → slice_get texts i ≡ Some text → Contains (take i texts) text → ⊥
absent_before texts i text names at (k, short, is) =
    let within : i < length texts = slice_get_within texts i text at in
    let lt : k < i = subst (λ (n : ℕ). k < n) (length-take-le i texts (omega arith)) short in
    let here : slice_get texts k ≡ Some text = slice_get-get_or texts k text (omega arith) ∙ ap Some (sym (get_or-take i texts k text lt) ∙ is) in
    let same : k ≡ i = names.distinct k i text here at in
    omega arith

contains_first : (rows : List Row) (row : Row) → Contains (row ∷ rows) row
contains_first rows row = (0, omega arith, refl)

contains_later : (rows : List Row) (first row : Row) → Contains rows row → Contains (first ∷ rows) row
contains_later rows first row (k, within, is) = (suc k, omega arith, is)

-- the next text of a list of names is new to those before it
pub interned_next : (texts : List (List ℕ)) (i : ℕ) (text : List ℕ) → AreNames texts → slice_get texts i ≡ Some text → interned (take i texts) text ≡ take (i + 1) texts
interned_next texts i text names at =
    let within : i < length texts = slice_get_within texts i text at in
    interned_new (take i texts) text (λ has. absent_before texts i text names at has)
    ∙ (ap (λ (one : List ℕ). take i texts ++ one ∷ []) (sym (get_or_from_slice_get texts i text text at)) ∙ sym (take_more texts i text within))

-- the rows of the code's list
pub contains_row : (rows : List Builtin) (i : ℕ) (d : Builtin) → i < length rows → Contains (map row_of rows) (row_of (get_or rows i d))
contains_row (first ∷ rows) zero d lt = contains_first (map row_of rows) (row_of first)
contains_row (first ∷ rows) (suc i) d lt = contains_later (map row_of rows) (row_of first) (row_of (get_or rows i d)) (contains_row rows i d (omega arith))
contains_row [] i d lt = absurd (omega arith)

pub later_text : (first text : List ℕ) (texts : List (List ℕ)) → bytes_eq first text ≡ false → Contains (first ∷ texts) text → Contains texts text
later_text first text texts differs (zero, within, is) = absurd (false≢true (sym differs ∙ (bytes_eq-Decides first text).1 is))
later_text first text texts differs (suc k, within, is) = (k, omega arith, is)

within_by : (first : List ℕ) (texts : List (List ℕ)) (text : List ℕ) (same : Bool) → bytes_eq first text ≡ same → (Contains texts text → id_of texts text < length texts)
    → Contains (first ∷ texts) text → cond (not same) (1 + id_of texts text) 0 < length (first ∷ texts)
within_by first texts text true e later has = omega arith
within_by first texts text false e later has = let lt = later (later_text first text texts e has) in omega arith

-- the id of a text that is there is one of these names
pub id_within : (texts : List (List ℕ)) (text : List ℕ) → Contains texts text → id_of texts text < length texts
id_within [] text (k, within, is) = absurd (omega arith)
id_within (first ∷ texts) text has = within_by first texts text (bytes_eq first text) refl (id_within texts text) has
