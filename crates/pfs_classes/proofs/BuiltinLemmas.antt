-- The built-in list: the kinds of its rows, and its classes under more names.
use Rattle.std.proofs.Common.{◌≡◌, ℕ, zero, suc, ◌+◌, ◌<◌, ◌≤◌, Bool, true, false, ◌&&◌, not, cond, List, [], ◌∷◌, ◌++◌, length, drop, map, Some, Contains, inl, inr, refl, sym, ap, ◌∙◌, subst, arith}
use Rattle.std.specs.Prelude.{codes, nat_le, slice_get, fold}
use Rattle.std.specs.List.{list_all}
use Rattle.std.specs.Str.{bytes_eq}
use Rattle.std.proofs.lemmas.Bool.{and_parts, leb-true}
use Rattle.std.proofs.lemmas.List.Elements.{Contains-append_left}
use Rattle.std.proofs.lemmas.Option.{same_Some, slice_get-get_or}
use Rattle.std.proofs.lemmas.Slice.Eq.{bytes_eq-Decides}
use Rattle.pfs_names.specs.InternedTexts.{Interns, id_of}
use Rattle.pfs_rows.specs.declared.limits.Limits.{Limits}
use Rattle.pfs_classes.specs.declared.classes.Class.{Class}
use Rattle.pfs_classes.specs.declared.kind.Kind.TheVariants.{Transaction}
use Rattle.pfs_classes.specs.Kinds.{kind_name, are_parts, Fits}
use Rattle.pfs_classes.specs.Registry.{Registry, registered, text_of}
use Rattle.pfs_classes.specs.Builtins.{Row, builtins, class_of, after_rows, start_of, builtin_of, HasRows, HasBuiltins}
use Rattle.pfs_classes.proofs.RowTexts.{later_text}
use Rattle.pfs_classes.specs.Settings.{ComesFrom, builtin, register, set}

-- a test of a row: its name is its kind's, `/` and parts
parts_of : Row → List ℕ
parts_of row = drop (length (kind_name row.kind) + 1) row.name

fits_test : Row → Bool
fits_test row = bytes_eq row.name (kind_name row.kind ++ 47 ∷ parts_of row) && (are_parts (parts_of row) && nat_le (length row.name) 128)

all_fit : list_all fits_test builtins ≡ true
unfolding fits_test parts_of
all_fit = refl

passes_at : (rows : List Row) → list_all fits_test rows ≡ true → (k : ℕ) (row : Row) → slice_get rows k ≡ Some row → fits_test row ≡ true
passes_at [] all k row at = cc
passes_at (first ∷ rows) all zero row at = ap fits_test (sym (same_Some first row at)) ∙ (and_parts (fits_test first) (list_all fits_test rows) all).0
passes_at (first ∷ rows) all (suc k) row at = passes_at rows (and_parts (fits_test first) (list_all fits_test rows) all).1 k row at

fits_from_test : (row : Row) → fits_test row ≡ true → Fits row.name row.kind
unfolding fits_test
fits_from_test row h =
    let both = and_parts (bytes_eq row.name (kind_name row.kind ++ 47 ∷ parts_of row)) (are_parts (parts_of row) && nat_le (length row.name) 128) h in
    let more = and_parts (are_parts (parts_of row)) (nat_le (length row.name) 128) both.1 in
    inr (parts_of row, (bytes_eq-Decides row.name (kind_name row.kind ++ 47 ∷ parts_of row)).0 both.0, more.0, leb-true (length row.name) 128 more.1)

-- each row has the kind of its name
pub row_fits : (row : Row) → Contains builtins row → Fits row.name row.kind
row_fits row (k, within, is) = fits_from_test row (passes_at builtins all_fit k row (slice_get-get_or builtins k row within ∙ ap Some is))

id_more_by : (first : List ℕ) (texts : List (List ℕ)) (new text : List ℕ) (same : Bool) → bytes_eq first text ≡ same → (Contains texts text → id_of (texts ++ new ∷ []) text ≡ id_of texts text)
    → Contains (first ∷ texts) text → cond (not same) (1 + id_of (texts ++ new ∷ []) text) 0 ≡ cond (not same) (1 + id_of texts text) 0
id_more_by first texts new text true e later has = refl
id_more_by first texts new text false e later has = ap (λ n. 1 + n) (later (later_text first text texts e has))

-- a text that is there keeps its id when one more comes
id_more : (texts : List (List ℕ)) (new text : List ℕ) → Contains texts text → id_of (texts ++ new ∷ []) text ≡ id_of texts text
id_more [] new text (k, within, is) = absurd (omega arith)
id_more (first ∷ texts) new text has = id_more_by first texts new text (bytes_eq first text) refl (id_more texts new text) has

later_rows : (texts : List (List ℕ)) (first : Row) (rows : List Row) → HasRows texts (first ∷ rows) → HasRows texts rows
later_rows texts first rows has row (k, within, is) = has row (suc k, omega arith, is)

-- the classes of rows whose names are there
classes_more : (texts : List (List ℕ)) (new : List ℕ) (rows : List Row) → HasRows texts rows → map (class_of (texts ++ new ∷ [])) rows ≡ map (class_of texts) rows
classes_more texts new [] has = refl
classes_more texts new (row ∷ rows) has =
    let named : ℕ → Class = λ name. record { name = name; kind = row.kind; enabled = row.on; timed = row.on } in
    let first : class_of (texts ++ new ∷ []) row ≡ class_of texts row = ap named (id_more texts new row.name (has row (0, omega arith, refl))) in
    let rest = classes_more texts new rows (later_rows texts row rows has) in
    cc

start_more : (texts : List (List ℕ)) (new : List ℕ) (limits : Limits) → Contains texts (codes "transaction") → start_of (texts ++ new ∷ []) limits ≡ start_of texts limits
start_more texts new limits has =
    let alone : ℕ → Registry = λ name. record { limits = limits; classes = []; transaction = record { name = name; kind = Transaction; enabled = true; timed = true }; lost = [] } in
    ap alone (id_more texts new (codes "transaction") has)

after_more : (texts : List (List ℕ)) (new : List ℕ) (rows : List Row) (r s : Registry) → r ≡ s → HasRows texts rows → after_rows r (texts ++ new ∷ []) rows ≡ after_rows s texts rows
after_more texts new rows r s e has = rw (classes_more texts new rows has) (ap (λ (one : Registry). fold registered one (map (class_of texts) rows)) e)

-- the same register over one more name
builtin_more : (texts : List (List ℕ)) (new : List ℕ) (limits : Limits) → HasBuiltins texts → builtin_of texts limits ≡ builtin_of (texts ++ new ∷ []) limits
builtin_more texts new limits has =
    sym (after_more texts new builtins (start_of (texts ++ new ∷ []) limits) (start_of texts limits) (start_more texts new limits has.transaction) has.rows)

has_more : (texts : List (List ℕ)) (new : List ℕ) → HasBuiltins texts → HasBuiltins (texts ++ new ∷ [])
has_more texts new has = record {
  rows = λ row one. Contains-append_left texts (new ∷ []) row.name (has.rows row one);
  transaction = Contains-append_left texts (new ∷ []) (codes "transaction") has.transaction;
}

text_more : (texts : List (List ℕ)) (new : List ℕ) (id : ℕ) → id < length texts → text_of (texts ++ new ∷ []) id ≡ text_of texts id
text_more [] new id lt = absurd (omega arith)
text_more (text ∷ texts) new zero lt = refl
text_more (text ∷ texts) new (suc id) lt = text_more texts new id (omega arith)

length_more : (texts : List (List ℕ)) (new : List ℕ) → length texts < length (texts ++ new ∷ [])
length_more [] new = omega arith
length_more (text ∷ texts) new = omega (arith, length_more texts new)

comes_longer : (texts : List (List ℕ)) (new : List ℕ) (r : Registry) → ComesFrom texts r → ComesFrom (texts ++ new ∷ []) r
comes_longer texts new r (builtin limits range has) =
    subst (λ (one : Registry). ComesFrom (texts ++ new ∷ []) one) (sym (builtin_more texts new limits has)) (builtin limits range (has_more texts new has))
comes_longer texts new r (register before class comes known fits ordinary fresh) =
    register before class (comes_longer texts new before comes) (omega (arith, length_more texts new))
    (subst (λ (text : List ℕ). Fits text class.kind) (sym (text_more texts new class.name known)) fits) ordinary fresh
comes_longer texts new r (set before id enabled timed comes given) = set before id enabled timed (comes_longer texts new before comes) given

-- a register over names stands over the names with one text interned
pub comes_more : (old new : List (List ℕ)) (text : List ℕ) (r : Registry) → Interns old new text → ComesFrom old r → ComesFrom new r
comes_more old new text r (inl (has, same)) comes = subst (λ (texts : List (List ℕ)). ComesFrom texts r) (sym same) comes
comes_more old new text r (inr (absent, more)) comes = subst (λ (texts : List (List ℕ)). ComesFrom texts r) (sym more) (comes_longer old text r comes)
