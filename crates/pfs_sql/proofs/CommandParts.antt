-- Each part of a command is read exactly as it is spelled.
use Rattle.std.proofs.Common.{◌≡◌, ℕ, zero, suc, ◌+◌, ◌≤◌, ◌<◌, Bool, true, false, List, [], ◌∷◌, ◌++◌, length, map, Option, Some, None, refl, sym, ap, subst, ◌∙◌, ◌⊎◌, inl, inr, arith}
use Rattle.std.specs.Prelude.{codes}
use Rattle.std.specs.Char.{to_ascii_lowercase}
use Rattle.std.specs.Cmp.Lexicographic.{bytes_decides}
use Rattle.std.specs.Str.{bytes_eq}
use Rattle.pfs_text.specs.declared.conditions.Comparison.{Comparison}
use Rattle.pfs_text.specs.declared.conditions.Comparison.TheVariants.{Equal, Unequal, Less, AtMost, Greater, AtLeast}
use Rattle.pfs_text.specs.declared.conditions.Literal.{Literal}
use Rattle.pfs_text.specs.declared.conditions.TestKind.{TestKind}
use Rattle.pfs_text.specs.declared.conditions.TestKind.TheVariants as kinds
use Rattle.pfs_sql.specs.declared.token.Token.{Token}
use Rattle.pfs_sql.specs.declared.token.Token.TheVariants as tokens
use Rattle.pfs_sql.specs.declared.command.NamedTest.{NamedTest}
use Rattle.pfs_sql.specs.declared.command.NamedOrder.{NamedOrder}
use Rattle.pfs_sql.specs.declared.command.Assignment.{Assignment}
use Rattle.pfs_sql.specs.TokenWords.{is_key, is_comma, is_open, is_close, is_star, is_semicolon, name_in, table_in, number_in, text_in, comparison_in, literal_in}
use Rattle.pfs_sql.specs.Grammar.{Part, Piece, Passes, Name, Table, Number, Quotes, Compares, Value, Never, One, May, Is, Fits, key, each_behind, separated, clause, optional, name, text, names, columns, kind, test, conditions, direction, order_item, order_items, order, number, limit, assignment, listed, ending}
use Rattle.pfs_sql.specs.TokenReaders.{◌>>=◌, Reader, after, after_key, given, choose, one, behind, before, with_front, many, items_at, clause_at, optionally, name_at, text_at, table_at, names_at, texts_at, columns_at, null_at, compared_at, like_at, word_kind_at, kind_at, test_at, tests_at, conditions_at, direction_at, order_item_at, order_items_at, order_at, limit_at, is_equal, assignment_at, assignments_at, listed_at, values_at, ends, past_table}
use Rattle.pfs_sql.proofs.ItemLists.{given_is, after_shorter}
use Rattle.pfs_sql.proofs.ExactReadings.{bind_some, pair_parts, rest_part, Avoids, Apart, key_takes, key_again, avoids_one, avoids_end, avoids_clause, avoids_optional, Exact, Always, Shortens, one_exact, one_shortens, items_exact, choose_some, clause_exact, optional_exact, behind_exact, before_exact}

-- different keywords are no one token
pub keys_apart : (v w : List ℕ) → bytes_eq (map to_ascii_lowercase v) (map to_ascii_lowercase w) ≡ false → Apart (is_key v) (is_key w)
keys_apart v w differ (tokens.Word word) e =
    let same : map to_ascii_lowercase word ≡ map to_ascii_lowercase v = (bytes_decides (map to_ascii_lowercase word) (map to_ascii_lowercase v)).0 e in
    rw same differ
keys_apart v w differ token e = absurd cc

pub key_comma : (v : List ℕ) → Apart (is_key v) is_comma
key_comma v (tokens.Word word) e = refl
key_comma v token e = absurd cc

pub key_open : (v : List ℕ) → Apart (is_key v) is_open
key_open v (tokens.Word word) e = refl
key_open v token e = absurd cc

pub comma_key : (v : List ℕ) → Apart is_comma (is_key v)
comma_key v tokens.Comma e = refl
comma_key v token e = absurd cc

pub semicolon_key : (v : List ℕ) → Apart is_semicolon (is_key v)
semicolon_key v tokens.Semicolon e = refl
semicolon_key v token e = absurd cc

pub semicolon_comma : Apart is_semicolon is_comma
semicolon_comma tokens.Semicolon e = refl
semicolon_comma token e = absurd cc

pub close_comma : Apart is_close is_comma
close_comma tokens.Close e = refl
close_comma token e = absurd cc

-- ---- one token

pub name_exact : Exact name_at name Always
name_exact = one_exact name_in Name (λ x token h. h) (λ x token h. h)

pub text_exact : Exact text_at text Always
text_exact = one_exact text_in Quotes (λ x token h. h) (λ x token h. h)

pub table_exact : Exact table_at (λ x tail. One (Table x) ∷ tail) Always
table_exact = one_exact table_in Table (λ x token h. h) (λ x token h. h)

pub number_exact : Exact (one number_in) number Always
number_exact = one_exact number_in Number (λ x token h. h) (λ x token h. h)

pub literal_exact : Exact (one literal_in) (λ x tail. One (Value x) ∷ tail) Always
literal_exact = one_exact literal_in Value (λ x token h. h) (λ x token h. h)

pub comparison_exact : Exact (one comparison_in) (λ x tail. One (Compares x) ∷ tail) Always
comparison_exact = one_exact comparison_in Compares (λ x token h. h) (λ x token h. h)

-- ---- lists of names and of texts

pub names_exact : Exact names_at names (λ tail. Always tail × Avoids is_comma tail)
names_exact = items_exact is_comma name_at name Always name_exact (one_shortens name_in) (λ tail. tt)

pub texts_exact : Exact texts_at (separated is_comma text) (λ tail. Always tail × Avoids is_comma tail)
texts_exact = items_exact is_comma text_at text Always text_exact (one_shortens text_in) (λ tail. tt)

star_name : (tokens : List Token) (list : List (List ℕ)) (tail : List Piece) → Fits (names list tail) tokens → after is_star tokens ≡ None
star_name [] list tail h = refl
star_name (tokens.Star ∷ rest) [] tail h = absurd h.0
star_name (tokens.Star ∷ rest) (n ∷ ns) tail h = absurd cc
star_name (token ∷ rest) list tail h = refl

pub columns_exact : Exact columns_at columns (Avoids is_comma)
unfolding columns_at
columns_exact = record { takes = columns_take; again = columns_again }
  where
    columns_take : (ts : List Token) (x : Option (List (List ℕ))) (rest : List Token) (tail : List Piece) → columns_at ts ≡ Some (x, rest) → Fits tail rest → Fits (columns x tail) ts
    columns_take ts x rest tail e h = choose_some (after is_star ts) (λ more. Some (None, more)) (names_at ts >>= λ y. Some (Some y.0, y.1)) (x, rest) e
        (λ more n f. let parts = pair_parts (None) x (more) rest f in
        let x-is : None ≡ x = parts.0 in
        let rest-is : more ≡ rest = parts.1 in
        subst (λ (p : Option (List (List ℕ))). Fits (columns p tail) ts) x-is (key_takes is_star ts more tail n (subst (λ ts. Fits tail ts) (sym rest-is) h)))
        (λ n f.
        let b = bind_some (names_at ts) (λ y. Some (Some y.0, y.1)) (x, rest) f in
        let parts = pair_parts (Some b.0.0) x (b.0.1) rest b.2 in
        let x-is : Some b.0.0 ≡ x = parts.0 in
        let rest-is : b.0.1 ≡ rest = parts.1 in
        subst (λ (p : Option (List (List ℕ))). Fits (columns p tail) ts) x-is (names_exact.takes ts b.0.0 b.0.1 tail b.1 (subst (λ ts. Fits tail ts) (sym rest-is) h)))

    columns_again : (ts : List Token) (x : Option (List (List ℕ))) (tail : List Piece) → Avoids is_comma tail → Fits (columns x tail) ts → (rest : List Token) × (columns_at ts ≡ Some (x, rest)) × Fits tail rest
    columns_again ts None tail c h =
        let k = key_again is_star ts tail h in
        (k.0, rw k.1 refl, k.2)
    columns_again ts (Some list) tail c h =
        let r = names_exact.again ts list tail (tt, c) h in
        (r.0, rw (star_name ts list tail h, r.1) refl, r.2)

-- ---- conditions

-- what stands at a comparison is no keyword
no_comparison : (v : List ℕ) (ts : List Token) (tail : List Piece) → Fits (One (Passes (is_key v)) ∷ tail) ts → one comparison_in ts ≡ None
no_comparison v [] tail h = refl
no_comparison v (tokens.Compares comparison ∷ rest) tail h = absurd cc
no_comparison v (token ∷ rest) tail h = refl

pub kind_takes : (ts : List Token) (x : TestKind) (rest : List Token) (tail : List Piece) → kind_at ts ≡ Some (x, rest) → Fits tail rest → Fits (kind x tail) ts
unfolding kind_at word_kind_at compared_at like_at null_at
kind_takes ts x rest tail e h =
    let K : TestKind → Type 0 = λ k. Fits (kind k tail) ts in
    choose_some (one comparison_in ts) (λ y. compared_at y.0 y.1) (word_kind_at ts) (x, rest) e
    (λ y n f.
    let b = bind_some (one literal_in y.1) (λ z. Some (kinds.Compare y.0 z.0, z.1)) (x, rest) f in
    let parts = pair_parts (kinds.Compare y.0 b.0.0) x (b.0.1) rest b.2 in
    let x-is : kinds.Compare y.0 b.0.0 ≡ x = parts.0 in
    let rest-is : b.0.1 ≡ rest = parts.1 in
    subst K x-is (comparison_exact.takes ts y.0 y.1 (One (Value b.0.0) ∷ tail) n (literal_exact.takes y.1 b.0.0 b.0.1 tail b.1 (subst (λ ts. Fits tail ts) (sym rest-is) h))))
    (λ n f. choose_some (after_key (codes "like") ts) like_at (behind (is_key (codes "is")) null_at ts) (x, rest) f
    (λ more m g.
    let b = bind_some (text_at more) (λ z. Some (kinds.Like z.0, z.1)) (x, rest) g in
    let parts = pair_parts (kinds.Like b.0.0) x (b.0.1) rest b.2 in
    let x-is : kinds.Like b.0.0 ≡ x = parts.0 in
    let rest-is : b.0.1 ≡ rest = parts.1 in
    subst K x-is (key_takes (is_key (codes "like")) ts more (One (Quotes b.0.0) ∷ tail) m (text_exact.takes more b.0.0 b.0.1 tail b.1 (subst (λ ts. Fits tail ts) (sym rest-is) h))))
    (λ m g.
    let b = bind_some (after_key (codes "is") ts) null_at (x, rest) g in
    choose_some (after_key (codes "not") b.0) (λ more. after_key (codes "null") more >>= λ last. Some (kinds.IsNotNull, last)) (after_key (codes "null") b.0 >>= λ last. Some (kinds.IsNull, last)) (x, rest) b.2
    (λ more l k.
    let d = bind_some (after_key (codes "null") more) (λ last. Some (kinds.IsNotNull, last)) (x, rest) k in
    let parts = pair_parts (kinds.IsNotNull) x (d.0) rest d.2 in
    let x-is : kinds.IsNotNull ≡ x = parts.0 in
    let rest-is : d.0 ≡ rest = parts.1 in
    subst K x-is (key_takes (is_key (codes "is")) ts b.0 (key (codes "not") ∷ key (codes "null") ∷ tail) b.1
    (key_takes (is_key (codes "not")) b.0 more (key (codes "null") ∷ tail) l (key_takes (is_key (codes "null")) more d.0 tail d.1 (subst (λ ts. Fits tail ts) (sym rest-is) h)))))
    (λ l k.
    let d = bind_some (after_key (codes "null") b.0) (λ last. Some (kinds.IsNull, last)) (x, rest) k in
    let parts = pair_parts (kinds.IsNull) x (d.0) rest d.2 in
    let x-is : kinds.IsNull ≡ x = parts.0 in
    let rest-is : d.0 ≡ rest = parts.1 in
    subst K x-is (key_takes (is_key (codes "is")) ts b.0 (key (codes "null") ∷ tail) b.1 (key_takes (is_key (codes "null")) b.0 d.0 tail d.1 (subst (λ ts. Fits tail ts) (sym rest-is) h))))))

pub kind_again : (ts : List Token) (x : TestKind) (tail : List Piece) → Always tail → Fits (kind x tail) ts → (rest : List Token) × (kind_at ts ≡ Some (x, rest)) × Fits tail rest
unfolding kind_at word_kind_at compared_at like_at null_at
kind_again ts (kinds.Compare comparison literal) tail c h =
    let a = comparison_exact.again ts comparison (One (Value literal) ∷ tail) tt h in
    let b = literal_exact.again a.0 literal tail tt a.2 in
    (b.0, rw (a.1, b.1) refl, b.2)
kind_again ts (kinds.Like pattern) tail c h =
    let n = no_comparison (codes "like") ts (One (Quotes pattern) ∷ tail) h in
    let a = key_again (is_key (codes "like")) ts (One (Quotes pattern) ∷ tail) h in
    let b = text_exact.again a.0 pattern tail tt a.2 in
    (b.0, rw (n, a.1, b.1) refl, b.2)
kind_again ts kinds.IsNull tail c h =
    let n = no_comparison (codes "is") ts (key (codes "null") ∷ tail) h in
    let l = avoids_one (is_key (codes "is")) (is_key (codes "like")) (key (codes "null") ∷ tail) (keys_apart (codes "is") (codes "like") refl) ts h in
    let a = key_again (is_key (codes "is")) ts (key (codes "null") ∷ tail) h in
    let m = avoids_one (is_key (codes "null")) (is_key (codes "not")) tail (keys_apart (codes "null") (codes "not") refl) a.0 a.2 in
    let b = key_again (is_key (codes "null")) a.0 tail a.2 in
    (b.0, rw (n, l, a.1, m, b.1) refl, b.2)
kind_again ts kinds.IsNotNull tail c h =
    let n = no_comparison (codes "is") ts (key (codes "not") ∷ key (codes "null") ∷ tail) h in
    let l = avoids_one (is_key (codes "is")) (is_key (codes "like")) (key (codes "not") ∷ key (codes "null") ∷ tail) (keys_apart (codes "is") (codes "like") refl) ts h in
    let a = key_again (is_key (codes "is")) ts (key (codes "not") ∷ key (codes "null") ∷ tail) h in
    let b = key_again (is_key (codes "not")) a.0 (key (codes "null") ∷ tail) a.2 in
    let d = key_again (is_key (codes "null")) b.0 tail b.2 in
    (d.0, rw (n, l, a.1, b.1, d.1) refl, d.2)

pub kind_shortens : Shortens kind_at
unfolding kind_at word_kind_at compared_at like_at null_at
kind_shortens ts x rest e =
    choose_some (one comparison_in ts) (λ y. compared_at y.0 y.1) (word_kind_at ts) (x, rest) e
    (λ y n f.
    let b = bind_some (one literal_in y.1) (λ z. Some (kinds.Compare y.0 z.0, z.1)) (x, rest) f in
    let rest-is : b.0.1 ≡ rest = rest_part _ x (b.0.1) rest b.2 in
    let p = one_shortens comparison_in ts y.0 y.1 n in
    let q = one_shortens literal_in y.1 b.0.0 b.0.1 b.1 in
    rw (← rest-is) (omega arith))
    (λ n f. choose_some (after_key (codes "like") ts) like_at (behind (is_key (codes "is")) null_at ts) (x, rest) f
    (λ more m g.
    let b = bind_some (text_at more) (λ z. Some (kinds.Like z.0, z.1)) (x, rest) g in
    let rest-is : b.0.1 ≡ rest = rest_part _ x (b.0.1) rest b.2 in
    let p = after_shorter (is_key (codes "like")) ts more m in
    let q = one_shortens text_in more b.0.0 b.0.1 b.1 in
    rw (← rest-is) (omega arith))
    (λ m g.
    let b = bind_some (after_key (codes "is") ts) null_at (x, rest) g in
    let p = after_shorter (is_key (codes "is")) ts b.0 b.1 in
    choose_some (after_key (codes "not") b.0) (λ more. after_key (codes "null") more >>= λ last. Some (kinds.IsNotNull, last)) (after_key (codes "null") b.0 >>= λ last. Some (kinds.IsNull, last)) (x, rest) b.2
    (λ more l k.
    let d = bind_some (after_key (codes "null") more) (λ last. Some (kinds.IsNotNull, last)) (x, rest) k in
    let rest-is : d.0 ≡ rest = rest_part _ x (d.0) rest d.2 in
    let q = after_shorter (is_key (codes "not")) b.0 more l in
    let r = after_shorter (is_key (codes "null")) more d.0 d.1 in
    rw (← rest-is) (omega arith))
    (λ l k.
    let d = bind_some (after_key (codes "null") b.0) (λ last. Some (kinds.IsNull, last)) (x, rest) k in
    let rest-is : d.0 ≡ rest = rest_part _ x (d.0) rest d.2 in
    let q = after_shorter (is_key (codes "null")) b.0 d.0 d.1 in
    rw (← rest-is) (omega arith))))

pub test_exact : Exact test_at test Always
unfolding test_at
test_exact = record { takes = test_takes; again = test_again }
  where
    test_takes : (ts : List Token) (x : NamedTest) (rest : List Token) (tail : List Piece) → test_at ts ≡ Some (x, rest) → Fits tail rest → Fits (test x tail) ts
    test_takes ts x rest tail e h =
        let b = bind_some (name_at ts) (λ n. kind_at n.1 >>= λ k. Some (record { column = n.0; kind = k.0 }, k.1)) (x, rest) e in
        let d = bind_some (kind_at b.0.1) (λ k. Some (record { column = b.0.0; kind = k.0 }, k.1)) (x, rest) b.2 in
        let parts = pair_parts (record { column = b.0.0; kind = d.0.0 }) x (d.0.1) rest d.2 in
        let x-is : record { column = b.0.0; kind = d.0.0 } ≡ x = parts.0 in
        let rest-is : d.0.1 ≡ rest = parts.1 in
        subst (λ (t : NamedTest). Fits (test t tail) ts) x-is (name_exact.takes ts b.0.0 b.0.1 (kind d.0.0 tail) b.1 (kind_takes b.0.1 d.0.0 d.0.1 tail d.1 (subst (λ ts. Fits tail ts) (sym rest-is) h)))

    test_again : (ts : List Token) (x : NamedTest) (tail : List Piece) → Always tail → Fits (test x tail) ts → (rest : List Token) × (test_at ts ≡ Some (x, rest)) × Fits tail rest
    test_again ts x tail c h =
        let a = name_exact.again ts x.column (kind x.kind tail) tt h in
        let b = kind_again a.0 x.kind tail tt a.2 in
        (b.0, rw (a.1, b.1) refl, b.2)

pub test_shortens : Shortens test_at
unfolding test_at
test_shortens ts x rest e =
    let b = bind_some (name_at ts) (λ n. kind_at n.1 >>= λ k. Some (record { column = n.0; kind = k.0 }, k.1)) (x, rest) e in
    let d = bind_some (kind_at b.0.1) (λ k. Some (record { column = b.0.0; kind = k.0 }, k.1)) (x, rest) b.2 in
    let rest-is : d.0.1 ≡ rest = rest_part _ x (d.0.1) rest d.2 in
    let p = one_shortens name_in ts b.0.0 b.0.1 b.1 in
    let q = kind_shortens b.0.1 d.0.0 d.0.1 d.1 in
    rw (← rest-is) (omega arith)

-- a list of no items has no spelling
pub none_separated : {X : Type 0} (p : Token → Bool) (item : X → List Piece → List Piece) (tail : List Piece) (ts : List Token) → Fits (separated p item [] tail) ts → ⊥
none_separated p item tail [] h = h
none_separated p item tail (token ∷ ts) h = h.0

pub conditions_exact : Exact conditions_at conditions (λ tail. (Always tail × Avoids (is_key (codes "and")) tail) × Avoids (is_key (codes "where")) tail)
conditions_exact = clause_exact (is_key (codes "where")) tests_at (separated (is_key (codes "and")) test) (λ tail. Always tail × Avoids (is_key (codes "and")) tail)
    (items_exact (is_key (codes "and")) test_at test Always test_exact test_shortens (λ tail. tt)) (none_separated (is_key (codes "and")) test)

-- ---- order

pub may_takes : (p : Token → Bool) (ts rest : List Token) (tail : List Piece) → after p ts ≡ Some rest → Fits tail rest → Fits (May (Passes p) ∷ tail) ts
may_takes p [] rest tail e h = absurd cc
may_takes p (token ∷ ts) rest tail e h =
    let g = given_is (p token) ts rest e in
    inl (g.0, subst (λ ts. Fits tail ts) (sym g.1) h)

pub may_none : (p : Token → Bool) (ts : List Token) (tail : List Piece) → Fits tail ts → Fits (May (Passes p) ∷ tail) ts
may_none p [] tail h = h
may_none p (token ∷ ts) tail h = inr h

pub may_again : (p : Token → Bool) (ts : List Token) (tail : List Piece) → Fits (May (Passes p) ∷ tail) ts → ((rest : List Token) × (after p ts ≡ Some rest) × Fits tail rest) ⊎ Fits tail ts
may_again p [] tail h = inr h
may_again p (token ∷ ts) tail (inl h) = inl (ts, rw h.0 refl, h.1)
may_again p (token ∷ ts) tail (inr h) = inr h

abbrev pub Directs : List Piece → Type 0
Directs tail = Avoids (is_key (codes "asc")) tail × Avoids (is_key (codes "desc")) tail

direction_takes : (ts : List Token) (tail : List Piece) → Fits tail (direction_at ts).1 → Fits (direction (direction_at ts).0 ∷ tail) ts
unfolding direction_at
direction_takes ts tail h = by_asc (after_key (codes "asc") ts) refl h
  where
    by_desc : (o : Option (List Token)) → after_key (codes "desc") ts ≡ o → Fits tail (choose {B = Bool × List Token} o (λ rest. (true, rest)) (false, ts)).1 → Fits (direction (choose {B = Bool × List Token} o (λ rest. (true, rest)) (false, ts)).0 ∷ tail) ts
    by_desc (Some rest) e h = key_takes (is_key (codes "desc")) ts rest tail e h
    by_desc None e h = may_none (is_key (codes "asc")) ts tail h

    by_asc : (o : Option (List Token)) → after_key (codes "asc") ts ≡ o → Fits tail (choose {B = Bool × List Token} o (λ rest. (false, rest)) (choose {B = Bool × List Token} (after_key (codes "desc") ts) (λ rest. (true, rest)) (false, ts))).1
        → Fits (direction (choose {B = Bool × List Token} o (λ rest. (false, rest)) (choose {B = Bool × List Token} (after_key (codes "desc") ts) (λ rest. (true, rest)) (false, ts))).0 ∷ tail) ts
    by_asc (Some rest) e h = may_takes (is_key (codes "asc")) ts rest tail e h
    by_asc None e h = by_desc (after_key (codes "desc") ts) refl h

direction_again : (ts : List Token) (descending : Bool) (tail : List Piece) → Directs tail → Fits (direction descending ∷ tail) ts → (rest : List Token) × (direction_at ts ≡ (descending, rest)) × Fits tail rest
unfolding direction_at
direction_again ts true tail c h =
    let n = avoids_one (is_key (codes "desc")) (is_key (codes "asc")) tail (keys_apart (codes "desc") (codes "asc") refl) ts h in
    let k = key_again (is_key (codes "desc")) ts tail h in
    (k.0, rw (n, k.1) refl, k.2)
direction_again ts false tail c h =
    elim (may_again (is_key (codes "asc")) ts tail h) [
      | inl k ↦ (k.0, rw k.1 refl, k.2)
      | inr k ↦ (ts, rw (c.0 ts k, c.1 ts k) refl, k)
    ]

pub order_item_exact : Exact order_item_at order_item Directs
unfolding order_item_at
order_item_exact = record { takes = item_takes; again = item_again }
  where
    item_takes : (ts : List Token) (x : NamedOrder) (rest : List Token) (tail : List Piece) → order_item_at ts ≡ Some (x, rest) → Fits tail rest → Fits (order_item x tail) ts
    item_takes ts x rest tail e h =
        let b = bind_some (name_at ts) (λ n. Some (record { column = n.0; descending = (direction_at n.1).0 }, (direction_at n.1).1)) (x, rest) e in
        let parts = pair_parts (record { column = b.0.0; descending = (direction_at b.0.1).0 }) x ((direction_at b.0.1).1) rest b.2 in
        let x-is : record { column = b.0.0; descending = (direction_at b.0.1).0 } ≡ x = parts.0 in
        let rest-is : (direction_at b.0.1).1 ≡ rest = parts.1 in
        subst (λ (o : NamedOrder). Fits (order_item o tail) ts) x-is (name_exact.takes ts b.0.0 b.0.1 (direction (direction_at b.0.1).0 ∷ tail) b.1 (direction_takes b.0.1 tail (subst (λ ts. Fits tail ts) (sym rest-is) h)))

    item_again : (ts : List Token) (x : NamedOrder) (tail : List Piece) → Directs tail → Fits (order_item x tail) ts → (rest : List Token) × (order_item_at ts ≡ Some (x, rest)) × Fits tail rest
    item_again ts x tail c h =
        let a = name_exact.again ts x.column (direction x.descending ∷ tail) tt h in
        let b = direction_again a.0 x.descending tail c a.2 in
        (b.0, rw (a.1, b.1) refl, b.2)

direction_shortens : (ts : List Token) → length (direction_at ts).1 ≤ length ts
unfolding direction_at
direction_shortens ts = by_asc (after_key (codes "asc") ts) refl
  where
    by_desc : (o : Option (List Token)) → after_key (codes "desc") ts ≡ o → length (choose {B = Bool × List Token} o (λ rest. (true, rest)) (false, ts)).1 ≤ length ts
    by_desc (Some rest) e = omega (arith, after_shorter (is_key (codes "desc")) ts rest e)
    by_desc None e = omega arith

    by_asc : (o : Option (List Token)) → after_key (codes "asc") ts ≡ o → length (choose {B = Bool × List Token} o (λ rest. (false, rest)) (choose {B = Bool × List Token} (after_key (codes "desc") ts) (λ rest. (true, rest)) (false, ts))).1 ≤ length ts
    by_asc (Some rest) e = omega (arith, after_shorter (is_key (codes "asc")) ts rest e)
    by_asc None e = by_desc (after_key (codes "desc") ts) refl

pub order_item_shortens : Shortens order_item_at
unfolding order_item_at
order_item_shortens ts x rest e =
    let b = bind_some (name_at ts) (λ n. Some (record { column = n.0; descending = (direction_at n.1).0 }, (direction_at n.1).1)) (x, rest) e in
    let rest-is : (direction_at b.0.1).1 ≡ rest = rest_part _ x ((direction_at b.0.1).1) rest b.2 in
    let p = one_shortens name_in ts b.0.0 b.0.1 b.1 in
    let q = direction_shortens b.0.1 in
    rw (← rest-is) (omega arith)

abbrev pub OrderCloses : List Piece → Type 0
OrderCloses tail = (Directs tail × Avoids is_comma tail) × Avoids (is_key (codes "order")) tail

none_ordered : (tail : List Piece) (ts : List Token) → Fits (order_items [] tail) ts → ⊥
none_ordered tail [] h = h
none_ordered tail (token ∷ ts) h = none_separated is_comma order_item tail ts h.1

pub order_exact : Exact order_at order OrderCloses
order_exact = clause_exact (is_key (codes "order")) (behind (is_key (codes "by")) order_items_at) order_items (λ tail. Directs tail × Avoids is_comma tail)
    (behind_exact (is_key (codes "by")) order_items_at (separated is_comma order_item) (λ tail. Directs tail × Avoids is_comma tail)
    (items_exact is_comma order_item_at order_item Directs order_item_exact order_item_shortens
    (λ tail. (avoids_one is_comma (is_key (codes "asc")) tail (comma_key (codes "asc")), avoids_one is_comma (is_key (codes "desc")) tail (comma_key (codes "desc"))))))
    none_ordered

pub limit_exact : Exact limit_at limit (λ tail. Always tail × Avoids (is_key (codes "limit")) tail)
limit_exact = optional_exact (is_key (codes "limit")) (one number_in) number Always number_exact

-- ---- assignments

equal_takes : (ts rest : List Token) (tail : List Piece) → after is_equal ts ≡ Some rest → Fits tail rest → Fits (One (Compares Equal) ∷ tail) ts
equal_takes (tokens.Compares Equal ∷ ts) rest tail e h = (refl, let same : ts ≡ rest = cc in subst (λ ts. Fits tail ts) (sym same) h)
equal_takes ts rest tail e h = absurd cc

equal_again : (ts : List Token) (tail : List Piece) → Fits (One (Compares Equal) ∷ tail) ts → (rest : List Token) × (after is_equal ts ≡ Some rest) × Fits tail rest
equal_again [] tail h = absurd h
equal_again (tokens.Compares comparison ∷ ts) tail h =
    let same : comparison ≡ Equal = cc in
    (ts, rw same refl, h.1)
equal_again (token ∷ ts) tail h = absurd cc

pub assignment_exact : Exact assignment_at assignment Always
unfolding assignment_at
assignment_exact = record { takes = set_takes; again = set_again }
  where
    set_takes : (ts : List Token) (x : Assignment) (rest : List Token) (tail : List Piece) → assignment_at ts ≡ Some (x, rest) → Fits tail rest → Fits (assignment x tail) ts
    set_takes ts x rest tail e h =
        let b = bind_some (name_at ts) (λ n. after is_equal n.1 >>= λ more. text_at more >>= λ y. Some (record { column = n.0; value = y.0 }, y.1)) (x, rest) e in
        let d = bind_some (after is_equal b.0.1) (λ more. text_at more >>= λ y. Some (record { column = b.0.0; value = y.0 }, y.1)) (x, rest) b.2 in
        let f = bind_some (text_at d.0) (λ y. Some (record { column = b.0.0; value = y.0 }, y.1)) (x, rest) d.2 in
        let parts = pair_parts (record { column = b.0.0; value = f.0.0 }) x (f.0.1) rest f.2 in
        let x-is : record { column = b.0.0; value = f.0.0 } ≡ x = parts.0 in
        let rest-is : f.0.1 ≡ rest = parts.1 in
        subst (λ (a : Assignment). Fits (assignment a tail) ts) x-is (name_exact.takes ts b.0.0 b.0.1 (One (Compares Equal) ∷ One (Quotes f.0.0) ∷ tail) b.1
        (equal_takes b.0.1 d.0 (One (Quotes f.0.0) ∷ tail) d.1 (text_exact.takes d.0 f.0.0 f.0.1 tail f.1 (subst (λ ts. Fits tail ts) (sym rest-is) h))))

    set_again : (ts : List Token) (x : Assignment) (tail : List Piece) → Always tail → Fits (assignment x tail) ts → (rest : List Token) × (assignment_at ts ≡ Some (x, rest)) × Fits tail rest
    set_again ts x tail c h =
        let a = name_exact.again ts x.column (One (Compares Equal) ∷ One (Quotes x.value) ∷ tail) tt h in
        let k = equal_again a.0 (One (Quotes x.value) ∷ tail) a.2 in
        let b = text_exact.again k.0 x.value tail tt k.2 in
        (b.0, rw (a.1, k.1, b.1) refl, b.2)

pub assignment_shortens : Shortens assignment_at
unfolding assignment_at
assignment_shortens ts x rest e =
    let b = bind_some (name_at ts) (λ n. after is_equal n.1 >>= λ more. text_at more >>= λ y. Some (record { column = n.0; value = y.0 }, y.1)) (x, rest) e in
    let d = bind_some (after is_equal b.0.1) (λ more. text_at more >>= λ y. Some (record { column = b.0.0; value = y.0 }, y.1)) (x, rest) b.2 in
    let f = bind_some (text_at d.0) (λ y. Some (record { column = b.0.0; value = y.0 }, y.1)) (x, rest) d.2 in
    let rest-is : f.0.1 ≡ rest = rest_part _ x (f.0.1) rest f.2 in
    let p = one_shortens name_in ts b.0.0 b.0.1 b.1 in
    let q = after_shorter is_equal b.0.1 d.0 d.1 in
    let r = one_shortens text_in d.0 f.0.0 f.0.1 f.1 in
    rw (← rest-is) (omega arith)

pub assignments_exact : Exact assignments_at (separated is_comma assignment) (λ tail. Always tail × Avoids is_comma tail)
assignments_exact = items_exact is_comma assignment_at assignment Always assignment_exact assignment_shortens (λ tail. tt)

-- ---- INSERT's lists

pub listed_exact : Exact listed_at (optional is_open listed) (λ tail. Always tail × Avoids is_open tail)
listed_exact = optional_exact is_open (before names_at is_close) listed Always
    (before_exact names_at is_close names (λ tail. Always tail × Avoids is_comma tail) names_exact (λ tail. (tt, avoids_one is_close is_comma tail close_comma)))

pub values_exact : Exact values_at (λ list tail. key (codes "values") ∷ One (Passes is_open) ∷ separated is_comma text list (One (Passes is_close) ∷ tail)) Always
values_exact = behind_exact (is_key (codes "values")) (behind is_open (before texts_at is_close)) (λ list tail. One (Passes is_open) ∷ separated is_comma text list (One (Passes is_close) ∷ tail)) Always
    (behind_exact is_open (before texts_at is_close) (λ list tail. separated is_comma text list (One (Passes is_close) ∷ tail)) Always
    (before_exact texts_at is_close (separated is_comma text) (λ tail. Always tail × Avoids is_comma tail) texts_exact (λ tail. (tt, avoids_one is_close is_comma tail close_comma))))
