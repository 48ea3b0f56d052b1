-- The lexer gives the tokens of a text, and no others.
use Rattle.std.proofs.Common.{◌≡◌, ◌≢◌, ℕ, suc, ◌+◌, ◌<◌, Bool, true, false, cond, eqb, List, [], ◌∷◌, ◌++◌, length, take, drop, Option, Some, None, refl, sym, ap, subst, ◌∙◌, append_assoc, ◌⊎◌, inl, inr, arith, add-one}
use Rattle.std.specs.Prelude.{codes, ◌&&◌, ◌||◌}
use Rattle.std.specs.List.{list_all, prefix_len}
use Rattle.std.proofs.lemmas.Bool.{eqb-true, ne_eqb, cases_Bool, cases_eq, and_parts, or_cases, or_parts, and_from}
use Rattle.std.proofs.lemmas.List.{take_at, drop_at, take-append-drop, append-nil, nil_from_length}
use Rattle.std.proofs.lemmas.List.Folds.{list_all-append}
use Rattle.std.proofs.lemmas.Option.{some_pair_parts}
use Rattle.pfs_text.specs.declared.conditions.Comparison.{Comparison}
use Rattle.pfs_text.specs.declared.conditions.Comparison.TheVariants.{Equal, Unequal, Less, AtMost, Greater, AtLeast}
use Rattle.pfs_text.specs.QuotedTexts.{quoted}
use Rattle.pfs_sql.specs.declared.token.Token.{Token}
use Rattle.pfs_sql.specs.declared.token.Token.TheVariants.{Word, Quoted, Compares, Comma, Open, Close, Star, Semicolon}
use Rattle.pfs_sql.specs.Tokens.{is_blank, is_word_byte, IsSign, IsToken, goes_on, EndsAt, Begins, AreTokens}
use Rattle.pfs_sql.specs.TokenReaders.{◌>>=◌, Fails}
use Rattle.pfs_sql.specs.Grammar.{Refuses}
use Rattle.pfs_sql.specs.declared.faults.SqlFault.{SqlFault}
use Rattle.pfs_sql.specs.declared.faults.SqlFault.TheVariants as faults
use Rattle.pfs_sql.specs.TextCuts.{inside_of, quoted_of, word_of, less_of, greater_of, unequal_of, sign_of, mark_of, token_of}
use Rattle.pfs_sql.proofs.QuotedTexts.{inside_takes, inside_again}

-- which way a test went
chosen : {A : Type 0} (b : Bool) (x y z : A) → cond b x y ≡ z → ((b ≡ true) × (x ≡ z)) ⊎ ((b ≡ false) × (y ≡ z))
chosen true x y z e = inl (refl, e)
chosen false x y z e = inr (refl, e)

bound : {A B : Type 0} (r : Option A) (f : A → Option B) (y : B) → (r >>= f) ≡ Some y → (x : A) × (r ≡ Some x) × (f x ≡ Some y)
bound (Some x) f y e = (x, refl, e)
bound None f y e = absurd cc

-- the same token with the same rest
moved : (t token : Token) (r rest bytes : List ℕ) → ◌≡◌ {A = Option (Token × List ℕ)} (Some (t, r)) (Some (token, rest)) → Begins t bytes r → Begins token bytes rest
moved t token r rest bytes e h =
    let p = some_pair_parts t token r rest e in
    subst (λ (x : Token). Begins x bytes rest) p.0 (subst (λ (x : List ℕ). Begins t bytes x) p.1 h)

never_goes_on : (t : Token) → ((c : ℕ) → goes_on t c ≡ false) → (bytes : List ℕ) → EndsAt t bytes
never_goes_on t h [] = tt
never_goes_on t h (c ∷ bytes) = h c

one_mark : (t : Token) (k b : ℕ) (bytes : List ℕ) → IsToken t (k ∷ []) → EndsAt t bytes → eqb b k ≡ true → Begins t (b ∷ bytes) bytes
one_mark t k b bytes is ends e = (k ∷ [], is, ap (λ (x : ℕ). x ∷ bytes) (eqb-true b k e), ends)

two_marks : (t : Token) (k l b c : ℕ) (bytes : List ℕ) → IsToken t (k ∷ l ∷ []) → EndsAt t bytes → eqb b k ≡ true → eqb c l ≡ true → Begins t (b ∷ c ∷ bytes) bytes
two_marks t k l b c bytes is ends e f = (k ∷ l ∷ [], is, rw (eqb-true b k e, eqb-true c l f) refl, ends)

-- ---- runs of one class of bytes

abbrev Stops : (ℕ → Bool) → List ℕ → Type 0
Stops p [] = Unit {0}
Stops p (b ∷ bytes) = p b ≡ false

run_all : (p : ℕ → Bool) (bytes : List ℕ) → list_all p (take (prefix_len p bytes) bytes) ≡ true
run_all p [] = refl
run_all p (b ∷ bytes) =
    elim (cases_Bool (p b)) [
      | inl t ↦ let n : 1 + prefix_len p bytes ≡ suc (prefix_len p bytes) = omega arith in rw (t, n, run_all p bytes) (rw t refl)
      | inr t ↦ rw t refl
    ]

run_stops : (p : ℕ → Bool) (bytes : List ℕ) → Stops p (drop (prefix_len p bytes) bytes)
run_stops p [] = tt
run_stops p (b ∷ bytes) =
    elim (cases_Bool (p b)) [
      | inl t ↦ let n : 1 + prefix_len p bytes ≡ suc (prefix_len p bytes) = omega arith in rw (t, n) (run_stops p bytes)
      | inr t ↦ rw t t
    ]

run_is : (p : ℕ → Bool) (front rest : List ℕ) → list_all p front ≡ true → Stops p rest → prefix_len p (front ++ rest) ≡ length front
run_is p [] [] all stops = refl
run_is p [] (b ∷ rest) all stops = rw stops refl
run_is p (b ∷ front) rest all stops =
    let both = and_parts (p b) (list_all p front) all in
    rw (both.0, run_is p front rest both.1 stops) (omega arith)

word_ends : (word bytes : List ℕ) → Stops is_word_byte bytes → EndsAt (Word word) bytes
word_ends word [] h = h
word_ends word (b ∷ bytes) h = h

word_stops : (word bytes : List ℕ) → EndsAt (Word word) bytes → Stops is_word_byte bytes
word_stops word [] h = h
word_stops word (b ∷ bytes) h = h

word_begins : (b : ℕ) (bytes : List ℕ) → is_word_byte b ≡ true → Begins (Word (take (prefix_len is_word_byte (b ∷ bytes)) (b ∷ bytes))) (b ∷ bytes) (drop (prefix_len is_word_byte (b ∷ bytes)) (b ∷ bytes))
word_begins b bytes t =
    let n = prefix_len is_word_byte (b ∷ bytes) in
    let n-is : prefix_len is_word_byte (b ∷ bytes) ≡ suc (prefix_len is_word_byte bytes) = rw t (omega arith) in
    let some : 0 < length (take (prefix_len is_word_byte (b ∷ bytes)) (b ∷ bytes)) = rw n-is (omega arith) in
    (take n (b ∷ bytes), (refl, some, run_all is_word_byte (b ∷ bytes)), sym (take-append-drop n (b ∷ bytes)), word_ends (take n (b ∷ bytes)) (drop n (b ∷ bytes)) (run_stops is_word_byte (b ∷ bytes)))

-- ---- what is read

signed : (c d : Comparison) (r rest bytes : List ℕ) → ◌≡◌ {A = Option (Comparison × List ℕ)} (Some (c, r)) (Some (d, rest)) → Begins (Compares c) bytes r → Begins (Compares d) bytes rest
signed c d r rest bytes e h =
    let p = some_pair_parts c d r rest e in
    subst (λ (x : Comparison). Begins (Compares x) bytes rest) p.0 (subst (λ (x : List ℕ). Begins (Compares c) bytes x) p.1 h)

less_takes : (b : ℕ) (bytes : List ℕ) (c : Comparison) (rest : List ℕ) → eqb b 60 ≡ true → less_of bytes ≡ Some (c, rest) → Begins (Compares c) (b ∷ bytes) rest
less_takes b [] c rest t e = signed Less c [] rest (b ∷ []) e (one_mark (Compares Less) 60 b [] refl tt t)
less_takes b (d ∷ bytes) c rest t e =
    elim (chosen (eqb d 62) (Some (Unequal, bytes)) (cond (eqb d 61) (Some (AtMost, bytes)) (Some (Less, d ∷ bytes))) (Some (c, rest)) e) [
      | inl x ↦ signed Unequal c bytes rest (b ∷ d ∷ bytes) x.1 (two_marks (Compares Unequal) 60 62 b d bytes (inl refl) (never_goes_on (Compares Unequal) (λ k. refl) bytes) t x.0)
      | inr x ↦ elim (chosen (eqb d 61) (Some (AtMost, bytes)) (Some (Less, d ∷ bytes)) (Some (c, rest)) x.1) [
        | inl y ↦ signed AtMost c bytes rest (b ∷ d ∷ bytes) y.1 (two_marks (Compares AtMost) 60 61 b d bytes refl (never_goes_on (Compares AtMost) (λ k. refl) bytes) t y.0)
        | inr y ↦ signed Less c (d ∷ bytes) rest (b ∷ d ∷ bytes) y.1 (one_mark (Compares Less) 60 b (d ∷ bytes) refl (rw (y.0, x.0) refl) t)
      ]
    ]

greater_takes : (b : ℕ) (bytes : List ℕ) (c : Comparison) (rest : List ℕ) → eqb b 62 ≡ true → greater_of bytes ≡ Some (c, rest) → Begins (Compares c) (b ∷ bytes) rest
greater_takes b [] c rest t e = signed Greater c [] rest (b ∷ []) e (one_mark (Compares Greater) 62 b [] refl tt t)
greater_takes b (d ∷ bytes) c rest t e =
    elim (chosen (eqb d 61) (Some (AtLeast, bytes)) (Some (Greater, d ∷ bytes)) (Some (c, rest)) e) [
      | inl y ↦ signed AtLeast c bytes rest (b ∷ d ∷ bytes) y.1 (two_marks (Compares AtLeast) 62 61 b d bytes refl (never_goes_on (Compares AtLeast) (λ k. refl) bytes) t y.0)
      | inr y ↦ signed Greater c (d ∷ bytes) rest (b ∷ d ∷ bytes) y.1 (one_mark (Compares Greater) 62 b (d ∷ bytes) refl y.0 t)
    ]

unequal_takes : (b : ℕ) (bytes : List ℕ) (c : Comparison) (rest : List ℕ) → eqb b 33 ≡ true → unequal_of bytes ≡ Some (c, rest) → Begins (Compares c) (b ∷ bytes) rest
unequal_takes b [] c rest t e = absurd cc
unequal_takes b (d ∷ bytes) c rest t e =
    elim (chosen (eqb d 61) (Some (Unequal, bytes)) None (Some (c, rest)) e) [
      | inl y ↦ signed Unequal c bytes rest (b ∷ d ∷ bytes) y.1 (two_marks (Compares Unequal) 33 61 b d bytes (inr refl) (never_goes_on (Compares Unequal) (λ k. refl) bytes) t y.0)
      | inr y ↦ let none = y.1 in absurd cc
    ]

sign_takes : (bytes : List ℕ) (c : Comparison) (rest : List ℕ) → sign_of bytes ≡ Some (c, rest) → Begins (Compares c) bytes rest
sign_takes [] c rest e = absurd cc
sign_takes (b ∷ bytes) c rest e =
    elim (chosen (eqb b 61) (Some (Equal, bytes)) _ (Some (c, rest)) e) [
      | inl x ↦ signed Equal c bytes rest (b ∷ bytes) x.1 (one_mark (Compares Equal) 61 b bytes refl (never_goes_on (Compares Equal) (λ k. refl) bytes) x.0)
      | inr x ↦ elim (chosen (eqb b 33) (unequal_of bytes) _ (Some (c, rest)) x.1) [
        | inl y ↦ unequal_takes b bytes c rest y.0 y.1
        | inr y ↦ elim (chosen (eqb b 60) (less_of bytes) _ (Some (c, rest)) y.1) [
          | inl z ↦ less_takes b bytes c rest z.0 z.1
          | inr z ↦ elim (chosen (eqb b 62) (greater_of bytes) None (Some (c, rest)) z.1) [
            | inl u ↦ greater_takes b bytes c rest u.0 u.1
            | inr u ↦ let none = u.1 in absurd cc
          ]
        ]
      ]
    ]

mark_takes : (b : ℕ) (bytes : List ℕ) (t : Token) (rest : List ℕ) → mark_of (b ∷ bytes) ≡ Some (t, rest) → Begins t (b ∷ bytes) rest
mark_takes b bytes t rest e =
    elim (chosen (eqb b 44) (Some (Comma, bytes)) _ (Some (t, rest)) e) [
      | inl x ↦ moved Comma t bytes rest (b ∷ bytes) x.1 (one_mark Comma 44 b bytes refl (never_goes_on Comma (λ k. refl) bytes) x.0)
      | inr x ↦ elim (chosen (eqb b 40) (Some (Open, bytes)) _ (Some (t, rest)) x.1) [
        | inl y ↦ moved Open t bytes rest (b ∷ bytes) y.1 (one_mark Open 40 b bytes refl (never_goes_on Open (λ k. refl) bytes) y.0)
        | inr y ↦ elim (chosen (eqb b 41) (Some (Close, bytes)) _ (Some (t, rest)) y.1) [
          | inl z ↦ moved Close t bytes rest (b ∷ bytes) z.1 (one_mark Close 41 b bytes refl (never_goes_on Close (λ k. refl) bytes) z.0)
          | inr z ↦ elim (chosen (eqb b 42) (Some (Star, bytes)) _ (Some (t, rest)) z.1) [
            | inl u ↦ moved Star t bytes rest (b ∷ bytes) u.1 (one_mark Star 42 b bytes refl (never_goes_on Star (λ k. refl) bytes) u.0)
            | inr u ↦ elim (chosen (eqb b 59) (Some (Semicolon, bytes)) _ (Some (t, rest)) u.1) [
              | inl v ↦ moved Semicolon t bytes rest (b ∷ bytes) v.1 (one_mark Semicolon 59 b bytes refl (never_goes_on Semicolon (λ k. refl) bytes) v.0)
              | inr v ↦
                  let s = bound (sign_of (b ∷ bytes)) (λ x. Some (Compares x.0, x.1)) (t, rest) v.1 in
                  moved (Compares s.0.0) t s.0.1 rest (b ∷ bytes) s.2 (sign_takes (b ∷ bytes) s.0.0 s.0.1 s.1)
            ]
          ]
        ]
      ]
    ]

quoted_ends : (text : List ℕ) (rest : List ℕ) → EndsAt (Quoted text) rest → EndsAt (Quoted []) rest
quoted_ends text [] h = h
quoted_ends text (b ∷ rest) h = h

pub token_takes : (bytes : List ℕ) (t : Token) (rest : List ℕ) → token_of bytes ≡ Some (t, rest) → Begins t bytes rest
unfolding token_of
token_takes [] t rest e = absurd cc
token_takes (b ∷ bytes) t rest e =
    elim (chosen (eqb b 39) (quoted_of bytes) _ (Some (t, rest)) e) [
      | inl x ↦
          let q = bound (inside_of bytes) (λ y. Some (Quoted y.0, y.1)) (t, rest) x.1 in
          let i = inside_takes bytes q.0.0 q.0.1 q.1 in
          moved (Quoted q.0.0) t q.0.1 rest (b ∷ bytes) q.2 (quoted q.0.0, refl, ap (λ (k : ℕ). k ∷ bytes) (eqb-true b 39 x.0) ∙ ap (λ (l : List ℕ). 39 ∷ l) i.0, i.1)
      | inr x ↦ elim (chosen (is_word_byte b) (word_of (b ∷ bytes)) (mark_of (b ∷ bytes)) (Some (t, rest)) x.1) [
        | inl y ↦ moved _ t _ rest (b ∷ bytes) y.1 (word_begins b bytes y.0)
        | inr y ↦ mark_takes b bytes t rest y.1
      ]
    ]

-- ---- what stands there is read

no_quote : (b : ℕ) → is_word_byte b ≡ true → eqb b 39 ≡ false
no_quote b t = ne_eqb b 39 (λ e. let f : is_word_byte 39 ≡ true = subst (λ (k : ℕ). is_word_byte k ≡ true) e t in absurd cc)

word_again : (word rest : List ℕ) → 0 < length word → list_all is_word_byte word ≡ true → EndsAt (Word word) rest → token_of (word ++ rest) ≡ Some (Word word, rest)
unfolding token_of
word_again [] rest some all ends = absurd (omega arith)
word_again (b ∷ word) rest some all ends =
    let both = and_parts (is_word_byte b) (list_all is_word_byte word) all in
    let n : prefix_len is_word_byte ((b ∷ word) ++ rest) ≡ length (b ∷ word) = run_is is_word_byte (b ∷ word) rest all (word_stops (b ∷ word) rest ends) in
    let read : word_of ((b ∷ word) ++ rest) ≡ Some (Word (b ∷ word), rest) =
    ap (λ (k : ℕ). Some (Word (take k ((b ∷ word) ++ rest)), drop k ((b ∷ word) ++ rest))) n
    ∙ rw (take_at (b ∷ word) rest (length (b ∷ word)) refl, drop_at (b ∷ word) rest (length (b ∷ word)) refl) refl in
    let q : eqb b 39 ≡ false = no_quote b both.0 in
    let w : is_word_byte b ≡ true = both.0 in
    ap (λ (t : Bool). cond t (quoted_of (word ++ rest)) (cond (is_word_byte b) (word_of ((b ∷ word) ++ rest)) (mark_of ((b ∷ word) ++ rest)))) q
    ∙ ap (λ (t : Bool). cond t (word_of ((b ∷ word) ++ rest)) (mark_of ((b ∷ word) ++ rest))) w ∙ read

quoted_again : (text rest : List ℕ) → EndsAt (Quoted text) rest → token_of (quoted text ++ rest) ≡ Some (Quoted text, rest)
unfolding token_of
quoted_again text rest ends = ap (λ (r : Option (List ℕ × List ℕ)). r >>= λ x. Some (Quoted x.0, x.1)) (inside_again text rest (quoted_ends text rest ends))

less_again : (rest : List ℕ) → EndsAt (Compares Less) rest → token_of (60 ∷ rest) ≡ Some (Compares Less, rest)
unfolding token_of
less_again [] h = refl
less_again (b ∷ rest) h =
    let p = or_parts (eqb b 61) (eqb b 62) h in
    rw (p.1, p.0) refl

greater_again : (rest : List ℕ) → EndsAt (Compares Greater) rest → token_of (62 ∷ rest) ≡ Some (Compares Greater, rest)
unfolding token_of
greater_again [] h = refl
greater_again (b ∷ rest) h = rw h refl

sign_again : (c : Comparison) (front rest : List ℕ) → IsSign c front → EndsAt (Compares c) rest → token_of (front ++ rest) ≡ Some (Compares c, rest)
unfolding token_of
sign_again Equal front rest is ends = ap (λ f. token_of (f ++ rest)) is
sign_again Unequal front rest (inl is) ends = ap (λ f. token_of (f ++ rest)) is
sign_again Unequal front rest (inr is) ends = ap (λ f. token_of (f ++ rest)) is
sign_again Less front rest is ends = ap (λ f. token_of (f ++ rest)) is ∙ less_again rest ends
sign_again AtMost front rest is ends = ap (λ f. token_of (f ++ rest)) is
sign_again Greater front rest is ends = ap (λ f. token_of (f ++ rest)) is ∙ greater_again rest ends
sign_again AtLeast front rest is ends = ap (λ f. token_of (f ++ rest)) is

front_again : (t : Token) (front rest : List ℕ) → IsToken t front → EndsAt t rest → token_of (front ++ rest) ≡ Some (t, rest)
unfolding token_of
front_again (Word word) front rest is ends = ap (λ f. token_of (f ++ rest)) is.0 ∙ word_again word rest is.1 is.2 ends
front_again (Quoted text) front rest is ends = ap (λ f. token_of (f ++ rest)) is ∙ quoted_again text rest ends
front_again (Compares c) front rest is ends = sign_again c front rest is ends
front_again Comma front rest is ends = ap (λ f. token_of (f ++ rest)) is
front_again Open front rest is ends = ap (λ f. token_of (f ++ rest)) is
front_again Close front rest is ends = ap (λ f. token_of (f ++ rest)) is
front_again Star front rest is ends = ap (λ f. token_of (f ++ rest)) is
front_again Semicolon front rest is ends = ap (λ f. token_of (f ++ rest)) is

pub token_again : (bytes : List ℕ) (t : Token) (rest : List ℕ) → Begins t bytes rest → token_of bytes ≡ Some (t, rest)
token_again bytes t rest h = ap token_of h.2 ∙ front_again t h.0 rest h.1 h.3

-- ---- the whole text

abbrev pub skip : List ℕ → List ℕ
skip bytes = drop (prefix_len is_blank bytes) bytes

no_blank : (b : ℕ) (bytes : List ℕ) (t : Token) (rest : List ℕ) → token_of (b ∷ bytes) ≡ Some (t, rest) → is_blank b ≡ false
unfolding token_of
no_blank b bytes t rest e =
    elim (cases_Bool (is_blank b)) [
      | inr f ↦ f
      | inl x ↦ elim (or_cases (eqb b 32) (eqb b 9) x) [
        | inl y ↦ let f : token_of (32 ∷ bytes) ≡ Some (t, rest) = subst (λ (k : ℕ). token_of (k ∷ bytes) ≡ Some (t, rest)) (eqb-true b 32 y) e in absurd cc
        | inr y ↦ let f : token_of (9 ∷ bytes) ≡ Some (t, rest) = subst (λ (k : ℕ). token_of (k ∷ bytes) ≡ Some (t, rest)) (eqb-true b 9 y) e in absurd cc
      ]
    ]

token_stops : (bytes : List ℕ) (t : Token) (rest : List ℕ) → token_of bytes ≡ Some (t, rest) → Stops is_blank bytes
token_stops [] t rest e = tt
token_stops (b ∷ bytes) t rest e = no_blank b bytes t rest e

-- the first token, behind the blanks
pub first_token : (text : List ℕ) (t : Token) (ts : List Token) → AreTokens text (t ∷ ts) → (rest : List ℕ) × (token_of (skip text) ≡ Some (t, rest)) × AreTokens rest ts
first_token text t ts h =
    let blanks = h.0 in
    let bytes = h.1 in
    let rest = h.2 in
    let read = token_again bytes t rest h.5 in
    let n : prefix_len is_blank (blanks ++ bytes) ≡ length blanks = run_is is_blank blanks bytes h.3 (token_stops bytes t rest read) in
    let skipped : skip text ≡ bytes = ap skip h.4 ∙ ap (λ (k : ℕ). drop k (blanks ++ bytes)) n ∙ drop_at blanks bytes (length blanks) refl in
    (rest, ap token_of skipped ∙ read, h.6)

skip_blank : (text : List ℕ) → list_all is_blank text ≡ true → skip text ≡ []
skip_blank [] h = refl
skip_blank (b ∷ text) h =
    let both = and_parts (is_blank b) (list_all is_blank text) h in
    let n : 1 + prefix_len is_blank text ≡ suc (prefix_len is_blank text) = omega arith in
    rw (both.0, n) (skip_blank text both.1)

pub no_token : (text : List ℕ) → AreTokens text [] → token_of (skip text) ≡ None
unfolding token_of
no_token text h = ap token_of (skip_blank text h)

-- the tokens behind the blanks are those of the text
skip_found : (text : List ℕ) (t : Token) (rest : List ℕ) (ts : List Token) → token_of (skip text) ≡ Some (t, rest) → AreTokens rest ts → AreTokens text (t ∷ ts)
skip_found text t rest ts e h =
    let n = prefix_len is_blank text in
    (take n text, skip text, rest, run_all is_blank text, sym (take-append-drop n text), token_takes (skip text) t rest e, h)

end_found : (text : List ℕ) → skip text ≡ [] → AreTokens text []
end_found text e =
    let n = prefix_len is_blank text in
    let whole : take n text ≡ text = sym (append-nil (take n text)) ∙ ap (λ (r : List ℕ). take n text ++ r) (sym e) ∙ take-append-drop n text in
    subst (λ (x : List ℕ). list_all is_blank x ≡ true) whole (run_all is_blank text)

-- a text is these tokens alone
pub one_cut : (text : List ℕ) (a b : List Token) → AreTokens text a → AreTokens text b → a ≡ b
one_cut text [] [] p q = refl
one_cut text [] (u ∷ us) p q =
    let e = sym (no_token text p) ∙ (first_token text u us q).1 in absurd cc
one_cut text (t ∷ ts) [] p q =
    let e = sym (no_token text q) ∙ (first_token text t ts p).1 in absurd cc
one_cut text (t ∷ ts) (u ∷ us) p q =
    let x = first_token text t ts p in
    let y = first_token text u us q in
    let e = some_pair_parts t u x.0 y.0 (sym x.1 ∙ y.1) in
    let more = one_cut x.0 ts us x.2 (subst (λ (r : List ℕ). AreTokens r us) (sym e.1) y.2) in
    ap (λ (k : Token). k ∷ ts) e.0 ∙ ap (λ (ks : List Token). u ∷ ks) more

-- the tokens so far, and the rest behind blanks, are all that the text is
pub record Cut (text : List ℕ) (tokens : List Token) (rest : List ℕ) : Type 0 where
  pub left : List ℕ
  pub rest_is : rest ≡ skip left
  pub found : (ts : List Token) → AreTokens left ts → AreTokens text (tokens ++ ts)
  pub only : (ts : List Token) → AreTokens text ts → (more : List Token) × (ts ≡ tokens ++ more) × AreTokens left more

only_more : (left : List ℕ) (t : Token) (behind : List ℕ) (ts : List Token) → token_of (skip left) ≡ Some (t, behind) → AreTokens left ts → (more : List Token) × (ts ≡ t ∷ more) × AreTokens behind more
only_more left t behind [] e h = let f = sym (no_token left h) ∙ e in absurd cc
only_more left t behind (u ∷ us) e h =
    let x = first_token left u us h in
    let p = some_pair_parts u t x.0 behind (sym x.1 ∙ e) in
    (us, ap (λ (k : Token). k ∷ us) p.0, subst (λ (r : List ℕ). AreTokens r us) p.1 x.2)

pub cut_more : (text : List ℕ) (tokens : List Token) (rest : List ℕ) (t : Token) (behind : List ℕ) → Cut text tokens rest → token_of rest ≡ Some (t, behind) → Cut text (tokens ++ t ∷ []) (skip behind)
cut_more text tokens rest t behind c e =
    let here : token_of (skip c.left) ≡ Some (t, behind) = ap token_of (sym c.rest_is) ∙ e in
    record {
      left = behind;
      rest_is = refl;
      found = λ ts h. subst (λ (x : List Token). AreTokens text x) (sym (append_assoc tokens (t ∷ []) ts)) (c.found (t ∷ ts) (skip_found c.left t behind ts here h));
      only = λ ts h.
          let o = c.only ts h in
          let m = only_more c.left t behind o.0 here o.2 in
          (m.0, o.1 ∙ ap (λ (x : List Token). tokens ++ x) m.1 ∙ sym (append_assoc tokens (t ∷ []) m.0), m.2);
    }

nothing_cut : (left : List ℕ) (ts : List Token) → 0 < length (skip left) → token_of (skip left) ≡ None → AreTokens left ts → ⊥
nothing_cut left [] some e h =
    let gone = ap (λ (r : List ℕ). length r) (skip_blank left h) in
    absurd (omega arith)
nothing_cut left (t ∷ ts) some e h = let f = sym e ∙ (first_token left t ts h).1 in absurd cc

pub cut_fails : (text : List ℕ) (tokens : List Token) (rest : List ℕ) → Cut text tokens rest → 0 < length rest → token_of rest ≡ None → (ts : List Token) → AreTokens text ts → ⊥
cut_fails text tokens rest c some e ts h =
    let o = c.only ts h in
    nothing_cut c.left o.0 (subst (λ (r : List ℕ). 0 < length r) c.rest_is some) (ap token_of (sym c.rest_is) ∙ e) o.2

pub cut_all : (text : List ℕ) (tokens : List Token) (rest : List ℕ) → Cut text tokens rest → length rest ≡ 0 → AreTokens text tokens
cut_all text tokens rest c none =
    let gone : skip c.left ≡ [] = nil_from_length (skip c.left) (ap (λ (r : List ℕ). length r) (sym c.rest_is) ∙ none) in
    subst (λ (x : List Token). AreTokens text x) (append-nil tokens) (c.found [] (end_found c.left gone))

pub refused : (fault : SqlFault) (text : List ℕ) (tokens : List Token) (rest : List ℕ) → Cut text tokens rest → 0 < length rest → Fails fault (token_of rest) → Refuses fault ((ts : List Token) → ¬ AreTokens text ts)
refused faults.NoMemory text tokens rest c some h = tt
refused (faults.Error error) text tokens rest c some h = (h.0, cut_fails text tokens rest c some h.1)

pub some_left : (n : ℕ) → eqb n 0 ≡ false → 0 < n
some_left n e =
    elim (cases_eq n 0) [
      | inl h ↦ let f : eqb 0 0 ≡ false = subst (λ (k : ℕ). eqb k 0 ≡ false) h e in absurd cc
      | inr h ↦ omega arith
    ]
