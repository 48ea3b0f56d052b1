-- Reading and spelling: what is read is spelled so, and what is spelled so is read.
use Rattle.std.proofs.Common.{◌≡◌, ℕ, zero, suc, ◌+◌, ◌≤◌, ◌<◌, Bool, true, false, List, [], ◌∷◌, ◌++◌, length, Option, Some, None, refl, sym, ap, subst, ◌∙◌, ⊎_elim, inl, inr, arith}
use Rattle.std.specs.Option.{option_map}
use Rattle.std.proofs.lemmas.Option.{some_pair_parts}
use Rattle.pfs_sql.specs.declared.token.Token.{Token}
use Rattle.pfs_sql.specs.Grammar.{Part, Piece, Passes, One, May, Is, Fits, each_behind, separated, clause, optional}
use Rattle.pfs_sql.specs.TokenReaders.{◌>>=◌, Reader, after, given, choose, one, with_front, many, items_at, clause_at, optionally, behind, before}
use Rattle.pfs_sql.proofs.ItemLists.{given_is, after_shorter}

-- the value of a step that did not fail
pub bind_some : {A B : Type 0} (r : Option A) (f : A → Option B) (y : B) → (r >>= f) ≡ Some y → (x : A) × (r ≡ Some x) × (f x ≡ Some y)
bind_some (Some x) f y e = (x, refl, e)
bind_some None f y e = absurd cc

-- the parts of a pair that is the same
pub pair_parts : {A : Type 0} (a x : A) (b y : List Token) → ◌≡◌ {A = Option (A × List Token)} (Some (a, b)) (Some (x, y)) → (a ≡ x) × (b ≡ y)
pair_parts a x b y e = some_pair_parts a x b y e

pub rest_part : {A : Type 0} (a x : A) (b y : List Token) → ◌≡◌ {A = Option (A × List Token)} (Some (a, b)) (Some (x, y)) → b ≡ y
rest_part a x b y e = (some_pair_parts a x b y e).1

-- no token that passes begins what has these pieces
abbrev pub Avoids : (Token → Bool) → List Piece → Type 0
Avoids test tail = (tokens : List Token) → Fits tail tokens → after test tokens ≡ None

-- no token passes both
abbrev pub Apart : (Token → Bool) → (Token → Bool) → Type 0
Apart p q = (token : Token) → p token ≡ true → q token ≡ false

-- one token that passes, and what follows
pub key_takes : (p : Token → Bool) (tokens rest : List Token) (tail : List Piece) → after p tokens ≡ Some rest → Fits tail rest → Fits (One (Passes p) ∷ tail) tokens
key_takes p [] rest tail e h = absurd cc
key_takes p (token ∷ tokens) rest tail e h =
    let g = given_is (p token) tokens rest e in
    (g.0, subst (λ ts. Fits tail ts) (sym g.1) h)

pub key_again : (p : Token → Bool) (tokens : List Token) (tail : List Piece) → Fits (One (Passes p) ∷ tail) tokens → (rest : List Token) × (after p tokens ≡ Some rest) × Fits tail rest
key_again p [] tail h = absurd h
key_again p (token ∷ tokens) tail h = (tokens, rw h.0 refl, h.1)

none_given : (b : Bool) (tokens : List Token) → b ≡ false → given b tokens ≡ None
none_given b tokens e = rw e refl

pub avoids_one : (p q : Token → Bool) (tail : List Piece) → Apart p q → Avoids q (One (Passes p) ∷ tail)
avoids_one p q tail apart [] h = absurd h
avoids_one p q tail apart (token ∷ tokens) h = none_given (q token) tokens (apart token h.0)

pub avoids_end : (p q : Token → Bool) → Apart p q → Avoids q (May (Passes p) ∷ [])
avoids_end p q apart [] h = refl
avoids_end p q apart (token ∷ tokens) (inl h) = none_given (q token) tokens (apart token h.0)
avoids_end p q apart (token ∷ tokens) (inr h) = absurd h

pub avoids_clause : {X : Type 0} (p q : Token → Bool) (items : List X → List Piece → List Piece) (xs : List X) (tail : List Piece) → Apart p q → Avoids q tail → Avoids q (clause p items xs tail)
avoids_clause p q items [] tail apart h = h
avoids_clause p q items (x ∷ xs) tail apart h = avoids_one p q (items (x ∷ xs) tail) apart

pub avoids_optional : {X : Type 0} (p q : Token → Bool) (item : X → List Piece → List Piece) (o : Option X) (tail : List Piece) → Apart p q → Avoids q tail → Avoids q (optional p item o tail)
avoids_optional p q item None tail apart h = h
avoids_optional p q item (Some x) tail apart h = avoids_one p q (item x tail) apart

-- a reader and a spelling that agree, where what follows is as `Closes` says
pub record Exact {X : Type 0} (read : Reader X) (spell : X → List Piece → List Piece) (Closes : List Piece → Type 0) : Type 0 where
  pub takes : (tokens : List Token) (x : X) (rest : List Token) (tail : List Piece) → read tokens ≡ Some (x, rest) → Fits tail rest → Fits (spell x tail) tokens
  pub again : (tokens : List Token) (x : X) (tail : List Piece) → Closes tail → Fits (spell x tail) tokens → (rest : List Token) × (read tokens ≡ Some (x, rest)) × Fits tail rest

abbrev pub Always : List Piece → Type 0
Always tail = Unit {0}

-- what a reader leaves is shorter
abbrev pub Shortens : {X : Type 0} → Reader X → Type 0
Shortens {X} read = (tokens : List Token) (x : X) (rest : List Token) → read tokens ≡ Some (x, rest) → length rest < length tokens

abbrev behind_it : {X : Type 0} → Option X → List Token → Option (X × List Token)
behind_it {X} o tokens = option_map {U = X × List Token} (λ y. (y, tokens)) o

pub mapped_some : {X : Type 0} (o : Option X) (tokens : List Token) (x : X) (rest : List Token) → behind_it o tokens ≡ Some (x, rest) → (o ≡ Some x) × (tokens ≡ rest)
mapped_some (Some y) tokens x rest e =
    let p = pair_parts y x tokens rest e in
    (ap Some p.0, p.1)
mapped_some None tokens x rest e = absurd cc

pub one_exact : {X : Type 0} (f : Token → Option X) (part : X → Part) → ((x : X) (token : Token) → Is (part x) token → f token ≡ Some x) → ((x : X) (token : Token) → f token ≡ Some x → Is (part x) token)
    → Exact (one f) (λ x tail. One (part x) ∷ tail) Always
one_exact {X} f part to back = record { takes = one_takes; again = one_again }
  where
    one_takes : (tokens : List Token) (x : X) (rest : List Token) (tail : List Piece) → one f tokens ≡ Some (x, rest) → Fits tail rest → Fits (One (part x) ∷ tail) tokens
    one_takes [] x rest tail e h = absurd cc
    one_takes (token ∷ tokens) x rest tail e h =
        let m = mapped_some (f token) tokens x rest e in
        (back x token m.0, subst (λ ts. Fits tail ts) (sym m.1) h)

    one_again : (tokens : List Token) (x : X) (tail : List Piece) → Always tail → Fits (One (part x) ∷ tail) tokens → (rest : List Token) × (one f tokens ≡ Some (x, rest)) × Fits tail rest
    one_again [] x tail a h = absurd h
    one_again (token ∷ tokens) x tail a h = (tokens, rw (to x token h.0) refl, h.1)

pub one_shortens : {X : Type 0} (f : Token → Option X) → Shortens (one f)
one_shortens f [] x rest e = absurd cc
one_shortens f (token ∷ tokens) x rest e =
    let m = mapped_some (f token) tokens x rest e in
    rw (← m.1) (omega arith)

-- what is read behind a front is read, with the front before it
with_front_some : {X : Type 0} (x : X) (r : Option (List X × List Token)) (xs : List X) (rest : List Token) → with_front (x ∷ []) r ≡ Some (xs, rest) → (ys : List X) × (r ≡ Some (ys, rest)) × (xs ≡ x ∷ ys)
with_front_some x (Some y) xs rest e =
    let p = pair_parts (x ∷ y.0) xs y.1 rest e in
    (y.0, ap (λ (r : List Token). Some (y.0, r)) p.1, sym p.0)
with_front_some x None xs rest e = absurd cc

module _ {X : Type 0} (separator : Token → Bool) (read : Reader X) (spell : X → List Piece → List Piece) (Closes : List Piece → Type 0) (exact : Exact read spell Closes) where
  behind_one : (ys : List X) (tail : List Piece) (behind more : List Token) → after separator behind ≡ Some more → Fits (separated separator spell ys tail) more → Fits (each_behind separator spell ys tail) behind
  behind_one [] tail behind [] e h = absurd h
  behind_one [] tail behind (token ∷ more) e h = absurd h.0
  behind_one (y ∷ ys) tail behind more e h = key_takes separator behind more (spell y (each_behind separator spell ys tail)) e h

  -- what is read after one item
  takes_by : (tokens : List Token) (x : X) (behind : List Token) (next : Option (List Token)) (reading : Reader (List X)) → after separator behind ≡ next → (xs : List X) (rest : List Token) (tail : List Piece)
      → read tokens ≡ Some (x, behind) → choose next (λ more. with_front (x ∷ []) (reading more)) (Some (x ∷ [], behind)) ≡ Some (xs, rest) → Fits tail rest
      → ((more : List Token) (ys : List X) → reading more ≡ Some (ys, rest) → Fits (separated separator spell ys tail) more) → Fits (separated separator spell xs tail) tokens
  takes_by tokens x behind None reading n xs rest tail here e h others =
      let parts = pair_parts (x ∷ []) xs behind rest e in
      let xs-is : x ∷ [] ≡ xs = parts.0 in
      let rest-is : behind ≡ rest = parts.1 in
      subst (λ zs. Fits (separated separator spell zs tail) tokens) xs-is (exact.takes tokens x behind tail here (subst (λ ts. Fits tail ts) (sym rest-is) h))
  takes_by tokens x behind (Some more) reading n xs rest tail here e h others =
      let w = with_front_some x (reading more) xs rest e in
      let fits = exact.takes tokens x behind (each_behind separator spell w.0 tail) here (behind_one w.0 tail behind more n (others more w.0 w.1)) in
      subst (λ zs. Fits (separated separator spell zs tail) tokens) (sym w.2) fits

  pub takes_for : (most : ℕ) (tokens : List Token) (xs : List X) (rest : List Token) (tail : List Piece) → many separator read most tokens ≡ Some (xs, rest) → Fits tail rest → Fits (separated separator spell xs tail) tokens
  unfolding many
  takes_for zero tokens xs rest tail e h = absurd cc
  takes_for (suc most) tokens xs rest tail e h =
      let b = bind_some (read tokens) (λ x. choose (after separator x.1) (λ more. with_front (x.0 ∷ []) (many separator read most more)) (Some (x.0 ∷ [], x.1))) (xs, rest) e in
      takes_by tokens b.0.0 b.0.1 (after separator b.0.1) (many separator read most) refl xs rest tail b.1 b.2 h (λ more ys f. takes_for most more ys rest tail f h)

  module _ (shortens : Shortens read) (goes_on : (tail : List Piece) → Closes (One (Passes separator) ∷ tail)) where
    pub again_for : (most : ℕ) (tokens : List Token) (xs : List X) (tail : List Piece) → length tokens ≤ most → Closes tail → Avoids separator tail → Fits (separated separator spell xs tail) tokens
        → (rest : List Token) × (many separator read most tokens ≡ Some (xs, rest)) × Fits tail rest
    unfolding many
    again_for most [] [] tail le closes avoids h = absurd h
    again_for most (token ∷ tokens) [] tail le closes avoids h = absurd h.0
    again_for zero tokens (x ∷ []) tail le closes avoids h =
        let a = exact.again tokens x tail closes h in
        let less = shortens tokens x a.0 a.1 in
        absurd (omega arith)
    again_for zero tokens (x ∷ y ∷ zs) tail le closes avoids h =
        let a = exact.again tokens x (each_behind separator spell (y ∷ zs) tail) (goes_on _) h in
        let less = shortens tokens x a.0 a.1 in
        absurd (omega arith)
    again_for (suc most) tokens (x ∷ []) tail le closes avoids h =
        let a = exact.again tokens x tail closes h in
        (a.0, rw (a.1, avoids a.0 a.2) refl, a.2)
    again_for (suc most) tokens (x ∷ y ∷ zs) tail le closes avoids h =
        let a = exact.again tokens x (each_behind separator spell (y ∷ zs) tail) (goes_on _) h in
        let less = shortens tokens x a.0 a.1 in
        let k = key_again separator a.0 (spell y (each_behind separator spell zs tail)) a.2 in
        let less2 = after_shorter separator a.0 k.0 k.1 in
        let r = again_for most k.0 (y ∷ zs) tail (omega arith) closes avoids k.2 in
        (r.0, rw (a.1, k.1, r.1) refl, r.2)

-- a list of items
pub items_exact : {X : Type 0} (separator : Token → Bool) (read : Reader X) (spell : X → List Piece → List Piece) (Closes : List Piece → Type 0) → Exact read spell Closes → Shortens read → ((tail : List Piece) → Closes (One (Passes separator) ∷ tail))
    → Exact (items_at separator read) (separated separator spell) (λ tail. Closes tail × Avoids separator tail)
items_exact separator read spell Closes exact shortens goes_on = record {
  takes = λ tokens xs rest tail e h. takes_for separator read spell Closes exact (length tokens) tokens xs rest tail e h;
  again = λ tokens xs tail c h. again_for separator read spell Closes exact shortens goes_on (length tokens) tokens xs tail (omega arith) c.0 c.1 h;
}

-- either of two readings
pub choose_some : {A B P : Type 0} (o : Option A) (f : A → Option B) (d : Option B) (y : B) → choose o f d ≡ Some y → ((x : A) → o ≡ Some x → f x ≡ Some y → P) → (o ≡ None → d ≡ Some y → P) → P
choose_some (Some x) f d y e found missing = found x refl e
choose_some None f d y e found missing = missing refl e

-- a clause that may be left out
pub clause_exact : {X : Type 0} (begins : Token → Bool) (read : Reader (List X)) (spell : List X → List Piece → List Piece) (Closes : List Piece → Type 0) → Exact read spell Closes
    → ((tail : List Piece) (tokens : List Token) → Fits (spell [] tail) tokens → ⊥) → Exact (clause_at begins read) (clause begins spell) (λ tail. Closes tail × Avoids begins tail)
clause_exact {X} begins read spell Closes exact some = record { takes = clause_takes; again = clause_again }
  where
    filled : (xs : List X) (tokens more : List Token) (tail : List Piece) → after begins tokens ≡ Some more → Fits (spell xs tail) more → Fits (clause begins spell xs tail) tokens
    filled [] tokens more tail n h = absurd (some tail more h)
    filled (x ∷ xs) tokens more tail n h = key_takes begins tokens more (spell (x ∷ xs) tail) n h

    clause_takes : (tokens : List Token) (xs : List X) (rest : List Token) (tail : List Piece) → clause_at begins read tokens ≡ Some (xs, rest) → Fits tail rest → Fits (clause begins spell xs tail) tokens
    clause_takes tokens xs rest tail e h = choose_some (after begins tokens) read (Some ([], tokens)) (xs, rest) e
        (λ more n f. filled xs tokens more tail n (exact.takes more xs rest tail f h))
        (λ n f. let parts = pair_parts ([]) xs (tokens) rest f in
        let xs-is : [] ≡ xs = parts.0 in
        let rest-is : tokens ≡ rest = parts.1 in
        subst (λ (zs : List X). Fits (clause begins spell zs tail) tokens) xs-is (subst (λ ts. Fits tail ts) (sym rest-is) h))

    clause_again : (tokens : List Token) (xs : List X) (tail : List Piece) → Closes tail × Avoids begins tail → Fits (clause begins spell xs tail) tokens → (rest : List Token) × (clause_at begins read tokens ≡ Some (xs, rest)) × Fits tail rest
    clause_again tokens [] tail c h = (tokens, rw (c.1 tokens h) refl, h)
    clause_again tokens (x ∷ xs) tail c h =
        let k = key_again begins tokens (spell (x ∷ xs) tail) h in
        let r = exact.again k.0 (x ∷ xs) tail c.0 k.2 in
        (r.0, rw (k.1, r.1) refl, r.2)

-- one item that may be left out
pub optional_exact : {X : Type 0} (begins : Token → Bool) (read : Reader X) (spell : X → List Piece → List Piece) (Closes : List Piece → Type 0) → Exact read spell Closes
    → Exact (optionally begins read) (optional begins spell) (λ tail. Closes tail × Avoids begins tail)
optional_exact {X} begins read spell Closes exact = record { takes = optional_takes; again = optional_again }
  where
    optional_takes : (tokens : List Token) (o : Option X) (rest : List Token) (tail : List Piece) → optionally begins read tokens ≡ Some (o, rest) → Fits tail rest → Fits (optional begins spell o tail) tokens
    optional_takes tokens o rest tail e h = choose_some (after begins tokens) (λ more. read more >>= λ x. Some (Some x.0, x.1)) (Some (None, tokens)) (o, rest) e
        (λ more n f.
        let b = bind_some (read more) (λ x. Some (Some x.0, x.1)) (o, rest) f in
        let parts = pair_parts (Some b.0.0) o (b.0.1) rest b.2 in
        let o-is : Some b.0.0 ≡ o = parts.0 in
        let rest-is : b.0.1 ≡ rest = parts.1 in
        subst (λ (p : Option X). Fits (optional begins spell p tail) tokens) o-is (key_takes begins tokens more (spell b.0.0 tail) n (exact.takes more b.0.0 b.0.1 tail b.1 (subst (λ ts. Fits tail ts) (sym rest-is) h))))
        (λ n f. let parts = pair_parts (None) o (tokens) rest f in
        let o-is : None ≡ o = parts.0 in
        let rest-is : tokens ≡ rest = parts.1 in
        subst (λ (p : Option X). Fits (optional begins spell p tail) tokens) o-is (subst (λ ts. Fits tail ts) (sym rest-is) h))

    optional_again : (tokens : List Token) (o : Option X) (tail : List Piece) → Closes tail × Avoids begins tail → Fits (optional begins spell o tail) tokens → (rest : List Token) × (optionally begins read tokens ≡ Some (o, rest)) × Fits tail rest
    optional_again tokens None tail c h = (tokens, rw (c.1 tokens h) refl, h)
    optional_again tokens (Some x) tail c h =
        let k = key_again begins tokens (spell x tail) h in
        let r = exact.again k.0 x tail c.0 k.2 in
        (r.0, rw (k.1, r.1) refl, r.2)

-- behind a token of its own
pub behind_exact : {X : Type 0} (begins : Token → Bool) (read : Reader X) (spell : X → List Piece → List Piece) (Closes : List Piece → Type 0) → Exact read spell Closes
    → Exact (behind begins read) (λ x tail. One (Passes begins) ∷ spell x tail) Closes
behind_exact begins read spell Closes exact = record {
  takes = λ tokens x rest tail e h.
      let b = bind_some (after begins tokens) read (x, rest) e in
      key_takes begins tokens b.0 (spell x tail) b.1 (exact.takes b.0 x rest tail b.2 h);
  again = λ tokens x tail c h.
      let k = key_again begins tokens (spell x tail) h in
      let r = exact.again k.0 x tail c k.2 in
      (r.0, rw (k.1, r.1) refl, r.2);
}

-- in front of a token of its own
pub before_exact : {X : Type 0} (read : Reader X) (closing : Token → Bool) (spell : X → List Piece → List Piece) (Closes : List Piece → Type 0) → Exact read spell Closes → ((tail : List Piece) → Closes (One (Passes closing) ∷ tail))
    → Exact (before read closing) (λ x tail. spell x (One (Passes closing) ∷ tail)) Always
before_exact {X} read closing spell Closes exact closes = record {
  takes = λ tokens x rest tail e h.
      let b = bind_some (read tokens) (λ y. after closing y.1 >>= λ more. Some (y.0, more)) (x, rest) e in
      let d = bind_some (after closing b.0.1) (λ more. Some (b.0.0, more)) (x, rest) b.2 in
      let parts = pair_parts (b.0.0) x (d.0) rest d.2 in
      let x-is : b.0.0 ≡ x = parts.0 in
      let rest-is : d.0 ≡ rest = parts.1 in
      subst (λ (y : X). Fits (spell y (One (Passes closing) ∷ tail)) tokens) x-is (exact.takes tokens b.0.0 b.0.1 (One (Passes closing) ∷ tail) b.1 (key_takes closing b.0.1 d.0 tail d.1 (subst (λ ts. Fits tail ts) (sym rest-is) h)));
  again = λ tokens x tail c h.
      let r = exact.again tokens x (One (Passes closing) ∷ tail) (closes tail) h in
      let k = key_again closing r.0 tail r.2 in
      (k.0, rw (r.1, k.1) refl, k.2);
}
