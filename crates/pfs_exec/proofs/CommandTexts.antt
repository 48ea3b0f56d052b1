-- The command that is read of a text is the one that it says.
use Rattle.std.proofs.Common.{◌≡◌, ℕ, zero, suc, ◌+◌, ◌<◌, ◌≤◌, Bool, true, List, [], ◌∷◌, ◌++◌, length, take, drop, Option, Some, None, refl, sym, ap, subst, ◌∙◌, inl, inr, arith}
use Rattle.std.specs.List.{list_all, prefix_len}
use Rattle.std.proofs.lemmas.Bool.{cases_Bool}
use Rattle.std.proofs.lemmas.List.{take-append-drop}
use Rattle.pfs_text.specs.declared.conditions.Comparison.{Comparison}
use Rattle.pfs_text.specs.declared.conditions.Comparison.TheVariants.{Equal, Unequal, Less, AtMost, Greater, AtLeast}
use Rattle.pfs_sql.specs.TextCuts.{token_of}
use Rattle.pfs_sql.specs.Grammar.{Says}
use Rattle.pfs_sql.specs.TokenReaders.{◌>>=◌, command_of}
use Rattle.pfs_sql.specs.Tokens.{is_blank, IsSign, IsToken, Begins, AreTokens}
use Rattle.pfs_sql.specs.declared.command.Command.{Command}
use Rattle.pfs_sql.specs.declared.token.Token.{Token}
use Rattle.pfs_sql.specs.declared.token.Token.TheVariants.{Word, Quoted, Compares, Comma, Open, Close, Star, Semicolon}
use Rattle.pfs_sql.proofs.TokenCuts.{first_token, one_cut, token_takes}
use Rattle.pfs_sql.proofs.SaidCommands.{says}
use Rattle.pfs_sql.proofs.CommandReadings.{spells_again}
use Rattle.pfs_exec.specs.Requests.{command_in, skip, tokens_from}

-- a token has a byte at least
long_sign : (c : Comparison) (front : List ℕ) → IsSign c front → 0 < length front
long_sign Equal front h = subst (λ (z : List ℕ). 0 < length z) (sym h) (omega arith)
long_sign Unequal front (inl h) = subst (λ (z : List ℕ). 0 < length z) (sym h) (omega arith)
long_sign Unequal front (inr h) = subst (λ (z : List ℕ). 0 < length z) (sym h) (omega arith)
long_sign Less front h = subst (λ (z : List ℕ). 0 < length z) (sym h) (omega arith)
long_sign AtMost front h = subst (λ (z : List ℕ). 0 < length z) (sym h) (omega arith)
long_sign Greater front h = subst (λ (z : List ℕ). 0 < length z) (sym h) (omega arith)
long_sign AtLeast front h = subst (λ (z : List ℕ). 0 < length z) (sym h) (omega arith)

long : (t : Token) (front : List ℕ) → IsToken t front → 0 < length front
long (Word word) front h = subst (λ (z : List ℕ). 0 < length z) (sym h.0) h.1
long (Quoted text) front h = subst (λ (z : List ℕ). 0 < length z) (sym h) (omega arith)
long (Compares c) front h = long_sign c front h
long Comma front h = subst (λ (z : List ℕ). 0 < length z) (sym h) (omega arith)
long Open front h = subst (λ (z : List ℕ). 0 < length z) (sym h) (omega arith)
long Close front h = subst (λ (z : List ℕ). 0 < length z) (sym h) (omega arith)
long Star front h = subst (λ (z : List ℕ). 0 < length z) (sym h) (omega arith)
long Semicolon front h = subst (λ (z : List ℕ). 0 < length z) (sym h) (omega arith)

both_long : (xs ys : List ℕ) → length (xs ++ ys) ≡ length xs + length ys
both_long [] ys = omega arith
both_long (x ∷ xs) ys = let more = both_long xs ys in omega (arith, more)

drop_short : (n : ℕ) (xs : List ℕ) → length (drop n xs) ≤ length xs
drop_short zero xs = omega arith
drop_short (suc n) [] = omega arith
drop_short (suc n) (x ∷ xs) = let less = drop_short n xs in omega (arith, less)

behind_short : (text : List ℕ) (t : Token) (rest : List ℕ) → token_of (skip text) ≡ Some (t, rest) → length rest < length text
behind_short text t rest e =
    let b : Begins t (skip text) rest = token_takes (skip text) t rest e in
    let whole : length (skip text) ≡ length b.0 + length rest = ap (λ (z : List ℕ). length z) b.2 ∙ both_long b.0 rest in
    omega (arith, whole, long t b.0 b.1, drop_short (prefix_len is_blank text) text)

run_all : (p : ℕ → Bool) (bytes : List ℕ) → list_all p (take (prefix_len p bytes) bytes) ≡ true
run_all p [] = refl
run_all p (b ∷ bytes) =
    elim (cases_Bool (p b)) [
      | inl t ↦ let n : 1 + prefix_len p bytes ≡ suc (prefix_len p bytes) = omega arith in rw (t, n, run_all p bytes) (rw t refl)
      | inr t ↦ rw t refl
    ]

-- all tokens of a text are read
read_all : (n : ℕ) (text : List ℕ) (tokens : List Token) → length text < n → AreTokens text tokens → tokens_from n text ≡ Some tokens
unfolding tokens_from
read_all zero text tokens l are = absurd (omega (arith, l))
read_all (suc n) text [] l are = rw are refl
read_all (suc n) text (t ∷ ts) l are =
    let first = first_token text t ts are in
    elim (cases_Bool (list_all is_blank text)) [
      | inl blank ↦ let none : [] ≡ t ∷ ts = one_cut text [] (t ∷ ts) blank are in absurd cc
      | inr other ↦
          let rest : tokens_from n first.0 ≡ Some ts = read_all n first.0 ts (omega (arith, l, behind_short text t first.0 first.1)) first.2 in
          rw (other, first.1, rest) refl
    ]

-- and what is read are the text's tokens
on_front : (front : Option (Token × List ℕ)) (n : ℕ) (tokens : List Token)
    → (front >>= λ x. tokens_from n x.1 >>= λ more. Some (x.0 ∷ more)) ≡ Some tokens
    → (t : Token) × (rest : List ℕ) × (more : List Token) × (front ≡ Some (t, rest)) × (tokens_from n rest ≡ Some more) × (tokens ≡ t ∷ more)
on_front None n tokens e = absurd cc
on_front (Some (t, rest)) n tokens e = on (tokens_from n rest) refl where
  on : (o : Option (List Token)) → tokens_from n rest ≡ o
      → (u : Token) × (r : List ℕ) × (more : List Token) × (◌≡◌ {A = Option (Token × List ℕ)} (Some (t, rest)) (Some (u, r))) × (tokens_from n r ≡ Some more) × (tokens ≡ u ∷ more)
  on None q = let gone = sym (ap (λ z. z >>= λ more. Some (t ∷ more)) q) ∙ e in absurd cc
  on (Some more) q = let same = sym (ap (λ z. z >>= λ more. Some (t ∷ more)) q) ∙ e in (t, rest, more, refl, q, cc)

read_so : (n : ℕ) (text : List ℕ) (tokens : List Token) → tokens_from n text ≡ Some tokens → AreTokens text tokens
unfolding tokens_from
read_so zero text tokens e = absurd cc
read_so (suc n) text tokens e =
    elim (cases_Bool (list_all is_blank text)) [
      | inl blank ↦
          let none : tokens ≡ [] = let h : Some [] ≡ Some tokens = rw blank at e in cc in
          subst (AreTokens text) (sym none) blank
      | inr other ↦
          let f = on_front (token_of (skip text)) n tokens (rw other at e) in
          subst (AreTokens text) (sym f.5)
          (take (prefix_len is_blank text) text, skip text, f.1, run_all is_blank text, sym (take-append-drop (prefix_len is_blank text) text), token_takes (skip text) f.0 f.1 f.3, read_so n f.1 f.2 f.4)
    ]

-- so a text that says a command is read as it
pub command_said : (text : List ℕ) (command : Command) → Says text command → command_in text ≡ Some command
unfolding command_in
command_said text command s =
    rw (read_all (suc (length text)) text s.0 (omega arith) s.1) (spells_again s.0 command s.2)

-- and one that says none as none
pub none_said : (text : List ℕ) → ((command : Command) → ¬ Says text command) → command_in text ≡ None
unfolding command_in
none_said text none = on (tokens_from (suc (length text)) text) refl where
  by_tokens : (tokens : List Token) → tokens_from (suc (length text)) text ≡ Some tokens → (o : Option Command) → command_of tokens ≡ o → o ≡ None
  by_tokens tokens read None q = refl
  by_tokens tokens read (Some command) q = absurd (none command (says text tokens command (read_so (suc (length text)) text tokens read) q))

  on : (o : Option (List Token)) → tokens_from (suc (length text)) text ≡ o → (o >>= command_of) ≡ None
  on None q = refl
  on (Some tokens) q = by_tokens tokens q (command_of tokens) refl

-- the command that is read is said
pub command_read : (text : List ℕ) (command : Command) → command_in text ≡ Some command → Says text command
unfolding command_in
command_read text command e = on (tokens_from (suc (length text)) text) refl e where
  on : (o : Option (List Token)) → tokens_from (suc (length text)) text ≡ o → (o >>= command_of) ≡ Some command → Says text command
  on None q h = absurd cc
  on (Some tokens) q h = says text tokens command (read_so (suc (length text)) text tokens q) h
