-- Items with separators between them, as a loop reads them.
use Rattle.std.proofs.Common.{◌≡◌, ℕ, zero, suc, ◌+◌, ◌≤◌, ◌<◌, Bool, true, false, List, [], ◌∷◌, ◌++◌, length, Option, Some, None, refl, sym, ap, ◌∙◌, append_assoc, arith}
use Rattle.pfs_sql.specs.declared.token.Token.{Token}
use Rattle.pfs_sql.specs.declared.faults.SqlFault.{SqlFault}
use Rattle.pfs_sql.specs.declared.faults.SqlFault.TheVariants as faults
use Rattle.pfs_sql.specs.TokenReaders.{◌>>=◌, Fails, Reader, after, given, choose, with_front, many}

pub given_is : (b : Bool) (tokens rest : List Token) → given b tokens ≡ Some rest → (b ≡ true) × (tokens ≡ rest)
given_is true tokens rest h = (refl, cc)
given_is false tokens rest h = absurd cc

-- a token that passed is gone
pub after_shorter : (test : Token → Bool) (tokens rest : List Token) → after test tokens ≡ Some rest → length rest < length tokens
after_shorter test [] rest h = absurd cc
after_shorter test (token ∷ tokens) rest h =
    let e = given_is (test token) tokens rest h in
    rw (← e.1) (omega arith)

module _ {X : Type 0} (separator : Token → Bool) (read : Reader X) where
  -- what was read, and what reading on gives, are what is read in all
  pub record Reads (total : Option (List X × List Token)) (items : List X) (rest : List Token) : Type 0 where
    pub most : ℕ
    pub enough : length rest ≤ most
    pub same : with_front items (many separator read most rest) ≡ total

  front_none : (r : Option (List X × List Token)) → with_front [] r ≡ r
  front_none None = refl
  front_none (Some x) = refl

  pub reads_none : (tokens : List Token) → Reads (many separator read (length tokens) tokens) [] tokens
  reads_none tokens = record { most = length tokens; enough = omega arith; same = front_none _ }

  regroup : (items : List X) (x : X) (r : Option (List X × List Token)) → with_front items (with_front (x ∷ []) r) ≡ with_front (items ++ x ∷ []) r
  regroup items x None = refl
  regroup items x (Some y) = ap (λ (xs : List X). Some (xs, y.1)) (sym (append_assoc items (x ∷ []) y.0))

  more_for : (most : ℕ) (total : Option (List X × List Token)) (items : List X) (rest : List Token) (x : X) (behind more : List Token)
      → length rest ≤ most → with_front items (many separator read most rest) ≡ total
      → read rest ≡ Some (x, behind) → length behind < length rest → after separator behind ≡ Some more → Reads total (items ++ x ∷ []) more
  unfolding many
  more_for zero total items rest x behind more le same here less next = absurd (omega arith)
  more_for (suc most) total items rest x behind more le same here less next =
      let short = after_shorter separator behind more next in
      let one : with_front items (many separator read (suc most) rest) ≡ with_front (items ++ x ∷ []) (many separator read most more) = rw (here, next) (regroup items x (many separator read most more)) in
      record { most = most; enough = omega arith; same = sym one ∙ same }

  pub reads_more : (total : Option (List X × List Token)) (items : List X) (rest : List Token) (x : X) (behind more : List Token)
      → Reads total items rest → read rest ≡ Some (x, behind) → length behind < length rest → after separator behind ≡ Some more → Reads total (items ++ x ∷ []) more
  reads_more total items rest x behind more h = more_for h.most total items rest x behind more h.enough h.same

  fails_for : (most : ℕ) (fault : SqlFault) (total : Option (List X × List Token)) (items : List X) (rest : List Token)
      → with_front items (many separator read most rest) ≡ total → Fails fault (read rest) → Fails fault total
  unfolding many
  fails_for most faults.NoMemory total items rest same h = tt
  fails_for zero (faults.Error error) total items rest same h = (h.0, sym same)
  fails_for (suc most) (faults.Error error) total items rest same h =
      let one : with_front items (many separator read (suc most) rest) ≡ None = rw (h.1) refl in
      (h.0, sym same ∙ one)

  pub reads_fail : (fault : SqlFault) (total : Option (List X × List Token)) (items : List X) (rest : List Token) → Reads total items rest → Fails fault (read rest) → Fails fault total
  reads_fail fault total items rest h = fails_for h.most fault total items rest h.same

  all_for : (most : ℕ) (total : Option (List X × List Token)) (items : List X) (rest : List Token) (x : X) (behind : List Token)
      → length rest ≤ most → with_front items (many separator read most rest) ≡ total
      → read rest ≡ Some (x, behind) → length behind < length rest → after separator behind ≡ None → total ≡ Some (items ++ x ∷ [], behind)
  unfolding many
  all_for zero total items rest x behind le same here less next = absurd (omega arith)
  all_for (suc most) total items rest x behind le same here less next =
      let one : with_front items (many separator read (suc most) rest) ≡ Some (items ++ x ∷ [], behind) = rw (here, next) refl in
      sym same ∙ one

  pub reads_all : (total : Option (List X × List Token)) (items : List X) (rest : List Token) (x : X) (behind : List Token)
      → Reads total items rest → read rest ≡ Some (x, behind) → length behind < length rest → after separator behind ≡ None → total ≡ Some (items ++ x ∷ [], behind)
  reads_all total items rest x behind h = all_for h.most total items rest x behind h.enough h.same
