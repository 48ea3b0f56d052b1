-- The kinds' order.
use Rattle.std.proofs.Common.{◌≡◌, ◌≢◌, ◌↔◌, ℕ, ◌<◌, lit<, List, ◌∷◌, ◌++◌, Bool, false, ap, sym, ◌∙◌}
use Rattle.std.specs.Prelude.{IsTrue}
use Rattle.std.proofs.lemmas.Bool.{false≢true}
use Rattle.std.proofs.lemmas.List.{append_cancel_left}
use Rattle.pfs_classes.specs.Kinds.{are_parts}
use Rattle.pfs_classes.specs.declared.kind.Kind.{Kind}
use Rattle.pfs_classes.specs.declared.kind.Kind.TheVariants.{Mutex, Rwlock, Cond, File, Socket, TableIo, TableLock, Stage, Statement, Transaction}

abbrev pub order_of : Kind → ℕ
order_of Mutex = 0
order_of Rwlock = 1
order_of Cond = 2
order_of File = 3
order_of Socket = 4
order_of TableIo = 5
order_of TableLock = 6
order_of Stage = 7
order_of Statement = 8
order_of Transaction = 9

pub order_of-lt : (kind : Kind) → order_of kind < 10
order_of-lt Mutex = lit< tt
order_of-lt _ = lit< tt

-- the parts of a name that begins with the kind's
pub below_yes : (name kind rest : List ℕ) (r : Bool) → name ≡ kind ++ rest
    → (IsTrue r ↔ ((parts : List ℕ) × (rest ≡ 47 ∷ parts) × IsTrue (are_parts parts)))
    → (IsTrue r ↔ ((parts : List ℕ) × (name ≡ kind ++ 47 ∷ parts) × IsTrue (are_parts parts)))
below_yes name kind rest r e found = (
  λ yes. let p = found.0 yes in (p.0, e ∙ ap (λ (x : List ℕ). kind ++ x) p.1, p.2),
  λ p. found.1 (p.0, append_cancel_left kind rest (47 ∷ p.0) (sym e ∙ p.1), p.2),
)

-- a name that doesn't begin with the kind's
pub below_no : (name kind : List ℕ) → ((rest : List ℕ) → name ≢ kind ++ rest)
    → (IsTrue false ↔ ((parts : List ℕ) × (name ≡ kind ++ 47 ∷ parts) × IsTrue (are_parts parts)))
below_no name kind other = (λ no. absurd (false≢true no), λ p. absurd (other (47 ∷ p.0) p.1))
