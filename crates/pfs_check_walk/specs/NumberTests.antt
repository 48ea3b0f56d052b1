-- The numbers that are due of an event.
use Rattle.std.specs.Prelude.{ℕ, ◌+◌, Bool, true, false, cond, Option, Some, None}
use Rattle.pfs_event.specs.Verdicts.{is_let_through}
use Rattle.pfs_event.specs.declared.verdict.Verdict.{Verdict}
use Rattle.pfs_model.specs.declared.lines.Opened.{Opened}

-- a test tells whether a fact holds
abbrev pub Tells : Type 0 → Bool → Type 0
Tells fact true = fact
Tells fact false = fact → ⊥

-- of an event that starts, behind so many numbers
abbrev pub number_due : ℕ → Verdict → Option ℕ
number_due drawn verdict = cond (is_let_through verdict) (Some (drawn + 1)) None

-- and of one that ends, where this is open
abbrev pub own_number : Option Opened → Option ℕ
own_number None = None
own_number (Some event) = event.number

abbrev pub last_number : ℕ → Option Opened → Option ℕ
last_number drawn None = None
last_number drawn (Some event) = cond (is_let_through event.verdict) (Some drawn) None
