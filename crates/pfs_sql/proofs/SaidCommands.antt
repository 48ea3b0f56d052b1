-- What a text says, and that it says nothing else.
use Rattle.std.proofs.Common.{◌≡◌, ℕ, List, Option, Some, None, sym, subst, ◌∙◌}
use Rattle.pfs_sql.specs.declared.token.Token.{Token}
use Rattle.pfs_sql.specs.declared.command.Command.{Command}
use Rattle.pfs_sql.specs.declared.faults.SqlFault.{SqlFault}
use Rattle.pfs_sql.specs.declared.faults.SqlFault.TheVariants as faults
use Rattle.pfs_sql.specs.Tokens.{AreTokens}
use Rattle.pfs_sql.specs.Grammar.{Refuses, Says, Spells}
use Rattle.pfs_sql.specs.TokenReaders.{Fails, command_of}
use Rattle.pfs_sql.proofs.TokenCuts.{one_cut}
use Rattle.pfs_sql.proofs.CommandReadings.{one_spelled, spells_takes, spells_again}

pub says : (text : List ℕ) (tokens : List Token) (c : Command) → AreTokens text tokens → command_of tokens ≡ Some c → Says text c
says text tokens c are read = (tokens, are, spells_takes tokens c read)

pub not_spelled : (fault : SqlFault) (text : List ℕ) (tokens : List Token) → AreTokens text tokens → Fails fault (command_of tokens) → Refuses fault ((c : Command) → ¬ Says text c)
not_spelled faults.NoMemory text tokens are h = tt
not_spelled (faults.Error error) text tokens are h = (
  h.0,
  λ c s.
      let spelled : Spells tokens c = subst (λ (ts : List Token). Spells ts c) (one_cut text s.0 tokens s.1 are) s.2 in
      let both = sym h.1 ∙ spells_again tokens c spelled in
      absurd cc,
)

-- no text is two commands
pub one_said : (text : List ℕ) (a b : Command) → Says text a → Says text b → a ≡ b
one_said text a b p q = one_spelled p.0 a b p.2 (subst (λ (ts : List Token). Spells ts b) (sym (one_cut text p.0 q.0 p.1 q.1)) q.2)
