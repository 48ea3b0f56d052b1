-- How far the root is from each consumer, and how acting passes from one to the one above.
use Rattle.std.proofs.Common.{◌≡◌, ℕ, Some, subst, sym, ◌∙◌, inl, inr}
use Rattle.std.specs.Prelude.{IsTrue, ◌⊎◌}
use Rattle.pfs_consumers.specs.declared.Consumer.{Consumer}
use Rattle.pfs_consumers.specs.declared.Consumer.TheVariants.{StagesCurrent, StatementsCurrent, TransactionsCurrent, WaitsCurrent, GlobalInstrumentation, ThreadInstrumentation, StatementsDigest}
use Rattle.pfs_consumers.specs.Tree.{parent_of, is_on, Acts, StandsOver, parent, over_parent}

-- how many stand over a consumer
abbrev pub level_of : Consumer → ℕ
level_of GlobalInstrumentation = 0
level_of ThreadInstrumentation = 1
level_of StatementsDigest = 1
level_of StagesCurrent = 2
level_of StatementsCurrent = 2
level_of TransactionsCurrent = 2
level_of WaitsCurrent = 2
level_of _ = 3

some-injective : {a b : Consumer} → Some a ≡ Some b → a ≡ b
some-injective e = cc

-- what stands over a consumer is the one right above, or stands over that one
over_next : {a c p : Consumer} → parent_of c ≡ Some p → StandsOver a c → (a ≡ p) ⊎ StandsOver a p
over_next e (parent f) = inl (some-injective (sym f ∙ e))
over_next {a = a} e (over_parent f r) = inr (subst (λ (x : Consumer). StandsOver a x) (some-injective (sym f ∙ e)) r)

all_over : (word : ℕ) (a p : Consumer) → Acts word p → (a ≡ p) ⊎ StandsOver a p → IsTrue (is_on word a)
all_over word a p above (inl e) = subst (λ (x : Consumer). IsTrue (is_on word x)) (sym e) above.0
all_over word a p above (inr over) = above.1 a over

-- a consumer that is YES acts where the one right above acts
pub Acts-below : (word : ℕ) (c p : Consumer) → parent_of c ≡ Some p → IsTrue (is_on word c) → Acts word p → Acts word c
Acts-below word c p e own above = (own, λ a over. all_over word a p above (over_next e over))

-- what stands over a consumer that acts, acts
pub Acts-above : (word : ℕ) (c p : Consumer) → parent_of c ≡ Some p → Acts word c → Acts word p
Acts-above word c p e acts = (acts.1 p (parent e), λ a over. acts.1 a (over_parent e over))
