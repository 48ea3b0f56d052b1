-- Limits and consumers by their names.
use Rattle.std.proofs.Common.{◌≡◌, ◌≢◌, ℕ, Bool, false, List, [], ◌∷◌, Option, Some, None, MatchOption, refl, sym, ap, ◌∙◌}
use Rattle.std.specs.List.{find}
use Rattle.std.specs.Str.{bytes_eq}
use Rattle.std.proofs.lemmas.Bool.{false_from_ne_true}
use Rattle.std.proofs.lemmas.Slice.Eq.{bytes_eq-Decides}
use Rattle.pfs_rows.specs.declared.limits.Limit.{Limit}
use Rattle.pfs_rows.specs.declared.limits.Limit.TheVariants.{ThreadInstances}
use Rattle.pfs_rows.specs.Limits.{limit_name}
use Rattle.pfs_consumers.specs.declared.Consumer.{Consumer}
use Rattle.pfs_consumers.specs.declared.Consumer.TheVariants.{StagesCurrent}
use Rattle.pfs_consumers.specs.Tree.{name_of}
use Rattle.pfs_script.specs.Headings.{limits, named_limit, consumers, named_consumer}

find_none : {A : Type 0} (p : A → Bool) (xs : List A) → ((x : A) → p x ≡ false) → find p xs ≡ None
find_none p [] none = refl
find_none p (x ∷ xs) none = rw (none x) (find_none p xs none)

differs : (a b : List ℕ) → a ≢ b → bytes_eq a b ≡ false
differs a b ne = false_from_ne_true (bytes_eq a b) (λ e. ne ((bytes_eq-Decides a b).0 e))

limit_found : (one : Limit) → named_limit (limit_name one) ≡ Some one
unfolding named_limit
limit_found ThreadInstances = refl
limit_found _ = refl

consumer_found : (one : Consumer) → named_consumer (name_of one) ≡ Some one
unfolding named_consumer
consumer_found StagesCurrent = refl
consumer_found _ = refl

limit_none : (name : List ℕ) → ((one : Limit) → limit_name one ≢ name) → named_limit name ≡ None
unfolding named_limit
limit_none name none = find_none (λ (one : Limit). bytes_eq (limit_name one) name) limits (λ one. differs (limit_name one) name (none one))

consumer_none : (name : List ℕ) → ((one : Consumer) → name_of one ≢ name) → named_consumer name ≡ None
unfolding named_consumer
consumer_none name none = find_none (λ (one : Consumer). bytes_eq (name_of one) name) consumers (λ one. differs (name_of one) name (none one))

-- what is found under a name
pub limit_is : (o : Option Limit) (name : List ℕ) → MatchOption o ((one : Limit) → limit_name one ≢ name) (λ one. limit_name one ≡ name) → o ≡ named_limit name
limit_is None name none = sym (limit_none name none)
limit_is (Some one) name e = sym (limit_found one) ∙ ap named_limit e

pub consumer_is : (o : Option Consumer) (name : List ℕ) → MatchOption o ((one : Consumer) → name_of one ≢ name) (λ one. name_of one ≡ name) → o ≡ named_consumer name
consumer_is None name none = sym (consumer_none name none)
consumer_is (Some one) name e = sym (consumer_found one) ∙ ap named_consumer e
