-- The first row for a HOST and a USER has the least ROLE.
use Rattle.std.proofs.Common.{◌≡◌, ◌≢◌, ℕ, ◌<◌, inl, inr, zero, suc, true, List, [], ◌∷◌, ◌&&◌, length, get_or, Contains, IsTrue, Some, sym, subst, ap, ◌∙◌, refl, arith}
use Rattle.std.specs.declared.cmp.Ordering.{Ordering}
use Rattle.std.specs.declared.cmp.Ordering.TheVariants.{Less, Equal, Greater}
use Rattle.std.specs.Cmp.Lexicographic.{slice_cmp, bytes_decides, nat_list_cmp_total}
use Rattle.std.specs.List.{AllByRecursion, find}
use Rattle.std.specs.Ordering.{is_lt, nat_cmp, ordering_then}
use Rattle.std.specs.Str.{bytes_eq}
use Rattle.std.proofs.lemmas.Bool.{cases_Bool, and_parts}
use Rattle.std.proofs.lemmas.Cmp.{tied_itself}
use Rattle.std.proofs.lemmas.Option.{same_Some}
use Rattle.pfs_matching.specs.declared.actor_rows.ActorRow.{ActorRow}
use Rattle.pfs_matching.specs.ActorRules.{ActorsDecideBest, HasLesserRole, actor_has, actor_key, actor_says, actor_ways}
use Rattle.pfs_matching.specs.KeyedRows.{AreOrdered, comes_before}
use Rattle.pfs_matching.proofs.BestRow.{decides_best}

pub all_at : {R : Type 0} (P : R → Type 0) (rows : List R) (k : ℕ) (d : R) → k < length rows → AllByRecursion P rows → P (get_or rows k d)
all_at P [] k d within all = absurd (omega arith)
all_at P (row ∷ rows) zero d within all = all.0
all_at P (row ∷ rows) (suc k) d within all = all_at P rows k d (omega arith) all.1

-- a row of a HOST and a USER is found by them
is_for-own : (host user : List ℕ) (row : ActorRow) → row.host ≡ host → row.user ≡ user → actor_has (host, user) row ≡ true
is_for-own host user row same_host same_user = rw ((bytes_decides row.host host).1 same_host, (bytes_decides row.user user).1 same_user) refl

role_less : (o : Ordering) → is_lt (ordering_then o Equal) ≡ true → o ≢ Greater
role_less Less e = λ is. cc
role_less Equal e = cc
role_less Greater e = cc

-- of two rows with one HOST and USER, the one that comes before has the lesser ROLE
role_before : (a b : ActorRow) → a.host ≡ b.host → a.user ≡ b.user → comes_before actor_key a b ≡ true → slice_cmp nat_cmp a.role b.role ≢ Greater
role_before a b same_host same_user before =
    let hosts : slice_cmp nat_cmp a.host b.host ≡ Equal = subst (λ t. slice_cmp nat_cmp a.host t ≡ Equal) same_host (tied_itself nat_list_cmp_total a.host) in
    let users : slice_cmp nat_cmp a.user b.user ≡ Equal = subst (λ t. slice_cmp nat_cmp a.user t ≡ Equal) same_user (tied_itself nat_list_cmp_total a.user) in
    role_less (slice_cmp nat_cmp a.role b.role) (rw (hosts, users) at before)

first_is_least : (rows : List ActorRow) (host user : List ℕ) (row : ActorRow) → AreOrdered actor_key rows → find (actor_has (host, user)) rows ≡ Some row → (k : ℕ) (other : ActorRow) → k < length rows → get_or rows k other ≡ other → other.host ≡ host → other.user ≡ user
    → slice_cmp nat_cmp row.role other.role ≢ Greater
first_is_least [] host user row ordered found k other within is same_host same_user = absurd (omega arith)
first_is_least (r ∷ rows) host user row ordered found zero other within is same_host same_user =
    let named : actor_has (host, user) r ≡ true = is_for-own host user r (ap (λ o. o.host) is ∙ same_host) (ap (λ o. o.user) is ∙ same_user) in
    let here : r ≡ row = same_Some r row (rw named at found) in
    let tied : slice_cmp nat_cmp row.role other.role ≡ Equal = subst (λ o. slice_cmp nat_cmp row.role o.role ≡ Equal) (sym here ∙ is) (tied_itself nat_list_cmp_total row.role) in
    λ greater. cc
first_is_least (r ∷ rows) host user row ordered found (suc k) other within is same_host same_user = elim (cases_Bool (actor_has (host, user) r)) [
  | inl named ↦
      let here : r ≡ row = same_Some r row (rw named at found) in
      let parts = and_parts (bytes_eq r.host host) (bytes_eq r.user user) named in
      let before : comes_before actor_key r other ≡ true = subst (λ o. comes_before actor_key r o ≡ true) is (all_at (λ later. IsTrue (comes_before actor_key r later)) rows k other (omega arith) ordered.0) in
      subst (λ o. slice_cmp nat_cmp o.role other.role ≢ Greater) here (role_before r other ((bytes_decides r.host host).0 parts.0 ∙ sym same_host) ((bytes_decides r.user user).0 parts.1 ∙ sym same_user) before)
  | inr differs ↦ first_is_least rows host user row ordered.1 (rw differs at found) k other (omega arith) is same_host same_user
]

actors_lead : (rows : List ActorRow) → AreOrdered actor_key rows → (way : List ℕ × List ℕ) (row other : ActorRow) → find (actor_has way) rows ≡ Some row → Contains rows other → actor_has way other ≡ true → HasLesserRole row other
actors_lead rows ordered way row other found has passes =
    let parts = and_parts (bytes_eq other.host way.0) (bytes_eq other.user way.1) passes in
    first_is_least rows way.0 way.1 row ordered found has.0 other has.1 has.2 ((bytes_decides other.host way.0).0 parts.0) ((bytes_decides other.user way.1).0 parts.1)

pub actors_decide_best : ActorsDecideBest
actors_decide_best rows user host ordered = decides_best actor_has HasLesserRole actor_says rows (actors_lead rows ordered) (actor_ways user host)
