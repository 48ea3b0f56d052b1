-- The worked summaries.
use Rattle.std.proofs.Common.{◌≡◌, ℕ, ◌==◌, ◌&&◌, Bool, true, false, cond, List, [], ◌∷◌, length, map, Option, Some, None, refl, sym, ap, subst, ◌∙◌, arith}
use Rattle.std.specs.Prelude.{◌≢◌, All, AllPairs, Contains, slice_index_or}
use Rattle.std.proofs.lemmas.List.Elements.{All-nil, All-cons, All-contains}
use Rattle.std.proofs.lemmas.List.Kept.{AllPairs-cons}
use Rattle.std.proofs.lemmas.Bool.{eqb-true}
use Rattle.pfs_classes.specs.Registry.{class_at}
use Rattle.pfs_classes.specs.declared.setting.Setting.{Setting}
use Rattle.pfs_conservation.specs.KindSummaries.{Key, KeyThread, KeyAccount, KeyUser, KeyHost, KeyAll}
use Rattle.pfs_readsets.specs.TablePlaces.{is_class_of}
use Rattle.pfs_rows.specs.declared.table.TableKind.TheVariants.{Waits, Statements}
use Rattle.pfs_stat.specs.Stat.{zero_of}
use Rattle.pfs_summaries.specs.RowValues.{values_of, times_of, sums_of}
use Rattle.pfs_text.specs.declared.values.RowValue.{RowValue}
use Rattle.pfs_text.specs.declared.values.RowValue.TheVariants as value
use Rattle.pfs_law_summaries.specs.SummaryRows.{StandsBefore, summary_row}
use Rattle.pfs_law_summaries.specs.SummaryExamples.{two_waits, one_statement, three_untimed, by_user, slots, waited, idle, user_row, session_rows, AreUsers, AreSessions, HasUser, HasSession, WorkedRows, WorkedSummaries}
use Rattle.pfs_law_summaries.proofs.ListMembers.{first, later, contains_map, map_contains}

abbrev Row : Type 0
Row = Key × ℕ

abbrev user : Row
user = (KeyUser 24, 6)

abbrev first_one : Row
first_one = (KeyThread 1 0, 17)

abbrev second_one : Row
second_one = (KeyThread 2 1, 17)

abbrev both : List Row
both = first_one ∷ second_one ∷ []

user_is : (name id : ℕ) → name ≡ 24 → id ≡ 6 → ◌≡◌ {A = Row} (KeyUser name, id) user
user_is name id p q = ap (λ (n : ℕ). (KeyUser n, id)) p ∙ ap (λ (n : ℕ). (KeyUser 24, n)) q

thread_is : (session slot id number at : ℕ) → session ≡ number → slot ≡ at → id ≡ 17 → ◌≡◌ {A = Row} (KeyThread session slot, id) (KeyThread number at, 17)
thread_is session slot id number at p q r = ap (λ (n : ℕ). (KeyThread n slot, id)) p ∙ (ap (λ (n : ℕ). (KeyThread number n, id)) q ∙ ap (λ (n : ℕ). (KeyThread number at, n)) r)

module _ (setting : Setting) (waits : is_class_of Waits (class_at setting.classes 6) ≡ true) (statements : is_class_of Statements (class_at setting.classes 17) ≡ true) where
  -- ---- which keys and classes have rows

  only_user : (key : Key) (id : ℕ) → HasUser setting (key, id) → ◌≡◌ {A = Row} (key, id) user
  only_user (KeyThread session slot) id h = absurd (let w : false ≡ true = h.of_table in cc)
  only_user (KeyAccount name host) id h = absurd (let w : false ≡ true = h.of_table in cc)
  only_user (KeyHost host) id h = absurd (let w : false ≡ true = h.of_table in cc)
  only_user KeyAll id h = absurd (let w : false ≡ true = h.of_table in cc)
  only_user (KeyUser name) id h = at (name == 24) (id == 6) refl refl h.some where
    at : (a b : Bool) → (name == 24) ≡ a → (id == 6) ≡ b → ((cond ((name == 24) && (id == 6)) two_waits zero_of).count == 0) ≡ false → ◌≡◌ {A = Row} (KeyUser name, id) user
    at true true p q s = user_is name id (eqb-true name 24 p) (eqb-true id 6 q)
    at true false p q s = absurd (let w : true ≡ false = sym (ap (λ a. ((cond (a && (id == 6)) two_waits zero_of).count == 0)) p ∙ ap (λ b. ((cond b two_waits zero_of).count == 0)) q) ∙ s in cc)
    at false b p q s = absurd (let w : true ≡ false = sym (ap (λ a. ((cond (a && (id == 6)) two_waits zero_of).count == 0)) p) ∙ s in cc)

  user_row_is : (row : Row) → HasUser setting row → row ≡ user
  user_row_is row h = only_user row.0 row.1 h

  has_user : HasUser setting user
  has_user = record { of_table = refl; key = tt; class = waits; some = refl }

  some_is : (a b : ℕ) → ◌≡◌ {A = Option ℕ} (Some a) (Some b) → a ≡ b
  some_is a b h = cc

  only_session : (key : Key) (id : ℕ) → HasSession setting (key, id) → Contains (first_one ∷ second_one ∷ []) (key, id)
  only_session (KeyUser name) id h = absurd (let w : false ≡ true = h.of_table in cc)
  only_session (KeyAccount name host) id h = absurd (let w : false ≡ true = h.of_table in cc)
  only_session (KeyHost host) id h = absurd (let w : false ≡ true = h.of_table in cc)
  only_session KeyAll id h = absurd (let w : false ≡ true = h.of_table in cc)
  only_session (KeyThread session slot) id h = at (id == 17) refl (session == 1) refl (session == 2) refl h.key h.some where
    at : (c : Bool) → (id == 17) ≡ c → (a : Bool) → (session == 1) ≡ a → (b : Bool) → (session == 2) ≡ b → slots session ≡ Some slot
        → ((cond (id == 17) (cond (session == 1) one_statement three_untimed) zero_of).count == 0) ≡ false → Contains both (KeyThread session slot, id)
    at false r a p b q k s = absurd (let w : true ≡ false = sym (ap (λ c. ((cond c (cond (session == 1) one_statement three_untimed) zero_of).count == 0)) r) ∙ s in cc)
    at true r true p b q k s =
        let e : ◌≡◌ {A = Option ℕ} (Some 0) (Some slot) = sym (ap (λ (a : Bool). cond a (Some 0) (cond (session == 2) (Some 1) None)) p) ∙ k in
        subst (Contains both) (sym (thread_is session slot id 1 0 (eqb-true session 1 p) (sym (some_is 0 slot e)) (eqb-true id 17 r))) (first first_one (second_one ∷ []))
    at true r false p true q k s =
        let e : ◌≡◌ {A = Option ℕ} (Some 1) (Some slot) = sym (ap (λ (a : Bool). cond a (Some 0) (cond (session == 2) (Some 1) None)) p ∙ ap (λ (b : Bool). cond b (Some 1) None) q) ∙ k in
        subst (Contains both) (sym (thread_is session slot id 2 1 (eqb-true session 2 q) (sym (some_is 1 slot e)) (eqb-true id 17 r))) (later first_one (second_one ∷ []) second_one (first second_one []))
    at true r false p false q k s =
        absurd (let e : ◌≡◌ {A = Option ℕ} None (Some slot) = sym (ap (λ (a : Bool). cond a (Some 0) (cond (session == 2) (Some 1) None)) p ∙ ap (λ (b : Bool). cond b (Some 1) None) q) ∙ k in cc)

  has_first : HasSession setting first_one
  has_first = record { of_table = refl; key = refl; class = statements; some = refl }

  has_second : HasSession setting second_one
  has_second = record { of_table = refl; key = refl; class = statements; some = refl }

  -- ---- the summaries

  all_users : All (λ (row : Row). row ≡ user) (user ∷ [])
  all_users = All-cons (λ (row : Row). row ≡ user) user [] refl (All-nil (λ (row : Row). row ≡ user))

  users_are : AreUsers setting (waited setting ∷ [])
  unfolding values_of times_of
  users_are = record {
    keys = user ∷ [];
    rows_are = refl;
    just = λ row. (λ c. subst (HasUser setting) (sym (All-contains (λ (row : Row). row ≡ user) (user ∷ []) row all_users c)) has_user, λ h. subst (Contains (user ∷ [])) (sym (user_row_is row h)) (first user []));
    once = one_each;
    ascending = AllPairs-cons (StandsBefore setting.names) user [] (All-nil (StandsBefore setting.names user)) (λ i j d l m. absurd (omega (arith, l, m)));
  } where
    one_each : AllPairs (λ (a b : Row). a ≢ b) (user ∷ [])
    one_each = AllPairs-cons (λ (a b : Row). a ≢ b) user [] (All-nil (λ (b : Row). user ≢ b)) (λ i j d l m. absurd (omega (arith, l, m)))

  abbrev number_in : Key → ℕ
  number_in (KeyThread session slot) = session
  number_in key = 0

  sessions_are : AreSessions setting (session_rows setting)
  unfolding values_of times_of sums_of
  sessions_are = record {
    keys = first_one ∷ second_one ∷ [];
    rows_are = refl;
    just = λ row. (λ c. All-contains (HasSession setting) (first_one ∷ second_one ∷ []) row (All-cons (HasSession setting) first_one (second_one ∷ []) has_first (All-cons (HasSession setting) second_one [] has_second (All-nil (HasSession setting)))) c, λ h. only_session row.0 row.1 h);
    once = one_each;
    ascending = AllPairs-cons (StandsBefore setting.names) first_one (second_one ∷ []) (All-cons (StandsBefore setting.names first_one) second_one [] (λ e. absurd (cc)) (All-nil (StandsBefore setting.names first_one)))
        (AllPairs-cons (StandsBefore setting.names) second_one [] (All-nil (StandsBefore setting.names second_one)) (λ i j d l m. absurd (omega (arith, l, m))));
  } where
    apart : first_one ≢ second_one
    apart e = absurd (let w : 1 ≡ 2 = ap (λ (row : Row). number_in row.0) e in omega (arith, w))

    one_each : AllPairs (λ (a b : Row). a ≢ b) (first_one ∷ second_one ∷ [])
    one_each = AllPairs-cons (λ (a b : Row). a ≢ b) first_one (second_one ∷ []) (All-cons (λ (b : Row). first_one ≢ b) second_one [] apart (All-nil (λ (b : Row). first_one ≢ b)))
        (AllPairs-cons (λ (a b : Row). a ≢ b) second_one [] (All-nil (λ (b : Row). second_one ≢ b)) (λ i j d l m. absurd (omega (arith, l, m))))

  -- ---- no others

  none_in : {X : Type 0} (x : X) → Contains {X = X} [] x → ⊥
  none_in x c = absurd (let l = c.1 in omega (arith, l))

  abbrev shown : Row → List RowValue
  shown row = summary_row setting Waits by_user row

  shown_user : shown user ≡ waited setting
  unfolding values_of times_of
  shown_user = refl

  each_is : (rows : List (List RowValue)) → AreUsers setting rows → (row : List RowValue) → Contains rows row → row ≡ waited setting
  each_is rows h row c = on (map_contains shown h.keys row (subst (λ l. Contains l row) h.rows_are c)) where
    on : (x : Row) × Contains h.keys x × (shown x ≡ row) → row ≡ waited setting
    on m = sym m.2 ∙ (ap shown (user_row_is m.0 ((h.just m.0).0 m.1)) ∙ shown_user)

  abbrev number_of : RowValue → ℕ
  number_of (value.Number n) = n
  number_of other = 0

  abbrev number_at : ℕ → List RowValue → ℕ
  number_at place row = number_of (slice_index_or row place value.Null)

  left_out : AreUsers setting [] → ⊥
  left_out h = none_in (shown user) (subst (λ l. Contains l (shown user)) (sym h.rows_are) (contains_map shown h.keys user ((h.just user).1 has_user)))

  two_rows : (keys : List Row) → waited setting ∷ waited setting ∷ [] ≡ map shown keys → ((row : Row) → Contains keys row → row ≡ user) → AllPairs (λ (a b : Row). a ≢ b) keys → ⊥
  two_rows [] e same once = absurd (let w : 2 ≡ 0 = ap (λ (l : List (List RowValue)). length l) e in omega (arith, w))
  two_rows (a ∷ []) e same once = absurd (let w : 2 ≡ 1 = ap (λ (l : List (List RowValue)). length l) e in omega (arith, w))
  two_rows (a ∷ b ∷ keys) e same once = once 0 1 a (omega arith) (omega arith) (same a (first a (b ∷ keys)) ∙ sym (same b (later a (b ∷ keys) b (first b keys))))

  twice : AreUsers setting (waited setting ∷ waited setting ∷ []) → ⊥
  twice h = two_rows h.keys h.rows_are (λ row c. user_row_is row ((h.just row).0 c)) h.once

  with_idle : AreUsers setting (waited setting ∷ idle setting ∷ []) → ⊥
  with_idle h = absurd (let w : 0 ≡ 2 = ap (number_at 2) (each_is (waited setting ∷ idle setting ∷ []) h (idle setting) (later (waited setting) (idle setting ∷ []) (idle setting) (first (idle setting) []))) in omega (arith, w))

  abbrev low : List RowValue
  low = user_row setting 24 (2 ∷ 12 ∷ 0 ∷ 6 ∷ 7 ∷ [])

  too_low : AreUsers setting (low ∷ []) → ⊥
  too_low h = absurd (let w : 0 ≡ 5 = ap (number_at 4) (each_is (low ∷ []) h low (first low [])) in omega (arith, w))

  pub worked_rows : WorkedRows setting
  worked_rows = record {
    users = users_are;
    sessions = sessions_are;
    user = has_user;
    first_session = has_first;
    second_session = has_second;
    idle_user = λ h. absurd (let w : true ≡ false = h.some in cc);
    other_class = λ h. absurd (let w : true ≡ false = h.some in cc);
    other_key = λ h. absurd (let w : false ≡ true = h.of_table in cc);
    other_slot = λ h. absurd (let w : ◌≡◌ {A = Option ℕ} (Some 0) (Some 1) = h.key in cc);
    no_session = λ h. absurd (let w : ◌≡◌ {A = Option ℕ} None (Some 0) = h.key in cc);
    left_out = left_out;
    twice = twice;
    with_idle = with_idle;
    too_low = too_low;
  }

pub worked : WorkedSummaries
worked setting waits statements = worked_rows setting waits statements
