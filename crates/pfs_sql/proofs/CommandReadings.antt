-- Each command is read exactly as it is spelled.
use Rattle.std.proofs.Common.{◌≡◌, ℕ, Bool, true, false, cond, List, [], ◌∷◌, Option, Some, None, refl, sym, ap, subst, ◌∙◌, ◌⊎◌, inl, inr}
use Rattle.std.specs.Prelude.{codes, map}
use Rattle.std.specs.Char.{to_ascii_lowercase}
use Rattle.std.specs.Str.{bytes_eq}
use Rattle.pfs_sql.specs.declared.token.Token.{Token}
use Rattle.pfs_sql.specs.declared.token.Token.TheVariants as tokens
use Rattle.pfs_sql.specs.declared.command.Command.{Command}
use Rattle.pfs_sql.specs.declared.command.Command.TheVariants.{Select, Update, Insert, Delete, Truncate}
use Rattle.pfs_sql.specs.declared.command.SelectCommand.{SelectCommand}
use Rattle.pfs_sql.specs.declared.command.UpdateCommand.{UpdateCommand}
use Rattle.pfs_sql.specs.declared.command.InsertCommand.{InsertCommand}
use Rattle.pfs_sql.specs.declared.command.DeleteCommand.{DeleteCommand}
use Rattle.pfs_sql.specs.declared.command.TruncateCommand.{TruncateCommand}
use Rattle.pfs_sql.specs.declared.command.NamedTest.{NamedTest}
use Rattle.pfs_sql.specs.TokenWords.{is_key, is_comma, is_open, is_close, is_semicolon, table_in}
use Rattle.pfs_sql.specs.Grammar.{Piece, Passes, Table, One, May, Is, Fits, key, separated, optional, text, columns, conditions, test, order, order_items, number, limit, assignment, listed, ending, spelling, is_proper, Spells}
use Rattle.pfs_sql.specs.TokenReaders.{◌>>=◌, after, after_key, given, choose, table_at, columns_at, conditions_at, order_at, limit_at, assignments_at, listed_at, values_at, ends, past_table, select_at, update_at, insert_at, delete_at, truncate_at, removal_at, change_at, command_at, whole, command_of}
use Rattle.pfs_sql.proofs.ExactReadings.{bind_some, pair_parts, rest_part, Avoids, key_takes, key_again, avoids_one, avoids_end, avoids_clause, avoids_optional, choose_some}
use Rattle.pfs_sql.proofs.CommandParts.{keys_apart, key_comma, key_open, semicolon_key, semicolon_comma, table_exact, columns_exact, conditions_exact, order_exact, limit_exact, assignments_exact, listed_exact, values_exact, may_takes, may_none, may_again, OrderCloses}

-- ---- what may follow

end_avoids : (v : List ℕ) → Avoids (is_key v) ending
end_avoids v = avoids_end is_semicolon (is_key v) (semicolon_key v)

abbrev ConditionsClose : List Piece → Type 0
ConditionsClose tail = (Unit {0} × Avoids (is_key (codes "and")) tail) × Avoids (is_key (codes "where")) tail

end_closes_conditions : ConditionsClose ending
end_closes_conditions = ((tt, end_avoids (codes "and")), end_avoids (codes "where"))

order_closes_conditions : (s : SelectCommand) → ConditionsClose (order s.order (limit s.limit ending))
order_closes_conditions s =
    let tail : List Piece = limit s.limit ending in (
      (
        tt,
        avoids_clause (is_key (codes "order")) (is_key (codes "and")) order_items s.order tail (keys_apart (codes "order") (codes "and") refl)
            (avoids_optional (is_key (codes "limit")) (is_key (codes "and")) number s.limit ending (keys_apart (codes "limit") (codes "and") refl) (end_avoids (codes "and"))),
      ),
      avoids_clause (is_key (codes "order")) (is_key (codes "where")) order_items s.order tail (keys_apart (codes "order") (codes "where") refl)
          (avoids_optional (is_key (codes "limit")) (is_key (codes "where")) number s.limit ending (keys_apart (codes "limit") (codes "where") refl) (end_avoids (codes "where"))),
    )

limit_avoids : (o : Option ℕ) (v : List ℕ) → bytes_eq (map to_ascii_lowercase (codes "limit")) (map to_ascii_lowercase v) ≡ false → Avoids (is_key v) (limit o ending)
limit_avoids o v differ = avoids_optional (is_key (codes "limit")) (is_key v) number o ending (keys_apart (codes "limit") v differ) (end_avoids v)

limit_closes_order : (o : Option ℕ) → OrderCloses (limit o ending)
limit_closes_order o = (
  (
    (limit_avoids o (codes "asc") refl, limit_avoids o (codes "desc") refl),
    avoids_optional (is_key (codes "limit")) is_comma number o ending (key_comma (codes "limit")) (avoids_end is_semicolon is_comma semicolon_comma),
  ),
  limit_avoids o (codes "order") refl,
)

conditions_avoid_comma : (tests : List NamedTest) → Avoids is_comma (conditions tests ending)
conditions_avoid_comma tests = avoids_clause (is_key (codes "where")) is_comma (separated (is_key (codes "and")) test) tests ending (key_comma (codes "where")) (avoids_end is_semicolon is_comma semicolon_comma)

along : (ts rest : List Token) (tail : List Piece) → ts ≡ rest → Fits tail rest → Fits tail ts
along ts rest tail e h = subst (λ us. Fits tail us) (sym e) h

-- ---- SELECT

select_takes : (ts more rest : List Token) (c : Command) → after_key (codes "select") ts ≡ Some more → select_at more ≡ Some (c, rest) → Fits ending rest → Fits (spelling c) ts
unfolding select_at
select_takes ts more rest c first e h =
    let x1 = bind_some (columns_at more) _ (c, rest) e in
    let x2 = bind_some (after_key (codes "from") x1.0.1) _ (c, rest) x1.2 in
    let x3 = bind_some (table_at x2.0) _ (c, rest) x2.2 in
    let x4 = bind_some (conditions_at x3.0.1) _ (c, rest) x3.2 in
    let x5 = bind_some (order_at x4.0.1) _ (c, rest) x4.2 in
    let x6 = bind_some (limit_at x5.0.1) _ (c, rest) x5.2 in
    let s : SelectCommand = record { columns = x1.0.0; table = x3.0.0; tests = x4.0.0; order = x5.0.0; limit = x6.0.0 } in
    let parts = pair_parts (Select s) c (x6.0.1) rest x6.2 in
    let c-is : Select s ≡ c = parts.0 in
    let rest-is : x6.0.1 ≡ rest = parts.1 in
    let f6 = limit_exact.takes x5.0.1 x6.0.0 x6.0.1 ending x6.1 (along x6.0.1 rest ending rest-is h) in
    let f5 = order_exact.takes x4.0.1 x5.0.0 x5.0.1 (limit s.limit ending) x5.1 f6 in
    let f4 = conditions_exact.takes x3.0.1 x4.0.0 x4.0.1 (order s.order (limit s.limit ending)) x4.1 f5 in
    let f3 = table_exact.takes x2.0 x3.0.0 x3.0.1 (conditions s.tests (order s.order (limit s.limit ending))) x3.1 f4 in
    let f2 = key_takes (is_key (codes "from")) x1.0.1 x2.0 (One (Table s.table) ∷ conditions s.tests (order s.order (limit s.limit ending))) x2.1 f3 in
    let f1 = columns_exact.takes more x1.0.0 x1.0.1 (key (codes "from") ∷ One (Table s.table) ∷ conditions s.tests (order s.order (limit s.limit ending))) x1.1 f2 in
    subst (λ (d : Command). Fits (spelling d) ts) c-is
    (key_takes (is_key (codes "select")) ts more (columns s.columns (key (codes "from") ∷ One (Table s.table) ∷ conditions s.tests (order s.order (limit s.limit ending)))) first f1)

select_again : (ts : List Token) (s : SelectCommand) → Fits (columns s.columns (key (codes "from") ∷ One (Table s.table) ∷ conditions s.tests (order s.order (limit s.limit ending)))) ts
    → (rest : List Token) × (select_at ts ≡ Some (Select s, rest)) × Fits ending rest
unfolding select_at
select_again ts s h =
    let t4 : List Piece = order s.order (limit s.limit ending) in
    let t3 : List Piece = conditions s.tests t4 in
    let a1 = columns_exact.again ts s.columns (key (codes "from") ∷ One (Table s.table) ∷ t3) (avoids_one (is_key (codes "from")) is_comma (One (Table s.table) ∷ t3) (key_comma (codes "from"))) h in
    let a2 = key_again (is_key (codes "from")) a1.0 (One (Table s.table) ∷ t3) a1.2 in
    let a3 = table_exact.again a2.0 s.table t3 tt a2.2 in
    let a4 = conditions_exact.again a3.0 s.tests t4 (order_closes_conditions s) a3.2 in
    let a5 = order_exact.again a4.0 s.order (limit s.limit ending) (limit_closes_order s.limit) a4.2 in
    let a6 = limit_exact.again a5.0 s.limit ending (tt, end_avoids (codes "limit")) a5.2 in
    (a6.0, rw (a1.1, a2.1, a3.1, a4.1, a5.1, a6.1) refl, a6.2)

-- ---- UPDATE

update_takes : (ts more rest : List Token) (c : Command) → after_key (codes "update") ts ≡ Some more → update_at more ≡ Some (c, rest) → Fits ending rest → Fits (spelling c) ts
unfolding update_at
update_takes ts more rest c first e h =
    let x1 = bind_some (table_at more) _ (c, rest) e in
    let x2 = bind_some (after_key (codes "set") x1.0.1) _ (c, rest) x1.2 in
    let x3 = bind_some (assignments_at x2.0) _ (c, rest) x2.2 in
    let x4 = bind_some (conditions_at x3.0.1) _ (c, rest) x3.2 in
    let u : UpdateCommand = record { table = x1.0.0; sets = x3.0.0; tests = x4.0.0 } in
    let parts = pair_parts (Update u) c (x4.0.1) rest x4.2 in
    let c-is : Update u ≡ c = parts.0 in
    let rest-is : x4.0.1 ≡ rest = parts.1 in
    let t3 : List Piece = conditions u.tests ending in
    let f4 = conditions_exact.takes x3.0.1 x4.0.0 x4.0.1 ending x4.1 (along x4.0.1 rest ending rest-is h) in
    let f3 = assignments_exact.takes x2.0 x3.0.0 x3.0.1 t3 x3.1 f4 in
    let f2 = key_takes (is_key (codes "set")) x1.0.1 x2.0 (separated is_comma assignment u.sets t3) x2.1 f3 in
    let f1 = table_exact.takes more x1.0.0 x1.0.1 (key (codes "set") ∷ separated is_comma assignment u.sets t3) x1.1 f2 in
    subst (λ (d : Command). Fits (spelling d) ts) c-is
    (key_takes (is_key (codes "update")) ts more (One (Table u.table) ∷ key (codes "set") ∷ separated is_comma assignment u.sets t3) first f1)

update_again : (ts : List Token) (u : UpdateCommand) → Fits (One (Table u.table) ∷ key (codes "set") ∷ separated is_comma assignment u.sets (conditions u.tests ending)) ts
    → (rest : List Token) × (update_at ts ≡ Some (Update u, rest)) × Fits ending rest
unfolding update_at
update_again ts u h =
    let t3 : List Piece = conditions u.tests ending in
    let a1 = table_exact.again ts u.table (key (codes "set") ∷ separated is_comma assignment u.sets t3) tt h in
    let a2 = key_again (is_key (codes "set")) a1.0 (separated is_comma assignment u.sets t3) a1.2 in
    let a3 = assignments_exact.again a2.0 u.sets t3 (tt, conditions_avoid_comma u.tests) a2.2 in
    let a4 = conditions_exact.again a3.0 u.tests ending end_closes_conditions a3.2 in
    (a4.0, rw (a1.1, a2.1, a3.1, a4.1) refl, a4.2)

-- ---- INSERT

abbrev values : List (List ℕ) → List Piece
values list = key (codes "values") ∷ One (Passes is_open) ∷ separated is_comma text list (One (Passes is_close) ∷ ending)

insert_takes : (ts more rest : List Token) (c : Command) → after_key (codes "insert") ts ≡ Some more → insert_at more ≡ Some (c, rest) → Fits ending rest → Fits (spelling c) ts
unfolding insert_at
insert_takes ts more rest c first e h =
    let x1 = bind_some (after_key (codes "into") more) _ (c, rest) e in
    let x2 = bind_some (table_at x1.0) _ (c, rest) x1.2 in
    let x3 = bind_some (listed_at x2.0.1) _ (c, rest) x2.2 in
    let x4 = bind_some (values_at x3.0.1) _ (c, rest) x3.2 in
    let i : InsertCommand = record { table = x2.0.0; columns = x3.0.0; values = x4.0.0 } in
    let parts = pair_parts (Insert i) c (x4.0.1) rest x4.2 in
    let c-is : Insert i ≡ c = parts.0 in
    let rest-is : x4.0.1 ≡ rest = parts.1 in
    let f4 = values_exact.takes x3.0.1 x4.0.0 x4.0.1 ending x4.1 (along x4.0.1 rest ending rest-is h) in
    let f3 = listed_exact.takes x2.0.1 x3.0.0 x3.0.1 (values i.values) x3.1 f4 in
    let f2 = table_exact.takes x1.0 x2.0.0 x2.0.1 (optional is_open listed i.columns (values i.values)) x2.1 f3 in
    let f1 = key_takes (is_key (codes "into")) more x1.0 (One (Table i.table) ∷ optional is_open listed i.columns (values i.values)) x1.1 f2 in
    subst (λ (d : Command). Fits (spelling d) ts) c-is
    (key_takes (is_key (codes "insert")) ts more (key (codes "into") ∷ One (Table i.table) ∷ optional is_open listed i.columns (values i.values)) first f1)

insert_again : (ts : List Token) (i : InsertCommand) → Fits (key (codes "into") ∷ One (Table i.table) ∷ optional is_open listed i.columns (values i.values)) ts
    → (rest : List Token) × (insert_at ts ≡ Some (Insert i, rest)) × Fits ending rest
unfolding insert_at
insert_again ts i h =
    let t2 : List Piece = optional is_open listed i.columns (values i.values) in
    let a1 = key_again (is_key (codes "into")) ts (One (Table i.table) ∷ t2) h in
    let a2 = table_exact.again a1.0 i.table t2 tt a1.2 in
    let a3 = listed_exact.again a2.0 i.columns (values i.values) (tt, avoids_one (is_key (codes "values")) is_open (One (Passes is_open) ∷ separated is_comma text i.values (One (Passes is_close) ∷ ending)) (key_open (codes "values"))) a2.2 in
    let a4 = values_exact.again a3.0 i.values ending tt a3.2 in
    (a4.0, rw (a1.1, a2.1, a3.1, a4.1) refl, a4.2)

-- ---- DELETE

delete_takes : (ts more rest : List Token) (c : Command) → after_key (codes "delete") ts ≡ Some more → delete_at more ≡ Some (c, rest) → Fits ending rest → Fits (spelling c) ts
unfolding delete_at
delete_takes ts more rest c first e h =
    let x1 = bind_some (after_key (codes "from") more) _ (c, rest) e in
    let x2 = bind_some (table_at x1.0) _ (c, rest) x1.2 in
    let x3 = bind_some (conditions_at x2.0.1) _ (c, rest) x2.2 in
    let d : DeleteCommand = record { table = x2.0.0; tests = x3.0.0 } in
    let parts = pair_parts (Delete d) c (x3.0.1) rest x3.2 in
    let c-is : Delete d ≡ c = parts.0 in
    let rest-is : x3.0.1 ≡ rest = parts.1 in
    let f3 = conditions_exact.takes x2.0.1 x3.0.0 x3.0.1 ending x3.1 (along x3.0.1 rest ending rest-is h) in
    let f2 = table_exact.takes x1.0 x2.0.0 x2.0.1 (conditions d.tests ending) x2.1 f3 in
    let f1 = key_takes (is_key (codes "from")) more x1.0 (One (Table d.table) ∷ conditions d.tests ending) x1.1 f2 in
    subst (λ (d : Command). Fits (spelling d) ts) c-is
    (key_takes (is_key (codes "delete")) ts more (key (codes "from") ∷ One (Table d.table) ∷ conditions d.tests ending) first f1)

delete_again : (ts : List Token) (d : DeleteCommand) → Fits (key (codes "from") ∷ One (Table d.table) ∷ conditions d.tests ending) ts
    → (rest : List Token) × (delete_at ts ≡ Some (Delete d, rest)) × Fits ending rest
unfolding delete_at
delete_again ts d h =
    let a1 = key_again (is_key (codes "from")) ts (One (Table d.table) ∷ conditions d.tests ending) h in
    let a2 = table_exact.again a1.0 d.table (conditions d.tests ending) tt a1.2 in
    let a3 = conditions_exact.again a2.0 d.tests ending end_closes_conditions a2.2 in
    (a3.0, rw (a1.1, a2.1, a3.1) refl, a3.2)

-- ---- TRUNCATE

abbrev table : List Piece → List Piece
table tail = May (Passes (is_key (codes "table"))) ∷ tail

past_takes : (ts : List Token) (tail : List Piece) → Fits tail (past_table ts) → Fits (table tail) ts
unfolding past_table
past_takes ts tail h = by_key (after_key (codes "table") ts) refl h
  where
    by_end : (rest : List Token) (b : Bool) → after_key (codes "table") ts ≡ Some rest → Fits tail (cond b ts rest) → Fits (table tail) ts
    by_end rest true e h = may_none (is_key (codes "table")) ts tail h
    by_end rest false e h = may_takes (is_key (codes "table")) ts rest tail e h

    by_key : (o : Option (List Token)) → after_key (codes "table") ts ≡ o → Fits tail (choose o (λ rest. cond (ends rest) ts rest) ts) → Fits (table tail) ts
    by_key (Some rest) e h = by_end rest (ends rest) e h
    by_key None e h = may_none (is_key (codes "table")) ts tail h

truncate_takes : (ts more rest : List Token) (c : Command) → after_key (codes "truncate") ts ≡ Some more → truncate_at more ≡ Some (c, rest) → Fits ending rest → Fits (spelling c) ts
unfolding truncate_at
truncate_takes ts more rest c first e h =
    let x1 = bind_some (table_at (past_table more)) _ (c, rest) e in
    let t : TruncateCommand = record { table = x1.0.0 } in
    let parts = pair_parts (Truncate t) c (x1.0.1) rest x1.2 in
    let c-is : Truncate t ≡ c = parts.0 in
    let rest-is : x1.0.1 ≡ rest = parts.1 in
    let f2 = table_exact.takes (past_table more) x1.0.0 x1.0.1 ending x1.1 (along x1.0.1 rest ending rest-is h) in
    let f1 = past_takes more (One (Table t.table) ∷ ending) f2 in
    subst (λ (d : Command). Fits (spelling d) ts) c-is (key_takes (is_key (codes "truncate")) ts more (table (One (Table t.table) ∷ ending)) first f1)

-- the end has no token but `;`
pub ends_from : (ts : List Token) → Fits ending ts → ends ts ≡ true
ends_from [] h = refl
ends_from (token ∷ []) (inl h) = h.0
ends_from (token ∷ []) (inr h) = absurd h
ends_from (token ∷ more ∷ ts) (inl h) = absurd h.1
ends_from (token ∷ more ∷ ts) (inr h) = absurd h

pub ends_to : (ts : List Token) → ends ts ≡ true → Fits ending ts
ends_to [] h = tt
ends_to (token ∷ []) h = inl (h, tt)
ends_to (token ∷ more ∷ ts) h = absurd cc

-- a table's name is no end
not_ends : (name : List ℕ) (ts : List Token) (tail : List Piece) → Fits (One (Table name) ∷ tail) ts → ends ts ≡ false
not_ends name [] tail h = absurd h
not_ends name (tokens.Semicolon ∷ []) tail h = absurd cc
not_ends name (token ∷ []) tail h = refl
not_ends name (token ∷ more ∷ ts) tail h = refl

past_other : (name : List ℕ) (ts : List Token) → Fits (One (Table name) ∷ ending) ts → past_table ts ≡ ts
unfolding past_table
past_other name [] h = refl
past_other name (token ∷ ts) h = by_test (is_key (codes "table") token)
  where
    by_test : (b : Bool) → choose (given b ts) (λ rest. cond (ends rest) (token ∷ ts) rest) (token ∷ ts) ≡ token ∷ ts
    by_test true = rw (ends_from ts h.1) refl
    by_test false = refl

past_again : (name : List ℕ) (ts : List Token) → Fits (table (One (Table name) ∷ ending)) ts → Fits (One (Table name) ∷ ending) (past_table ts)
unfolding past_table
past_again name ts h =
    elim (may_again (is_key (codes "table")) ts (One (Table name) ∷ ending) h) [
      | inl k ↦ rw (k.1, not_ends name k.0 ending k.2) k.2
      | inr k ↦ along (past_table ts) ts (One (Table name) ∷ ending) (past_other name ts k) k
    ]

truncate_again : (ts : List Token) (t : TruncateCommand) → Fits (table (One (Table t.table) ∷ ending)) ts → (rest : List Token) × (truncate_at ts ≡ Some (Truncate t, rest)) × Fits ending rest
unfolding truncate_at
truncate_again ts t h =
    let a = table_exact.again (past_table ts) t.table ending tt (past_again t.table ts h) in
    (a.0, rw a.1 refl, a.2)

-- ---- all commands

command_takes : (ts rest : List Token) (c : Command) → command_at ts ≡ Some (c, rest) → Fits ending rest → Fits (spelling c) ts
unfolding command_at change_at removal_at
command_takes ts rest c e h =
    choose_some (after_key (codes "select") ts) select_at (change_at ts) (c, rest) e (λ more n f. select_takes ts more rest c n f h)
    (λ _ f. choose_some (after_key (codes "update") ts) update_at _ (c, rest) f (λ more n g. update_takes ts more rest c n g h)
    (λ _ g. choose_some (after_key (codes "insert") ts) insert_at (removal_at ts) (c, rest) g (λ more n k. insert_takes ts more rest c n k h)
    (λ _ k. choose_some (after_key (codes "delete") ts) delete_at _ (c, rest) k (λ more n l. delete_takes ts more rest c n l h)
    (λ _ l. let b = bind_some (after_key (codes "truncate") ts) truncate_at (c, rest) l in truncate_takes ts b.0 rest c b.1 b.2 h))))

other : (v w : List ℕ) (ts : List Token) (tail : List Piece) → bytes_eq (map to_ascii_lowercase v) (map to_ascii_lowercase w) ≡ false → Fits (key v ∷ tail) ts → after_key w ts ≡ None
other v w ts tail differ h = avoids_one (is_key v) (is_key w) tail (keys_apart v w differ) ts h

command_again : (ts : List Token) (c : Command) → Fits (spelling c) ts → (rest : List Token) × (command_at ts ≡ Some (c, rest)) × Fits ending rest
unfolding command_at change_at removal_at
command_again ts (Select s) h =
    let body : List Piece = columns s.columns (key (codes "from") ∷ One (Table s.table) ∷ conditions s.tests (order s.order (limit s.limit ending))) in
    let k = key_again (is_key (codes "select")) ts body h in
    let a = select_again k.0 s k.2 in
    (a.0, rw (k.1, a.1) refl, a.2)
command_again ts (Update u) h =
    let body : List Piece = One (Table u.table) ∷ key (codes "set") ∷ separated is_comma assignment u.sets (conditions u.tests ending) in
    let n1 = other (codes "update") (codes "select") ts body refl h in
    let k = key_again (is_key (codes "update")) ts body h in
    let a = update_again k.0 u k.2 in
    (a.0, rw (n1, k.1, a.1) refl, a.2)
command_again ts (Insert i) h =
    let body : List Piece = key (codes "into") ∷ One (Table i.table) ∷ optional is_open listed i.columns (values i.values) in
    let n1 = other (codes "insert") (codes "select") ts body refl h in
    let n2 = other (codes "insert") (codes "update") ts body refl h in
    let k = key_again (is_key (codes "insert")) ts body h in
    let a = insert_again k.0 i k.2 in
    (a.0, rw (n1, n2, k.1, a.1) refl, a.2)
command_again ts (Delete d) h =
    let body : List Piece = key (codes "from") ∷ One (Table d.table) ∷ conditions d.tests ending in
    let n1 = other (codes "delete") (codes "select") ts body refl h in
    let n2 = other (codes "delete") (codes "update") ts body refl h in
    let n3 = other (codes "delete") (codes "insert") ts body refl h in
    let k = key_again (is_key (codes "delete")) ts body h in
    let a = delete_again k.0 d k.2 in
    (a.0, rw (n1, n2, n3, k.1, a.1) refl, a.2)
command_again ts (Truncate t) h =
    let body : List Piece = table (One (Table t.table) ∷ ending) in
    let n1 = other (codes "truncate") (codes "select") ts body refl h in
    let n2 = other (codes "truncate") (codes "update") ts body refl h in
    let n3 = other (codes "truncate") (codes "insert") ts body refl h in
    let n4 = other (codes "truncate") (codes "delete") ts body refl h in
    let k = key_again (is_key (codes "truncate")) ts body h in
    let a = truncate_again k.0 t k.2 in
    (a.0, rw (n1, n2, n3, n4, k.1, a.1) refl, a.2)

guarded : {A : Type 0} (b : Bool) (x y : A) → cond b (Some x) None ≡ Some y → (b ≡ true) × (x ≡ y)
guarded true x y e = (refl, cc)
guarded false x y e = absurd cc

-- what is read of the tokens, they spell
pub spells_takes : (ts : List Token) (c : Command) → command_of ts ≡ Some c → Spells ts c
unfolding command_of whole
spells_takes ts c e =
    let x = bind_some (whole ts) (λ d. cond (is_proper d) (Some d) None) c e in
    let y = bind_some (command_at ts) (λ d. cond (ends d.1) (Some d.0) None) x.0 x.1 in
    let p = guarded (is_proper x.0) x.0 c x.2 in
    let q = guarded (ends y.0.1) y.0.0 x.0 y.2 in
    let read = command_takes ts y.0.1 y.0.0 y.1 (ends_to y.0.1 q.0) in
    (subst (λ (d : Command). Fits (spelling d) ts) (q.1 ∙ p.1) read, subst (λ (d : Command). is_proper d ≡ true) p.1 p.0)

-- and what they spell is read
pub spells_again : (ts : List Token) (c : Command) → Spells ts c → command_of ts ≡ Some c
unfolding command_of whole
spells_again ts c h =
    let a = command_again ts c h.0 in
    rw (a.1, ends_from a.0 a.2, h.1) refl

-- so the tokens spell one command at most
pub one_spelled : (ts : List Token) (a b : Command) → Spells ts a → Spells ts b → a ≡ b
one_spelled ts a b p q =
    let same = sym (spells_again ts a p) ∙ spells_again ts b q in
    cc
