-- A text that asks for a truncation begins with that word, so it weighs as one.
use Rattle.std.proofs.Common.{ℕ, suc, ◌≡◌, ◌≤◌, ◌+◌, Bool, true, false, cond, nat_lt, nat_le, List, [], ◌∷◌, ◌++◌, length, map, Option, Some, None, refl, sym, ap, ◌∙◌, inl, inr, arith}
use Rattle.std.specs.Prelude.{codes}
use Rattle.std.specs.Char.{to_ascii_lowercase}
use Rattle.std.specs.List.{list_all, position_or_len, prefix_len}
use Rattle.std.specs.Str.{str_eq_ignore_ascii_case}
use Rattle.std.proofs.lemmas.Bool.{cases_Bool, le-leb}
use Rattle.std.proofs.lemmas.Bool.Decides.{nat_tests}
use Rattle.std.proofs.lemmas.List.{length-append, length-map, take_at}
use Rattle.std.proofs.lemmas.Slice.Eq.{bytes_eq-Decides}
use Rattle.pfs_exec.specs.declared.changes.Change.TheVariants as changes
use Rattle.pfs_exec.specs.Plans.{fault_of, plan_of, table_text}
use Rattle.pfs_exec.specs.declared.query.Plan.{Plan}
use Rattle.pfs_exec.specs.declared.query.Plan.TheVariants as plans
use Rattle.pfs_exec.specs.declared.query.Select.{Select}
use Rattle.pfs_exec.specs.Requests.{asks_for, asks_on, asks_plan, asks_rows, command_in, request_of, skip, table_in, tokens_from, unless}
use Rattle.pfs_exec.specs.declared.requests.Request.TheVariants as requests
use Rattle.pfs_rows.specs.declared.table.Table.{Table}
use Rattle.pfs_rows.specs.declared.table.Table.TheVariants as tables
use Rattle.pfs_script.specs.CommandFronts.{begins_with, command_of, is_solid}
use Rattle.pfs_script.specs.Reasons.{sql_weight}
use Rattle.pfs_sql.specs.TextCuts.{token_of}
use Rattle.pfs_sql.specs.Grammar.{Fits, spelling}
use Rattle.pfs_sql.specs.TokenReaders.{◌>>=◌}
use Rattle.pfs_sql.specs.TokenReaders as readings
use Rattle.pfs_sql.specs.Tokens.{is_blank, Begins}
use Rattle.pfs_sql.specs.TokenWords.{is_key}
use Rattle.pfs_sql.specs.declared.command.Command.{Command}
use Rattle.pfs_sql.specs.declared.command.Command.TheVariants as commands
use Rattle.pfs_sql.specs.declared.command.TruncateCommand.{TruncateCommand}
use Rattle.pfs_sql.specs.declared.faults.SqlError.{SqlError}
use Rattle.pfs_sql.specs.declared.token.Token.{Token}
use Rattle.pfs_sql.specs.declared.token.Token.TheVariants as tokens
use Rattle.pfs_sql.proofs.ExactReadings.{bind_some}
use Rattle.pfs_sql.proofs.TokenCuts.{token_takes}
use Rattle.pfs_sql.proofs.CommandReadings.{spells_takes}
use Rattle.pfs_rows.specs.declared.truncations.Truncation.{Truncation}

-- ---- the command

-- no reading of rows is a truncation
rows_none : (table : Table) (select : Select) (what : Truncation) → asks_rows table select ≡ requests.Truncate what → ⊥
rows_none tables.SetupActors select what e = cc
rows_none tables.SetupObjects select what e = cc
rows_none _ select what e = cc

plan_truncates : (plan : Plan) (what : Truncation) → asks_plan plan ≡ requests.Truncate what → (table : Table) × (plan ≡ plans.Change (changes.Truncate table))
plan_truncates (plans.Select select) what e = absurd (rows_none select.table select what e)
plan_truncates (plans.Change (changes.Truncate table)) what e = (table, refl)
plan_truncates (plans.Change _) what e = absurd cc

command_planned : (table at : Table) (command : Command) → plan_of table command ≡ plans.Change (changes.Truncate at) → (t : TruncateCommand) × (command ≡ commands.Truncate t)
command_planned table at (commands.Truncate t) e = (t, refl)
command_planned table at _ e = absurd cc

command_kept : (fault : Option SqlError) (table : Table) (command : Command) (what : Truncation) → unless fault table command ≡ requests.Truncate what
    → (t : TruncateCommand) × (command ≡ commands.Truncate t)
command_kept (Some error) table command what e = absurd cc
command_kept None table command what e =
    let plan = plan_truncates (plan_of table command) what e in command_planned table plan.0 command plan.1

command_on : (table : Option Table) (command : Command) (what : Truncation) → asks_on table command ≡ requests.Truncate what
    → (t : TruncateCommand) × (command ≡ commands.Truncate t)
command_on None command what e = absurd cc
command_on (Some table) command what e = command_kept (fault_of table command) table command what e

command_truncates : (command : Option Command) (what : Truncation) → asks_for command ≡ requests.Truncate what
    → (t : TruncateCommand) × (command ≡ Some (commands.Truncate t))
command_truncates None what e = absurd cc
command_truncates (Some command) what e =
    let on = command_on (table_in (table_text command)) command what e in (on.0, ap Some on.1)

-- ---- its first token

first_key : (line : List Token) (t : TruncateCommand) → Fits (spelling (commands.Truncate t)) line
    → (token : Token) × (rest : List Token) × (line ≡ token ∷ rest) × (is_key (codes "truncate") token ≡ true)
first_key [] t h = absurd h
first_key (token ∷ rest) t h = (token, rest, refl, h.0)

command_blank : (byte : ℕ) (bytes : List ℕ) → is_blank byte ≡ true → command_of (byte ∷ bytes) ≡ command_of bytes
unfolding command_of
command_blank byte bytes h =
    let at = position_or_len is_solid bytes in
    let next : position_or_len is_solid (byte ∷ bytes) ≡ suc at = rw h (omega arith) in
    elim (cases_Bool (nat_lt at (length bytes))) [
      | inl t ↦ let more : nat_lt (suc at) (length (byte ∷ bytes)) ≡ true = grind (arith, nat_tests, t) in rw (next, more, t) refl
      | inr f ↦ let more : nat_lt (suc at) (length (byte ∷ bytes)) ≡ false = grind (arith, nat_tests, f) in rw (next, more, f) refl
    ]

command_solid : (byte : ℕ) (bytes : List ℕ) → is_blank byte ≡ false → command_of (byte ∷ bytes) ≡ byte ∷ bytes
unfolding command_of
command_solid byte bytes h =
    let here : position_or_len is_solid (byte ∷ bytes) ≡ 0 = rw h refl in
    let some : nat_lt 0 (length (byte ∷ bytes)) ≡ true = grind (arith, nat_tests) in
    rw (here, some) refl

-- both skip the same blanks
skipped : (text : List ℕ) → command_of text ≡ skip text
unfolding command_of
skipped [] = refl
skipped (byte ∷ bytes) =
    elim (cases_Bool (is_blank byte)) [
      | inl t ↦
          let next : 1 + prefix_len is_blank bytes ≡ suc (prefix_len is_blank bytes) = omega arith in
          command_blank byte bytes t ∙ (skipped bytes ∙ rw (t, next) refl)
      | inr f ↦ command_solid byte bytes f ∙ rw f refl
    ]

-- the first token stands behind the blanks
first_cut : (blank : Bool) (front : Option (Token × List ℕ)) (n : ℕ) (token : Token) (rest : List Token)
    → cond blank (Some []) (front >>= λ x. tokens_from n x.1 >>= λ more. Some (x.0 ∷ more)) ≡ Some (token ∷ rest)
    → (behind : List ℕ) × (front ≡ Some (token, behind))
first_cut true front n token rest e = absurd cc
first_cut false front n token rest e =
    let x = bind_some front (λ y. tokens_from n y.1 >>= λ more. Some (y.0 ∷ more)) (token ∷ rest) e in
    let y = bind_some (tokens_from n x.0.1) (λ more. Some (x.0.0 ∷ more)) (token ∷ rest) x.2 in
    let same : x.0.0 ≡ token = let whole = y.2 in cc in
    (x.0.1, x.1 ∙ ap (λ (z : Token). Some (z, x.0.1)) same)

text_cut : (n : ℕ) (text : List ℕ) (token : Token) (rest : List Token) → tokens_from (suc n) text ≡ Some (token ∷ rest)
    → (behind : List ℕ) × (token_of (command_of text) ≡ Some (token, behind))
unfolding tokens_from
text_cut n text token rest e =
    let first = first_cut (list_all is_blank text) (token_of (skip text)) n token rest e in
    (first.0, ap token_of (skipped text) ∙ first.1)

-- ---- its letters

-- eight letters that are the word's in any case
word_length : (word : List ℕ) → str_eq_ignore_ascii_case word (codes "truncate") ≡ true → length word ≡ 8
word_length word h =
    let same = (bytes_eq-Decides (map to_ascii_lowercase word) (map to_ascii_lowercase (codes "truncate"))).0 h in
    sym (length-map word to_ascii_lowercase) ∙ ap length same

first_letter : (letter : ℕ) (word : List ℕ) → str_eq_ignore_ascii_case (letter ∷ word) (codes "truncate") ≡ true → to_ascii_lowercase letter ≡ 116
first_letter letter word h =
    let same = (bytes_eq-Decides (map to_ascii_lowercase (letter ∷ word)) (map to_ascii_lowercase (codes "truncate"))).0 h in
    cc

begins : (word behind text : List ℕ) → str_eq_ignore_ascii_case word (codes "truncate") ≡ true → command_of text ≡ word ++ behind → begins_with (codes "truncate") text ≡ true
unfolding begins_with
begins word behind text h e =
    let long = word_length word h in
    let both = length-append word behind in
    let room : nat_le 8 (length (word ++ behind)) ≡ true = le-leb 8 (length (word ++ behind)) (omega (arith, long, both)) in
    rw (e, room, take_at word behind 8 long) h

begins_else : (word behind text : List ℕ) → str_eq_ignore_ascii_case word (codes "truncate") ≡ true → command_of text ≡ word ++ behind → begins_with (codes "select") text ≡ false
unfolding begins_with
begins_else [] behind text h e = absurd cc
begins_else (letter ∷ word) behind text h e =
    let other : to_ascii_lowercase letter ≡ 116 = first_letter letter word h in
    let long = word_length (letter ∷ word) h in
    let both = length-append (letter ∷ word) behind in
    let room : nat_le 6 (length ((letter ∷ word) ++ behind)) ≡ true = le-leb 6 (length ((letter ∷ word) ++ behind)) (omega (arith, long, both)) in
    rw (e, room, other) refl

word_weighs : (token : Token) (text behind : List ℕ) → is_key (codes "truncate") token ≡ true → Begins token (command_of text) behind → sql_weight text ≡ 20000
word_weighs (tokens.Word word) text behind h b =
    let e : command_of text ≡ word ++ behind = b.2 ∙ ap (λ (front : List ℕ). front ++ behind) b.1.0 in
    rw (begins_else word behind text h e, begins word behind text h e) refl
word_weighs _ text behind h b = absurd cc

-- a text that asks for a truncation weighs as much as 20,000 lines
pub truncation_weighs : (text : List ℕ) (what : Truncation) → request_of text ≡ requests.Truncate what → sql_weight text ≡ 20000
unfolding request_of command_in
truncation_weighs text what e =
    let command = command_truncates (command_in text) what e in
    let cut = bind_some (tokens_from (suc (length text)) text) readings.command_of (commands.Truncate command.0) command.1 in
    let first = first_key cut.0 command.0 (spells_takes cut.0 (commands.Truncate command.0) cut.2).0 in
    let at = text_cut (length text) text first.0 first.1 (cut.1 ∙ ap Some first.2) in
    word_weighs first.0 text at.0 first.3 (token_takes (command_of text) first.0 at.0 at.1)
