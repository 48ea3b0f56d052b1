use Rattle.std.proofs.Common.{ℕ, ◌≡◌, List, ◌∷◌, ◌++◌, Bor, IfOk, sym, subst}
use Rattle.std.specs.Prelude.{MatchOption}
use Rattle.pfs_text.specs.declared.values.RowValue.{RowValue}
use Rattle.pfs_journal.specs.Spelling.{value_text}
use Rattle.pfs_journal.proofs.ValueReadings.{plain_only, plain_told, text_rest}
use Rattle.pfs_journal.proofs.guess.value.Goals as goal

pub returns-in-Some-clause-said : goal.returns-in-Some-clause-said
returns-in-Some-clause-said c = λ said behind fits stops same.
    let text = plain_only said c.args.bytes.now behind c.in-Some.length fits same c.in-Some.ensures in
    subst (λ (v : RowValue). IfOk c.quoted_value.result (λ found. MatchOption found ⊥ (λ x. (x.0 ≡ v) × (x.1.now ≡ behind)))) (sym text.1)
    (c.quoted_value.ensures.said text.0 behind stops (text_rest c.args.bytes.now text.0 behind (subst (λ (v : RowValue). 32 ∷ c.args.bytes.now ≡ value_text v ++ behind) text.1 same)))

pub returns-in-None-clause-said : goal.returns-in-None-clause-said
returns-in-None-clause-said c = λ said behind fits stops same.
    plain_told (λ (x : RowValue × Bor (List ℕ)). x.0) (λ (x : RowValue × Bor (List ℕ)). x.1.now) c.plain_value.result said c.args.bytes.now behind c.in-None.ensures fits stops same c.plain_value.ensures.null c.plain_value.ensures.number
