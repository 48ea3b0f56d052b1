use Rattle.std.proofs.Common.{[], ◌∷◌}
use Rattle.std.specs.List.{flat_map}
use Rattle.pfs_journal.specs.Spelling.{optional_text}
use Rattle.pfs_journal.proofs.WordReadings.{fields_behind, fits_four}
use Rattle.pfs_journal.proofs.guess.four.Goals as goal

pub returns-in_err-first : goal.returns-in_err-first
returns-in_err-first g = λ a b c d fits same.
    rw g.from_residual.ensures (g.in_err-first.ensures a (flat_map optional_text (b ∷ c ∷ d ∷ [])) (fits_four a b c d fits).0 (fields_behind (b ∷ c ∷ d ∷ [])) same)

pub returns-in_err-second : goal.returns-in_err-second
returns-in_err-second g = λ a b c d fits same.
    let first = g.in_ok-first.ensures a (flat_map optional_text (b ∷ c ∷ d ∷ [])) (fits_four a b c d fits).0 (fields_behind (b ∷ c ∷ d ∷ [])) same in
    rw g.from_residual-in_err-second.ensures (g.in_err-second.ensures b (flat_map optional_text (c ∷ d ∷ [])) (fits_four a b c d fits).1 (fields_behind (c ∷ d ∷ [])) first.1)

pub returns-in_err-third : goal.returns-in_err-third
returns-in_err-third g = λ a b c d fits same.
    let first = g.in_ok-first.ensures a (flat_map optional_text (b ∷ c ∷ d ∷ [])) (fits_four a b c d fits).0 (fields_behind (b ∷ c ∷ d ∷ [])) same in
    let second = g.in_ok-second.ensures b (flat_map optional_text (c ∷ d ∷ [])) (fits_four a b c d fits).1 (fields_behind (c ∷ d ∷ [])) first.1 in
    rw g.from_residual-in_err-third.ensures (g.in_err-third.ensures c (flat_map optional_text (d ∷ [])) (fits_four a b c d fits).2 (fields_behind (d ∷ [])) second.1)

pub returns-in_err-fourth : goal.returns-in_err-fourth
returns-in_err-fourth g = λ a b c d fits same.
    let first = g.in_ok-first.ensures a (flat_map optional_text (b ∷ c ∷ d ∷ [])) (fits_four a b c d fits).0 (fields_behind (b ∷ c ∷ d ∷ [])) same in
    let second = g.in_ok-second.ensures b (flat_map optional_text (c ∷ d ∷ [])) (fits_four a b c d fits).1 (fields_behind (c ∷ d ∷ [])) first.1 in
    let third = g.in_ok-third.ensures c (flat_map optional_text (d ∷ [])) (fits_four a b c d fits).2 (fields_behind (d ∷ [])) second.1 in
    rw g.from_residual-in_err-fourth.ensures (g.in_err-fourth.ensures d [] (fits_four a b c d fits).3 tt third.1)

pub returns : goal.returns
returns g = λ a b c d fits same.
    let first = g.in_ok-first.ensures a (flat_map optional_text (b ∷ c ∷ d ∷ [])) (fits_four a b c d fits).0 (fields_behind (b ∷ c ∷ d ∷ [])) same in
    let second = g.in_ok-second.ensures b (flat_map optional_text (c ∷ d ∷ [])) (fits_four a b c d fits).1 (fields_behind (c ∷ d ∷ [])) first.1 in
    let third = g.in_ok-third.ensures c (flat_map optional_text (d ∷ [])) (fits_four a b c d fits).2 (fields_behind (d ∷ [])) second.1 in
    let fourth = g.in_ok-fourth.ensures d [] (fits_four a b c d fits).3 tt third.1 in
    (first.0, second.0, third.0, fourth.0)
