-- The lines of entries are at least as far apart as the entries, and so the first line on which a due isn't brought.
use Rattle.std.proofs.Common.{◌≡◌, refl, ℕ, zero, suc, ◌+◌, ◌<◌, ◌≤◌, inl, inr, Bool, true, false, cond, nat_lt, List, [], ◌∷◌, ◌++◌, Some, slice_get, sym, ◌∙◌, arith}
use Rattle.std.specs.Prelude.{◌⊎◌}
use Rattle.std.proofs.lemmas.Bool.{ltb-false, ltb-true}
use Rattle.pfs_lemmas.proofs.Options.{some_same}
use Rattle.pfs_journal.specs.ReportLines.{report_lines}
use Rattle.pfs_journal.specs.declared.line.Line.{Line}
use Rattle.pfs_journal.specs.declared.report.ReportParts.{ReportParts}
use Rattle.pfs_model.specs.EntryPlaces.{Placed}
use Rattle.pfs_check_faults.specs.ReportCases.{StandsOn, is_entry_line, numbers_where}
use Rattle.pfs_check_faults.specs.RingFaults.{BringsFail}
use Rattle.pfs_check_dues.specs.DueRules.{FirstLaw, IsOwing}
use Rattle.pfs_check_dues.proofs.OwedFacts.{Stops, ends_before, later_or_there}

far_from : (test : Line → Bool) (n : ℕ) (ls : List Line) (i a : ℕ) → slice_get (numbers_where test n ls) i ≡ Some a → n + i ≤ a
far_from test n [] i a g = absurd (cc)
far_from test n (l ∷ ls) i a g = at (test l) i g (λ j h. far_from test (n + 1) ls j a h) where
  at : (b : Bool) (i : ℕ) → slice_get (cond b (n ∷ []) [] ++ numbers_where test (n + 1) ls) i ≡ Some a
      → ((j : ℕ) → slice_get (numbers_where test (n + 1) ls) j ≡ Some a → n + 1 + j ≤ a) → n + i ≤ a
  at false i g go = let more : n + 1 + i ≤ a = go i g in omega (arith, more)
  at true zero g go = let same : n ≡ a = some_same n a g in omega (arith, same)
  at true (suc i) g go = let more : n + 1 + i ≤ a = go i g in omega (arith, more)

far_apart : (test : Line → Bool) (n : ℕ) (ls : List Line) (i j a b : ℕ) → slice_get (numbers_where test n ls) i ≡ Some a
    → slice_get (numbers_where test n ls) j ≡ Some b → i ≤ j → a + j ≤ b + i
far_apart test n [] i j a b g h l = absurd (cc)
far_apart test n (x ∷ ls) i j a b g h l =
    at (test x) i j g h l (λ k m p q o. far_apart test (n + 1) ls k m a b p q o) (λ k p. far_from test (n + 1) ls k b p) where
      at : (t : Bool) (i j : ℕ) → slice_get (cond t (n ∷ []) [] ++ numbers_where test (n + 1) ls) i ≡ Some a
          → slice_get (cond t (n ∷ []) [] ++ numbers_where test (n + 1) ls) j ≡ Some b → i ≤ j
          → ((k m : ℕ) → slice_get (numbers_where test (n + 1) ls) k ≡ Some a → slice_get (numbers_where test (n + 1) ls) m ≡ Some b → k ≤ m → a + m ≤ b + k)
          → ((k : ℕ) → slice_get (numbers_where test (n + 1) ls) k ≡ Some b → n + 1 + k ≤ b) → a + j ≤ b + i
      at false i j g h l go low = go i j g h l
      at true zero zero g h l go low = let same : a ≡ b = some_same a b (sym g ∙ h) in omega (arith, same)
      at true zero (suc j) g h l go low =
          let first : n ≡ a = some_same n a g in
          let more : n + 1 + j ≤ b = low j h in
          omega (arith, more, first)
      at true (suc i) zero g h l go low = absurd (omega (arith, l))
      at true (suc i) (suc j) g h l go low =
          let more : a + j ≤ b + i = go i j g h (omega (arith, l)) in
          omega (arith, more)

lines_apart : (report : ReportParts) (i j a b : ℕ) → StandsOn report i a → StandsOn report j b → i ≤ j → a + j ≤ b + i
lines_apart report i j a b g h l = far_apart is_entry_line 1 (report_lines report) i j a b g h l

none_before : (report : ReportParts) (flags : ℕ → ℕ → ℕ) (all : List Placed) (at : ℕ) → Stops flags [] all at → (owing : IsOwing flags all at)
    → (begins : ℕ) → StandsOn report owing.event begins → (other : ℕ) → other < begins + 1 + owing.paid → BringsFail report flags all other → ⊥
none_before report flags all at stops owing begins stands other less fail = on (later_or_there flags [] all at fail.event fail.at stops fail.wrong) where
  on : (fail.event + 1 + fail.at ≡ at) ⊎ (at ≤ fail.event) → ⊥
  on (inr l) =
      let apart : begins + fail.event ≤ fail.begins + owing.event =
      lines_apart report owing.event fail.event begins fail.begins stands fail.begins_is (omega (arith, l, owing.place_is)) in
      absurd (omega (arith, apart, l, owing.place_is, less, fail.line_is))
  on (inl e) = compare (nat_lt fail.event owing.event) refl where
    compare : (b : Bool) → nat_lt fail.event owing.event ≡ b → ⊥
    compare true f =
        let ends : fail.event + 1 + fail.at ≤ owing.event =
        ends_before flags [] all fail.event fail.at owing.event owing.paid fail.wrong owing.wrong (ltb-true fail.event owing.event f) in
        absurd (omega (arith, ends, e, owing.place_is))
    compare false f =
        let low : owing.event ≤ fail.event = ltb-false fail.event owing.event f in
        let apart : begins + fail.event ≤ fail.begins + owing.event =
        lines_apart report owing.event fail.event begins fail.begins stands fail.begins_is low in
        absurd (omega (arith, apart, e, owing.place_is, less, fail.line_is))

pub first_law : FirstLaw
first_law report flags all at stops owing begins stands = record {
  fails = record { event = owing.event; begins = begins; at = owing.paid; begins_is = stands; line_is = refl; wrong = owing.wrong };
  first = λ other less fail. none_before report flags all at stops owing begins stands other less fail;
}
