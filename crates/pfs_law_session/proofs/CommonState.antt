-- What an agreeing session and its journal have in common.
use Rattle.std.proofs.Common.{ℕ, ◌≡◌, ◌+◌, ◌&&◌, Bool, true, false, cond, List, [], ◌∷◌, Option, refl, ap, ◌∙◌}
use Rattle.pfs_event.specs.Verdicts.{is_let_through}
use Rattle.pfs_event.specs.declared.kind.EventKind.{EventKind}
use Rattle.pfs_event.specs.declared.open.Open.{Open}
use Rattle.pfs_model.specs.SetupFlags.{open_through}
use Rattle.pfs_model.specs.declared.lines.Opened.{Opened}
use Rattle.pfs_session.specs.SessionStates.{count_open, one_if}
use Rattle.pfs_law_session.specs.Agreement.{AreAlike}

pub one_cond : (b : Bool) → cond b 1 0 ≡ one_if b
one_cond true = refl
one_cond false = refl

both : (b c d e : Bool) → b ≡ d → c ≡ e → (b && c) ≡ (d && e)
both b c d e p q = ap (λ z. z && c) p ∙ ap (λ z. d && z) q

-- so many let-through events of a kind are open, by the session and by its journal
pub same_count : (flags : ℕ → ℕ → ℕ) (slot : Option ℕ) (test : EventKind → Bool) (events : List Opened) (others : List Open) → AreAlike flags slot events others
    → open_through test events ≡ count_open test others
same_count flags slot test [] [] are = refl
same_count flags slot test [] (w ∷ ws) are = absurd are
same_count flags slot test (e ∷ es) [] are = absurd are
same_count flags slot test (e ∷ es) (w ∷ ws) are =
    let b : (is_let_through e.verdict && test e.subject.kind) ≡ (is_let_through w.verdict && test w.kind) =
    both _ _ _ _ (ap is_let_through are.0.verdict) (ap test are.0.kind) in
    ap (λ z. cond z 1 0 + open_through test es) b ∙ ap (λ z. z + open_through test es) (one_cond (is_let_through w.verdict && test w.kind))
    ∙ ap (λ z. one_if (is_let_through w.verdict && test w.kind) + z) (same_count flags slot test es ws are.1)
