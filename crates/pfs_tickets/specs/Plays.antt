-- What each step tells the seat that makes it. `m` is the seat before, `m'` after, and n the word that was found.
use Rattle.std.specs.Prelude.{◌≡◌, ℕ, ◌+◌, ◌<◌, ◌≤◌}
use Rattle.atomic_table.specs.Table.{Me, Step}
use Rattle.pfs_tickets.specs.declared.view.Drawn.{Drawn}
use Rattle.pfs_tickets.specs.declared.view.View.{View}
use Rattle.pfs_tickets.specs.History.{Each, count_of}
use Rattle.pfs_tickets.specs.Knowledge.{all_draws, IsWhole, drew, told}
use Rattle.pfs_tickets.specs.WholeSeats.{IsComplete}

module _ {S : Type 0} where
  -- the word found is the ticket, above each of its kind that the seat had
  abbrev pub draws : Step S → Me S View → ℕ → Me S View → Type 0
  draws st m n m' = (m' ≡ (drew m.0 st.word n, m.1))
      × Each (λ (x : Drawn). x.kind ≡ st.word → x.ticket < n) m.0.tickets
      × (IsWhole m.0 → n ≡ count_of st.word m.0.tickets) × (n + m.0.draws ≤ all_draws)

  abbrev pub tells : Step S → Me S View → ℕ → Me S View → Type 0
  tells st m n m' = m' ≡ (told m.0 st.first, m.1)

  -- a seat that has the whole sum reads a word
  abbrev pub counts : Step S → Me S View → ℕ → Me S View → Type 0
  counts st m n m' = (m' ≡ m) × (IsWhole m.0 → (n ≡ count_of st.word m.0.tickets) × IsComplete m.0)
