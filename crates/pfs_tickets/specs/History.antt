-- Lists of drawn tickets, newest first.
use Rattle.std.specs.Prelude.{◌≡◌, ℕ, ◌+◌, ◌<◌, ◌==◌, if◌then◌else◌, List, [], ◌∷◌}
use Rattle.pfs_tickets.specs.declared.view.Drawn.{Drawn}

abbrev pub Each : {A : Type 0} → (A → Type 0) → List A → Type 0
Each P [] = Unit {0}
Each P (x ∷ xs) = P x × Each P xs

-- a number of each entry, added up
abbrev pub total : {A : Type 0} → (A → ℕ) → List A → ℕ
total f [] = 0
total f (x ∷ xs) = f x + total f xs

-- how many tickets of a kind were drawn
abbrev pub count_of : ℕ → List Drawn → ℕ
count_of k [] = 0
count_of k (x ∷ xs) = if x.kind == k then count_of k xs + 1 else count_of k xs

-- how often one ticket of a kind was drawn
abbrev pub times : ℕ → ℕ → List Drawn → ℕ
times k t [] = 0
times k t (x ∷ xs) = if x.kind == k then (if x.ticket == t then times k t xs + 1 else times k t xs) else times k t xs

-- a ticket is above each older one of its kind under its number
abbrev pub IsRising : List Drawn → Type 0
IsRising [] = Unit {0}
IsRising (x ∷ xs) = Each (λ (y : Drawn). y.by ≡ x.by → y.kind ≡ x.kind → y.ticket < x.ticket) xs × IsRising xs
