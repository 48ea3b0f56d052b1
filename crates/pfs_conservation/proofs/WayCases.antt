-- The next rows of each row of a way, in each case of account, user and host.
use Rattle.std.proofs.Common.{◌≡◌, ℕ, ◌+◌, ◌<◌, ◌≤◌, ◌==◌, false, cond, List, [], ◌∷◌, Option, Some, None, subst, arith}
use Rattle.std.specs.Prelude.{nat_lt, unwrap_or}
use Rattle.pfs_lemmas.proofs.Options.{none_some, some_same}
use Rattle.pfs_conservation.specs.Journeys.{is_from}
use Rattle.pfs_conservation.specs.RowMoves.{goes_to}
use Rattle.pfs_conservation.specs.Ways.{Rows, steps_of, before_by, Leads, StepsClimb}

apart : (a b : ℕ) → b < a → (a == b) ≡ false
apart a b h = grind (arith, h)

below : (a b : ℕ) → a < b → (a == b) ≡ false
below a b h = grind (arith, h)

-- where what leaves a row goes
abbrev pub host_next : Rows → List ℕ
host_next rows = unwrap_or rows.host rows.global ∷ []

abbrev pub up_rows : Rows → List ℕ
up_rows rows = of rows.user
  where
    of : Option ℕ → List ℕ
    of None = host_next rows
    of (Some user) = user ∷ host_next rows

abbrev pub home_rows : Rows → List ℕ
home_rows rows = of rows.account
  where
    of : Option ℕ → List ℕ
    of None = up_rows rows
    of (Some account) = account ∷ []

-- a row's gives go to the rows that an event comes to from it
abbrev pub Goes : Rows → ℕ → List ℕ → Type 0
Goes rows from nexts = (row : ℕ) → goes_to row nexts ≡ is_from from (before_by (steps_of rows) row)

pub record GoesAll (rows : Rows) : Type 0 where
  pub home : Goes rows rows.home (home_rows rows)
  pub account : (a : ℕ) → rows.account ≡ Some a → Goes rows a (up_rows rows)
  pub user : (u : ℕ) → rows.user ≡ Some u → Goes rows u []
  pub host : (h : ℕ) → rows.host ≡ Some h → Goes rows h (rows.global ∷ [])
  pub global : Goes rows rows.global []

n111home : (home a u h g row : ℕ) → home < a → a < u → u < h → h < g → nat_lt 0 (0 + cond (a == row) 1 0) ≡ is_from home (cond {A = Option ℕ} (g == row) (Some h) (cond {A = Option ℕ} (h == row) (Some a) (cond {A = Option ℕ} (u == row) (Some a) (cond {A = Option ℕ} (a == row) (Some home) None))))
n111home home a u h g row p0 p1 p2 p3 = grind arith

n111a : (home a u h g row : ℕ) → home < a → a < u → u < h → h < g → nat_lt 0 ((0 + cond (u == row) 1 0) + cond (h == row) 1 0) ≡ is_from a (cond {A = Option ℕ} (g == row) (Some h) (cond {A = Option ℕ} (h == row) (Some a) (cond {A = Option ℕ} (u == row) (Some a) (cond {A = Option ℕ} (a == row) (Some home) None))))
n111a home a u h g row p0 p1 p2 p3 = grind arith

n111u : (home a u h g row : ℕ) → home < a → a < u → u < h → h < g → false ≡ is_from u (cond {A = Option ℕ} (g == row) (Some h) (cond {A = Option ℕ} (h == row) (Some a) (cond {A = Option ℕ} (u == row) (Some a) (cond {A = Option ℕ} (a == row) (Some home) None))))
n111u home a u h g row p0 p1 p2 p3 = grind arith

n111h : (home a u h g row : ℕ) → home < a → a < u → u < h → h < g → nat_lt 0 (0 + cond (g == row) 1 0) ≡ is_from h (cond {A = Option ℕ} (g == row) (Some h) (cond {A = Option ℕ} (h == row) (Some a) (cond {A = Option ℕ} (u == row) (Some a) (cond {A = Option ℕ} (a == row) (Some home) None))))
n111h home a u h g row p0 p1 p2 p3 = grind arith

n111g : (home a u h g row : ℕ) → home < a → a < u → u < h → h < g → false ≡ is_from g (cond {A = Option ℕ} (g == row) (Some h) (cond {A = Option ℕ} (h == row) (Some a) (cond {A = Option ℕ} (u == row) (Some a) (cond {A = Option ℕ} (a == row) (Some home) None))))
n111g home a u h g row p0 p1 p2 p3 = grind arith

goes111 : (home a u h g : ℕ) → home < a → a < u → u < h → h < g → GoesAll (record { home = home; account = Some a; user = Some u; host = Some h; global = g })
goes111 home a u h g p0 p1 p2 p3 = record {
  home = λ row. n111home home a u h g row p0 p1 p2 p3;
  account = λ x q. subst (λ y. Goes (record { home = home; account = Some a; user = Some u; host = Some h; global = g }) y (u ∷ (h ∷ []))) (some_same a x q) (λ row. n111a home a u h g row p0 p1 p2 p3);
  user = λ x q. subst (λ y. Goes (record { home = home; account = Some a; user = Some u; host = Some h; global = g }) y []) (some_same u x q) (λ row. n111u home a u h g row p0 p1 p2 p3);
  host = λ x q. subst (λ y. Goes (record { home = home; account = Some a; user = Some u; host = Some h; global = g }) y (g ∷ [])) (some_same h x q) (λ row. n111h home a u h g row p0 p1 p2 p3);
  global = λ row. n111g home a u h g row p0 p1 p2 p3;
}

leads111 : (home a u h g : ℕ) → home < a → a < u → u < h → h < g → Leads home (steps_of (record { home = home; account = Some a; user = Some u; host = Some h; global = g }))
leads111 home a u h g p0 p1 p2 p3 = (apart g home (omega arith), apart g h (omega arith), (apart g a (omega arith), below h g (omega arith), (apart g a (omega arith), below u g (omega arith), (apart g home (omega arith), below a g (omega arith), tt))), (apart h home (omega arith), apart h a (omega arith), (apart h a (omega arith), below u h (omega arith), (apart h home (omega arith), below a h (omega arith), tt)), (apart u home (omega arith), apart u a (omega arith), (apart u home (omega arith), below a u (omega arith), tt), (apart a home (omega arith), apart a home (omega arith), tt, tt))))

n110home : (home a u g row : ℕ) → home < a → a < u → u < g → nat_lt 0 (0 + cond (a == row) 1 0) ≡ is_from home (cond {A = Option ℕ} (g == row) (Some a) (cond {A = Option ℕ} (u == row) (Some a) (cond {A = Option ℕ} (a == row) (Some home) None)))
n110home home a u g row p0 p1 p2 = grind arith

n110a : (home a u g row : ℕ) → home < a → a < u → u < g → nat_lt 0 ((0 + cond (u == row) 1 0) + cond (g == row) 1 0) ≡ is_from a (cond {A = Option ℕ} (g == row) (Some a) (cond {A = Option ℕ} (u == row) (Some a) (cond {A = Option ℕ} (a == row) (Some home) None)))
n110a home a u g row p0 p1 p2 = grind arith

n110u : (home a u g row : ℕ) → home < a → a < u → u < g → false ≡ is_from u (cond {A = Option ℕ} (g == row) (Some a) (cond {A = Option ℕ} (u == row) (Some a) (cond {A = Option ℕ} (a == row) (Some home) None)))
n110u home a u g row p0 p1 p2 = grind arith

n110g : (home a u g row : ℕ) → home < a → a < u → u < g → false ≡ is_from g (cond {A = Option ℕ} (g == row) (Some a) (cond {A = Option ℕ} (u == row) (Some a) (cond {A = Option ℕ} (a == row) (Some home) None)))
n110g home a u g row p0 p1 p2 = grind arith

goes110 : (home a u g : ℕ) → home < a → a < u → u < g → GoesAll (record { home = home; account = Some a; user = Some u; host = None; global = g })
goes110 home a u g p0 p1 p2 = record {
  home = λ row. n110home home a u g row p0 p1 p2;
  account = λ x q. subst (λ y. Goes (record { home = home; account = Some a; user = Some u; host = None; global = g }) y (u ∷ (g ∷ []))) (some_same a x q) (λ row. n110a home a u g row p0 p1 p2);
  user = λ x q. subst (λ y. Goes (record { home = home; account = Some a; user = Some u; host = None; global = g }) y []) (some_same u x q) (λ row. n110u home a u g row p0 p1 p2);
  host = λ x q. none_some x q;
  global = λ row. n110g home a u g row p0 p1 p2;
}

leads110 : (home a u g : ℕ) → home < a → a < u → u < g → Leads home (steps_of (record { home = home; account = Some a; user = Some u; host = None; global = g }))
leads110 home a u g p0 p1 p2 = (apart g home (omega arith), apart g a (omega arith), (apart g a (omega arith), below u g (omega arith), (apart g home (omega arith), below a g (omega arith), tt)), (apart u home (omega arith), apart u a (omega arith), (apart u home (omega arith), below a u (omega arith), tt), (apart a home (omega arith), apart a home (omega arith), tt, tt)))

n101home : (home a h g row : ℕ) → home < a → a < h → h < g → nat_lt 0 (0 + cond (a == row) 1 0) ≡ is_from home (cond {A = Option ℕ} (g == row) (Some h) (cond {A = Option ℕ} (h == row) (Some a) (cond {A = Option ℕ} (a == row) (Some home) None)))
n101home home a h g row p0 p1 p2 = grind arith

n101a : (home a h g row : ℕ) → home < a → a < h → h < g → nat_lt 0 (0 + cond (h == row) 1 0) ≡ is_from a (cond {A = Option ℕ} (g == row) (Some h) (cond {A = Option ℕ} (h == row) (Some a) (cond {A = Option ℕ} (a == row) (Some home) None)))
n101a home a h g row p0 p1 p2 = grind arith

n101h : (home a h g row : ℕ) → home < a → a < h → h < g → nat_lt 0 (0 + cond (g == row) 1 0) ≡ is_from h (cond {A = Option ℕ} (g == row) (Some h) (cond {A = Option ℕ} (h == row) (Some a) (cond {A = Option ℕ} (a == row) (Some home) None)))
n101h home a h g row p0 p1 p2 = grind arith

n101g : (home a h g row : ℕ) → home < a → a < h → h < g → false ≡ is_from g (cond {A = Option ℕ} (g == row) (Some h) (cond {A = Option ℕ} (h == row) (Some a) (cond {A = Option ℕ} (a == row) (Some home) None)))
n101g home a h g row p0 p1 p2 = grind arith

goes101 : (home a h g : ℕ) → home < a → a < h → h < g → GoesAll (record { home = home; account = Some a; user = None; host = Some h; global = g })
goes101 home a h g p0 p1 p2 = record {
  home = λ row. n101home home a h g row p0 p1 p2;
  account = λ x q. subst (λ y. Goes (record { home = home; account = Some a; user = None; host = Some h; global = g }) y (h ∷ [])) (some_same a x q) (λ row. n101a home a h g row p0 p1 p2);
  user = λ x q. none_some x q;
  host = λ x q. subst (λ y. Goes (record { home = home; account = Some a; user = None; host = Some h; global = g }) y (g ∷ [])) (some_same h x q) (λ row. n101h home a h g row p0 p1 p2);
  global = λ row. n101g home a h g row p0 p1 p2;
}

leads101 : (home a h g : ℕ) → home < a → a < h → h < g → Leads home (steps_of (record { home = home; account = Some a; user = None; host = Some h; global = g }))
leads101 home a h g p0 p1 p2 = (apart g home (omega arith), apart g h (omega arith), (apart g a (omega arith), below h g (omega arith), (apart g home (omega arith), below a g (omega arith), tt)), (apart h home (omega arith), apart h a (omega arith), (apart h home (omega arith), below a h (omega arith), tt), (apart a home (omega arith), apart a home (omega arith), tt, tt)))

n100home : (home a g row : ℕ) → home < a → a < g → nat_lt 0 (0 + cond (a == row) 1 0) ≡ is_from home (cond {A = Option ℕ} (g == row) (Some a) (cond {A = Option ℕ} (a == row) (Some home) None))
n100home home a g row p0 p1 = grind arith

n100a : (home a g row : ℕ) → home < a → a < g → nat_lt 0 (0 + cond (g == row) 1 0) ≡ is_from a (cond {A = Option ℕ} (g == row) (Some a) (cond {A = Option ℕ} (a == row) (Some home) None))
n100a home a g row p0 p1 = grind arith

n100g : (home a g row : ℕ) → home < a → a < g → false ≡ is_from g (cond {A = Option ℕ} (g == row) (Some a) (cond {A = Option ℕ} (a == row) (Some home) None))
n100g home a g row p0 p1 = grind arith

goes100 : (home a g : ℕ) → home < a → a < g → GoesAll (record { home = home; account = Some a; user = None; host = None; global = g })
goes100 home a g p0 p1 = record {
  home = λ row. n100home home a g row p0 p1;
  account = λ x q. subst (λ y. Goes (record { home = home; account = Some a; user = None; host = None; global = g }) y (g ∷ [])) (some_same a x q) (λ row. n100a home a g row p0 p1);
  user = λ x q. none_some x q;
  host = λ x q. none_some x q;
  global = λ row. n100g home a g row p0 p1;
}

leads100 : (home a g : ℕ) → home < a → a < g → Leads home (steps_of (record { home = home; account = Some a; user = None; host = None; global = g }))
leads100 home a g p0 p1 = (apart g home (omega arith), apart g a (omega arith), (apart g home (omega arith), below a g (omega arith), tt), (apart a home (omega arith), apart a home (omega arith), tt, tt))

n011home : (home u h g row : ℕ) → home < u → u < h → h < g → nat_lt 0 ((0 + cond (u == row) 1 0) + cond (h == row) 1 0) ≡ is_from home (cond {A = Option ℕ} (g == row) (Some h) (cond {A = Option ℕ} (h == row) (Some home) (cond {A = Option ℕ} (u == row) (Some home) None)))
n011home home u h g row p0 p1 p2 = grind arith

n011u : (home u h g row : ℕ) → home < u → u < h → h < g → false ≡ is_from u (cond {A = Option ℕ} (g == row) (Some h) (cond {A = Option ℕ} (h == row) (Some home) (cond {A = Option ℕ} (u == row) (Some home) None)))
n011u home u h g row p0 p1 p2 = grind arith

n011h : (home u h g row : ℕ) → home < u → u < h → h < g → nat_lt 0 (0 + cond (g == row) 1 0) ≡ is_from h (cond {A = Option ℕ} (g == row) (Some h) (cond {A = Option ℕ} (h == row) (Some home) (cond {A = Option ℕ} (u == row) (Some home) None)))
n011h home u h g row p0 p1 p2 = grind arith

n011g : (home u h g row : ℕ) → home < u → u < h → h < g → false ≡ is_from g (cond {A = Option ℕ} (g == row) (Some h) (cond {A = Option ℕ} (h == row) (Some home) (cond {A = Option ℕ} (u == row) (Some home) None)))
n011g home u h g row p0 p1 p2 = grind arith

goes011 : (home u h g : ℕ) → home < u → u < h → h < g → GoesAll (record { home = home; account = None; user = Some u; host = Some h; global = g })
goes011 home u h g p0 p1 p2 = record {
  home = λ row. n011home home u h g row p0 p1 p2;
  account = λ x q. none_some x q;
  user = λ x q. subst (λ y. Goes (record { home = home; account = None; user = Some u; host = Some h; global = g }) y []) (some_same u x q) (λ row. n011u home u h g row p0 p1 p2);
  host = λ x q. subst (λ y. Goes (record { home = home; account = None; user = Some u; host = Some h; global = g }) y (g ∷ [])) (some_same h x q) (λ row. n011h home u h g row p0 p1 p2);
  global = λ row. n011g home u h g row p0 p1 p2;
}

leads011 : (home u h g : ℕ) → home < u → u < h → h < g → Leads home (steps_of (record { home = home; account = None; user = Some u; host = Some h; global = g }))
leads011 home u h g p0 p1 p2 = (apart g home (omega arith), apart g h (omega arith), (apart g home (omega arith), below h g (omega arith), (apart g home (omega arith), below u g (omega arith), tt)), (apart h home (omega arith), apart h home (omega arith), (apart h home (omega arith), below u h (omega arith), tt), (apart u home (omega arith), apart u home (omega arith), tt, tt)))

n010home : (home u g row : ℕ) → home < u → u < g → nat_lt 0 ((0 + cond (u == row) 1 0) + cond (g == row) 1 0) ≡ is_from home (cond {A = Option ℕ} (g == row) (Some home) (cond {A = Option ℕ} (u == row) (Some home) None))
n010home home u g row p0 p1 = grind arith

n010u : (home u g row : ℕ) → home < u → u < g → false ≡ is_from u (cond {A = Option ℕ} (g == row) (Some home) (cond {A = Option ℕ} (u == row) (Some home) None))
n010u home u g row p0 p1 = grind arith

n010g : (home u g row : ℕ) → home < u → u < g → false ≡ is_from g (cond {A = Option ℕ} (g == row) (Some home) (cond {A = Option ℕ} (u == row) (Some home) None))
n010g home u g row p0 p1 = grind arith

goes010 : (home u g : ℕ) → home < u → u < g → GoesAll (record { home = home; account = None; user = Some u; host = None; global = g })
goes010 home u g p0 p1 = record {
  home = λ row. n010home home u g row p0 p1;
  account = λ x q. none_some x q;
  user = λ x q. subst (λ y. Goes (record { home = home; account = None; user = Some u; host = None; global = g }) y []) (some_same u x q) (λ row. n010u home u g row p0 p1);
  host = λ x q. none_some x q;
  global = λ row. n010g home u g row p0 p1;
}

leads010 : (home u g : ℕ) → home < u → u < g → Leads home (steps_of (record { home = home; account = None; user = Some u; host = None; global = g }))
leads010 home u g p0 p1 = (apart g home (omega arith), apart g home (omega arith), (apart g home (omega arith), below u g (omega arith), tt), (apart u home (omega arith), apart u home (omega arith), tt, tt))

n001home : (home h g row : ℕ) → home < h → h < g → nat_lt 0 (0 + cond (h == row) 1 0) ≡ is_from home (cond {A = Option ℕ} (g == row) (Some h) (cond {A = Option ℕ} (h == row) (Some home) None))
n001home home h g row p0 p1 = grind arith

n001h : (home h g row : ℕ) → home < h → h < g → nat_lt 0 (0 + cond (g == row) 1 0) ≡ is_from h (cond {A = Option ℕ} (g == row) (Some h) (cond {A = Option ℕ} (h == row) (Some home) None))
n001h home h g row p0 p1 = grind arith

n001g : (home h g row : ℕ) → home < h → h < g → false ≡ is_from g (cond {A = Option ℕ} (g == row) (Some h) (cond {A = Option ℕ} (h == row) (Some home) None))
n001g home h g row p0 p1 = grind arith

goes001 : (home h g : ℕ) → home < h → h < g → GoesAll (record { home = home; account = None; user = None; host = Some h; global = g })
goes001 home h g p0 p1 = record {
  home = λ row. n001home home h g row p0 p1;
  account = λ x q. none_some x q;
  user = λ x q. none_some x q;
  host = λ x q. subst (λ y. Goes (record { home = home; account = None; user = None; host = Some h; global = g }) y (g ∷ [])) (some_same h x q) (λ row. n001h home h g row p0 p1);
  global = λ row. n001g home h g row p0 p1;
}

leads001 : (home h g : ℕ) → home < h → h < g → Leads home (steps_of (record { home = home; account = None; user = None; host = Some h; global = g }))
leads001 home h g p0 p1 = (apart g home (omega arith), apart g h (omega arith), (apart g home (omega arith), below h g (omega arith), tt), (apart h home (omega arith), apart h home (omega arith), tt, tt))

n000home : (home g row : ℕ) → home < g → nat_lt 0 (0 + cond (g == row) 1 0) ≡ is_from home (cond {A = Option ℕ} (g == row) (Some home) None)
n000home home g row p0 = grind arith

n000g : (home g row : ℕ) → home < g → false ≡ is_from g (cond {A = Option ℕ} (g == row) (Some home) None)
n000g home g row p0 = grind arith

goes000 : (home g : ℕ) → home < g → GoesAll (record { home = home; account = None; user = None; host = None; global = g })
goes000 home g p0 = record {
  home = λ row. n000home home g row p0;
  account = λ x q. none_some x q;
  user = λ x q. none_some x q;
  host = λ x q. none_some x q;
  global = λ row. n000g home g row p0;
}

leads000 : (home g : ℕ) → home < g → Leads home (steps_of (record { home = home; account = None; user = None; host = None; global = g }))
leads000 home g p0 = (apart g home (omega arith), apart g home (omega arith), tt, tt)

-- the rows lie in ranges: threads, accounts, users, hosts, the global row
abbrev pub In : ℕ → ℕ → Option ℕ → Type 0
In low high None = Unit {0}
In low high (Some row) = (low ≤ row) × (row < high)

pub goes_way : (home ka ku kh : ℕ) (account user host : Option ℕ) (global : ℕ) → home < ka → ka ≤ ku → ku ≤ kh → kh ≤ global → In ka ku account → In ku kh user → In kh global host → GoesAll (record { home = home; account = account; user = user; host = host; global = global })
goes_way home ka ku kh (Some a) (Some u) (Some h) g p q r s ia iu ih = let a0 : ka ≤ a = ia.0 in let a1 : a < ku = ia.1 in let u0 : ku ≤ u = iu.0 in let u1 : u < kh = iu.1 in let h0 : kh ≤ h = ih.0 in let h1 : h < g = ih.1 in goes111 home a u h g (omega arith) (omega arith) (omega arith) (omega arith)
goes_way home ka ku kh (Some a) (Some u) None g p q r s ia iu ih = let a0 : ka ≤ a = ia.0 in let a1 : a < ku = ia.1 in let u0 : ku ≤ u = iu.0 in let u1 : u < kh = iu.1 in goes110 home a u g (omega arith) (omega arith) (omega arith)
goes_way home ka ku kh (Some a) None (Some h) g p q r s ia iu ih = let a0 : ka ≤ a = ia.0 in let a1 : a < ku = ia.1 in let h0 : kh ≤ h = ih.0 in let h1 : h < g = ih.1 in goes101 home a h g (omega arith) (omega arith) (omega arith)
goes_way home ka ku kh (Some a) None None g p q r s ia iu ih = let a0 : ka ≤ a = ia.0 in let a1 : a < ku = ia.1 in goes100 home a g (omega arith) (omega arith)
goes_way home ka ku kh None (Some u) (Some h) g p q r s ia iu ih = let u0 : ku ≤ u = iu.0 in let u1 : u < kh = iu.1 in let h0 : kh ≤ h = ih.0 in let h1 : h < g = ih.1 in goes011 home u h g (omega arith) (omega arith) (omega arith)
goes_way home ka ku kh None (Some u) None g p q r s ia iu ih = let u0 : ku ≤ u = iu.0 in let u1 : u < kh = iu.1 in goes010 home u g (omega arith) (omega arith)
goes_way home ka ku kh None None (Some h) g p q r s ia iu ih = let h0 : kh ≤ h = ih.0 in let h1 : h < g = ih.1 in goes001 home h g (omega arith) (omega arith)
goes_way home ka ku kh None None None g p q r s ia iu ih = goes000 home g (omega arith)

pub leads_way : (home ka ku kh : ℕ) (account user host : Option ℕ) (global : ℕ) → home < ka → ka ≤ ku → ku ≤ kh → kh ≤ global → In ka ku account → In ku kh user → In kh global host → Leads home (steps_of (record { home = home; account = account; user = user; host = host; global = global }))
leads_way home ka ku kh (Some a) (Some u) (Some h) g p q r s ia iu ih = let a0 : ka ≤ a = ia.0 in let a1 : a < ku = ia.1 in let u0 : ku ≤ u = iu.0 in let u1 : u < kh = iu.1 in let h0 : kh ≤ h = ih.0 in let h1 : h < g = ih.1 in leads111 home a u h g (omega arith) (omega arith) (omega arith) (omega arith)
leads_way home ka ku kh (Some a) (Some u) None g p q r s ia iu ih = let a0 : ka ≤ a = ia.0 in let a1 : a < ku = ia.1 in let u0 : ku ≤ u = iu.0 in let u1 : u < kh = iu.1 in leads110 home a u g (omega arith) (omega arith) (omega arith)
leads_way home ka ku kh (Some a) None (Some h) g p q r s ia iu ih = let a0 : ka ≤ a = ia.0 in let a1 : a < ku = ia.1 in let h0 : kh ≤ h = ih.0 in let h1 : h < g = ih.1 in leads101 home a h g (omega arith) (omega arith) (omega arith)
leads_way home ka ku kh (Some a) None None g p q r s ia iu ih = let a0 : ka ≤ a = ia.0 in let a1 : a < ku = ia.1 in leads100 home a g (omega arith) (omega arith)
leads_way home ka ku kh None (Some u) (Some h) g p q r s ia iu ih = let u0 : ku ≤ u = iu.0 in let u1 : u < kh = iu.1 in let h0 : kh ≤ h = ih.0 in let h1 : h < g = ih.1 in leads011 home u h g (omega arith) (omega arith) (omega arith)
leads_way home ka ku kh None (Some u) None g p q r s ia iu ih = let u0 : ku ≤ u = iu.0 in let u1 : u < kh = iu.1 in leads010 home u g (omega arith) (omega arith)
leads_way home ka ku kh None None (Some h) g p q r s ia iu ih = let h0 : kh ≤ h = ih.0 in let h1 : h < g = ih.1 in leads001 home h g (omega arith) (omega arith)
leads_way home ka ku kh None None None g p q r s ia iu ih = leads000 home g (omega arith)

abbrev pub Has : (ℕ → ℕ) → ℕ → Option ℕ → Type 0
Has level n None = Unit {0}
Has level n (Some row) = level row ≡ n

pub climb_way : (level : ℕ → ℕ) (home : ℕ) (account user host : Option ℕ) (global : ℕ) → level home ≡ 0 → Has level 1 account → Has level 2 user → Has level 2 host → level global ≡ 3 → StepsClimb level (steps_of (record { home = home; account = account; user = user; host = host; global = global }))
climb_way level home (Some a) (Some u) (Some h) g p la lu lh q = (omega arith, (omega arith, (omega arith, (omega arith, tt))))
climb_way level home (Some a) (Some u) None g p la lu lh q = (omega arith, (omega arith, (omega arith, tt)))
climb_way level home (Some a) None (Some h) g p la lu lh q = (omega arith, (omega arith, (omega arith, tt)))
climb_way level home (Some a) None None g p la lu lh q = (omega arith, (omega arith, tt))
climb_way level home None (Some u) (Some h) g p la lu lh q = (omega arith, (omega arith, (omega arith, tt)))
climb_way level home None (Some u) None g p la lu lh q = (omega arith, (omega arith, tt))
climb_way level home None None (Some h) g p la lu lh q = (omega arith, (omega arith, tt))
climb_way level home None None None g p la lu lh q = (omega arith, tt)
