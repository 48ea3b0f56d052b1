-- The worked run meets the premises of the law.
use Rattle.std.proofs.Common.{arith, ℕ, zero, suc, ◌≡◌, ◌+◌, ◌==◌, ◌<◌, ◌≤◌, Bool, true, false, cond, List, [], ◌∷◌, ◌++◌, drop, Some, inl, inr, refl, ap, sym, subst}
use Rattle.std.specs.Prelude.{◌⊎◌, if◌then◌else◌}
use Rattle.std.proofs.lemmas.Bool.{eqb-true, true≢false}
use Rattle.pfs_admin.specs.Truncations.{free_rows}
use Rattle.pfs_admin.specs.Works.{signs_calls, flagging_entries}
use Rattle.pfs_event.specs.declared.entry.Entry.{Entry}
use Rattle.pfs_event.specs.declared.entry.Entry.TheVariants as says
use Rattle.pfs_levels.specs.Calls.{Call, Frees, Takes}
use Rattle.pfs_levels.specs.Moves.{AreMoves, ask, moves_calls}
use Rattle.pfs_model.specs.Chains.{Each, times}
use Rattle.pfs_session.proofs.HeldAmounts.{nothing_owed}
use Rattle.pfs_law_session.specs.Agreement.{LoadsAgree}
use Rattle.pfs_law_session.specs.Amounts.{ContentsAgree, AllContentsAgree, IsWhole}
use Rattle.pfs_law_session.specs.Deeds.{IsPart, part_calls}
use Rattle.pfs_law_session.specs.Stints.{IsDoneBy, AreStints, over_by}
use Rattle.pfs_law_session.proofs.SessionPhases.{whole as all_whole}
use Rattle.pfs_stat.specs.Stat.{MergeIsMonoid}
use Rattle.pfs_model.specs.Contents.{Facts}
use Rattle.pfs_session.specs.Settlements.{settle_head}
use Rattle.pfs_law_session.proofs.RunContents.{run}
use Rattle.pfs_law_session.proofs.Orders.{whole}
use Rattle.pfs_law_session.specs.Takes.{IsSeatedStint}
use Rattle.pfs_containers.specs.ContainerState.{IsInRange}
use Rattle.pfs_levels.specs.Flushes.{Ascends}
use Rattle.pfs_law_session.specs.Demands.{AreCounted, AreOrders, asked_by}
use Rattle.pfs_admin.specs.Examples.{start}
use Rattle.pfs_law_session.specs.ActionExamples.{second, first_work, second_work, third_work, content, first_made, second_made, third_made, third_moves, connect_part, connected_one, quit_part, one, two, stints, asked, orders, given, third, WorkedRun}
use Rattle.pfs_law_session.specs.AllActions.{IsOrdered, nothing_asked}

first_is : IsPart one (connect_part one start first_work first_made)
first_is = record {
  are_turns = ((record { moves = []; made = first_made; are_moves = refl; signs_are = refl; calls_are = refl; entries_are = refl }, refl), tt);
  steps_are = refl;
}

second_is : IsPart two (connect_part two second second_work second_made)
second_is = record {
  are_turns = ((record { moves = []; made = second_made; are_moves = refl; signs_are = refl; calls_are = refl; entries_are = refl }, refl), tt);
  steps_are = refl;
}

moves_are : AreMoves third_work.moves third_moves
moves_are = (
  ask 129 (2177 ∷ []) ∷ ask 191 (2239 ∷ []) ∷ [],
  (
    ask 192 (2240 ∷ []),
    (
      refl,
      (
        record { from_is = refl; next = refl; gifts_are = tt; to_is = refl },
        (
          ask 129 (2177 ∷ []) ∷ [],
          (
            ask 191 (2239 ∷ []),
            (
              refl,
              (
                record { from_is = refl; next = refl; gifts_are = tt; to_is = refl },
                (
                  [],
                  (ask 129 (2177 ∷ []), (refl, (record { from_is = refl; next = refl; gifts_are = (refl, tt); to_is = refl }, refl))),
                ),
              ),
            ),
          ),
        ),
      ),
    ),
  ),
)

-- the places of a ring that are released, newest first, and that they find their contents
abbrev freed_calls : ℕ → List Call
freed_calls zero = []
freed_calls (suc n) = Frees (8450 + n) 0 ∷ Takes (8450 + n) 0 (content (8450 + n) 0) ∷ freed_calls n

frees_agree : (n : ℕ) (rest : List Call) → ContentsAgree content rest → ContentsAgree content (freed_calls n ++ rest)
frees_agree zero rest a = a
frees_agree (suc n) rest a = (tt, (refl, frees_agree n rest a))

frees_load : (flags : ℕ → ℕ → ℕ) (n : ℕ) (rest : List Call) → LoadsAgree flags rest → LoadsAgree flags (freed_calls n ++ rest)
frees_load flags zero rest a = a
frees_load flags (suc n) rest a = (tt, (tt, frees_load flags n rest a))

abbrev freed_entries : ℕ → ℕ → List Entry
freed_entries first zero = []
freed_entries first (suc n) = says.Free first 0 ∷ freed_entries (suc first) n

frees_counted : (first n : ℕ) (rest : List Entry) → AreCounted content orders.counted 3 rest → AreCounted content orders.counted 3 (freed_entries first n ++ rest)
frees_counted first zero rest a = a
frees_counted first (suc n) rest a = (tt, frees_counted (suc first) n rest a)

-- what stands behind them in time order, and before them in the calls
abbrev last_entries : List Entry
last_entries = flagging_entries third.words third_work.flags

abbrev former_calls : List Call
former_calls = drop 112 (signs_calls third_made ++ moves_calls third_moves)

third_is : IsPart connected_one quit_part
unfolding free_rows
third_is = record {
  are_turns = (
    (record { moves = third_moves; made = third_made; are_moves = moves_are; signs_are = refl; calls_are = refl; entries_are = refl }, refl),
    (
      record {
        unseated = λ e. refl;
        paid = [];
        owed_are = sym (nothing_owed (Some 0));
        calls_are = refl;
        entries_are = ap (λ z. settle_head z ++ []) (sym (nothing_owed (Some 0)));
        after_is = refl;
      },
      tt,
    ),
  );
  steps_are = refl;
}

first_orders : AreOrders orders given content 1 (connect_part one start first_work first_made)
first_orders = record { asked = refl; rooms = refl; answers = tt; counted = (tt, (tt, (tt, (tt, (tt, (tt, tt)))))); words = (refl, (refl, (refl, (refl, tt)))) }

second_orders : AreOrders orders given content 2 (connect_part two second second_work second_made)
second_orders = record { asked = refl; rooms = refl; answers = tt; counted = (tt, (tt, (tt, (tt, (tt, (tt, tt)))))); words = (refl, (refl, (refl, (refl, tt)))) }

third_orders : AreOrders orders given content 1 quit_part
unfolding free_rows
third_orders = record {
  asked = refl;
  rooms = tt;
  answers = tt;
  counted = (tt, (refl, (tt, (refl, (refl, (tt, (tt, (tt, (tt, frees_counted 8450 56 last_entries (tt, tt))))))))));
  words = (refl, (refl, (refl, tt)));
}

first_contents : ContentsAgree content (part_calls (connect_part one start first_work first_made))
first_contents = (tt, (refl, (refl, (refl, (refl, (refl, (refl, (refl, (refl, tt)))))))))

second_contents : ContentsAgree content (part_calls (connect_part two second second_work second_made))
second_contents = (tt, (refl, (refl, (refl, (refl, (refl, (refl, (refl, (refl, tt)))))))))

third_contents : ContentsAgree content (part_calls quit_part)
unfolding free_rows
third_contents =
    (tt, frees_agree 56 former_calls (refl, (refl, (refl, (refl, (refl, (refl, (tt, (refl, (refl, (refl, (refl, (refl, (refl, (refl, (refl, (refl, tt)))))))))))))))))

first_done : IsDoneBy 1 (connect_part one start first_work first_made ∷ [])
first_done = record { from = one; number_is = refl; are_parts = (first_is, tt) }

second_done : IsDoneBy 2 (connect_part two second second_work second_made ∷ [])
second_done = record { from = two; number_is = refl; are_parts = (second_is, tt) }

third_done : IsDoneBy 1 (quit_part ∷ [])
third_done = record { from = connected_one; number_is = refl; are_parts = (third_is, tt) }

chained : AreStints 10 (λ session. 8) stints
chained = (
  omega arith,
  record { are_parts = (first_is, tt); may = ((refl, refl, refl, omega arith), tt) },
  (
    omega arith,
    record { are_parts = (second_is, tt); may = ((refl, refl, refl, omega arith), tt) },
    (omega arith, record { are_parts = (third_is, tt); may = ((refl, refl), tt) }, tt),
  ),
)

ordered : Each (IsOrdered orders given content) stints
ordered = (
  record { done = first_done; contents = (first_contents, tt); told = (λ q. first_orders, tt) },
  (
    record { done = second_done; contents = (second_contents, tt); told = (λ q. second_orders, tt) },
    (record { done = third_done; contents = (third_contents, tt); told = (λ q. third_orders, tt) }, tt),
  ),
)

-- the numbers are 1 to 3
none_of : (a b c : Bool) → a ≡ false → b ≡ false → c ≡ false → (cond a 1 0 + (cond b 1 0 + (cond c 1 0 + 0))) ≡ 0
none_of false false false e f g = refl
none_of true b c e f g = absurd (true≢false e)
none_of false true c e f g = absurd (true≢false f)
none_of false false true e f g = absurd (true≢false g)

none_asked : (a b c : Bool) → a ≡ false → b ≡ false → c ≡ false
    → (if a then asked_by first_work else if b then asked_by second_work else if c then asked_by third_work else nothing_asked) ≡ nothing_asked
none_asked false false false e f g = refl
none_asked true b c e f g = absurd (true≢false e)
none_asked false true c e f g = absurd (true≢false f)
none_asked false false true e f g = absurd (true≢false g)

abbrev IsOne : ℕ → Type 0
IsOne number = (times (λ n. n == number) (1 ∷ 2 ∷ 3 ∷ []) ≡ 1) ⊎ ((times (λ n. n == number) (1 ∷ 2 ∷ 3 ∷ []) ≡ 0) × (asked number ≡ nothing_asked))

are_actions : (number : ℕ) → 0 < number → IsOne number
are_actions number p = by_tests (1 == number) (2 == number) (3 == number) refl refl refl where
  by_tests : (a b c : Bool) → (1 == number) ≡ a → (2 == number) ≡ b → (3 == number) ≡ c → IsOne number
  by_tests true b c e f g = subst IsOne (eqb-true 1 number e) (inl refl)
  by_tests false true c e f g = subst IsOne (eqb-true 2 number f) (inl refl)
  by_tests false false true e f g = subst IsOne (eqb-true 3 number g) (inl refl)
  by_tests false false false e f g = inr (none_of (1 == number) (2 == number) (3 == number) e f g, none_asked (1 == number) (2 == number) (3 == number) e f g)

in_range : (number slot : ℕ) → slot < 32 → IsInRange (record {
  slot = slot;
  connection = record { number = number; user_name = 0; host_name = 1; account = Some 0; user = Some 0; host = Some 0 };
})
in_range number slot low = record { slot = low; places = record { account = omega arith; user = omega arith; host = omega arith } }

are_seated : Each IsSeatedStint stints
are_seated = (
  record { done = first_done; seated = (in_range 1 0 (omega arith), tt) },
  (
    record { done = second_done; seated = (in_range 2 1 (omega arith), tt) },
    (record { done = third_done; seated = ((cells_ascend, in_range 1 0 (omega arith)), tt) }, tt),
  ),
) where
  cells_ascend : Ascends 0 64 (0 ∷ 62 ∷ 63 ∷ [])
  cells_ascend = (omega arith, (omega arith, (omega arith, (omega arith, (omega arith, (omega arith, tt))))))

few : (number : ℕ) → 0 < number → times (λ n. n == number) (1 ∷ 2 ∷ 3 ∷ []) ≤ 1
few number p = by_one (are_actions number p) where
  by_one : IsOne number → times (λ n. n == number) (1 ∷ 2 ∷ 3 ∷ []) ≤ 1
  by_one (inl e) = omega (arith, e)
  by_one (inr e) = omega (arith, e.0)

agreed : Each (λ stint. AllContentsAgree content stint.parts) stints
agreed = ((first_contents, tt), ((second_contents, tt), ((third_contents, tt), tt)))

pub worked : WorkedRun
unfolding free_rows
worked = record {
  chained = chained;
  ordered = ordered;
  actions = are_actions;
  seated = are_seated;
  agreed = agreed;
  few = few;
  run = run orders given content stints ordered are_actions;
  whole = λ given info. whole given content stints info are_seated agreed few;
  quit = refl;
}

-- the law of amounts reaches the first session, which acts in each of its phases
first_loads : LoadsAgree (λ word version. 0) (part_calls (connect_part one start first_work first_made))
first_loads = (tt, (tt, (tt, (tt, (tt, (tt, (tt, (tt, (tt, tt)))))))))

third_loads : LoadsAgree (λ word version. 0) (part_calls quit_part)
unfolding free_rows
third_loads =
    (tt, frees_load (λ word version. 0) 56 former_calls (tt, (tt, (tt, (tt, (tt, (tt, (tt, (tt, (tt, (tt, (tt, (tt, (tt, (tt, (tt, (tt, tt)))))))))))))))))

abbrev pub no_facts : ℕ → ℕ → Facts
no_facts session index = record { start = 0; duration = 0; lock = 0; errors = 0; warnings = 0; affected = 0; sent = 0; examined = 0 }

pub first_whole : MergeIsMonoid → IsWhole (λ word version. 0) (λ session. Some 0) no_facts content one 1 stints
first_whole m =
    all_whole m (λ word version. 0) (λ session. Some 0) no_facts content 10 (λ session. 8) 1 stints chained (first_loads, (third_loads, tt)) (refl, (tt, tt))
    ((tt, tt), ((tt, (tt, tt)), tt)) (first_contents, (third_contents, tt))

-- it has ended, so nothing else was brought
pub first_over : over_by 1 false stints ≡ true
first_over = refl
