-- The worked phases, by computation.
use Rattle.std.proofs.Common.{ℕ, zero, suc, ◌≡◌, ◌≤◌, ◌<◌, ◌+◌, Bool, true, false, List, [], ◌∷◌, ◌++◌, None, refl, get_or, arith}
use Rattle.pfs_event.specs.declared.kind.EventKind.{EventKind}
use Rattle.std.specs.List.{All}
use Rattle.std.proofs.lemmas.List.Elements.{All-cons}
use Rattle.pfs_script.specs.declared.blocks.BlockLine.{BlockLine}
use Rattle.pfs_script.specs.declared.blocks.BlockLine.TheVariants as said
use Rattle.pfs_script.specs.Brackets.{closing_from, brackets_from}
use Rattle.pfs_script.specs.Marks.{copies, written_from}
use Rattle.pfs_play.specs.Repeats.{AllMayPlay}
use Rattle.pfs_runs.specs.ScriptExamples.{waiting, connecting, quitting}
use Rattle.pfs_law_script.specs.PlayableBlocks.{end_of, HasBody, IsPlayableBlock, kinds_before, written_in}
use Rattle.pfs_law_script.specs.BlockExamples.{WorkedPhases, opening, closing, repeating}

all_none : {A : Type 0} (P : A → Type 0) → All P []
all_none P k d h = absurd (omega (arith, h))

-- no more than one event is open while session 1 waits
waits : (depth : ℕ) → 0 + 4 ≤ depth → AllMayPlay 62 depth [] None waiting.lines
unfolding AllMayPlay
waits depth h = (
  record { quits = refl; known = tt; table = tt; digest = tt; stands = refl; shallow = omega (arith, h) },
  (
    record { quits = refl; known = omega arith; table = tt; digest = tt; stands = refl; shallow = omega (arith, h) },
    (
      record { quits = refl; known = tt; table = tt; digest = tt; stands = refl; shallow = omega (arith, h) },
      (record { quits = refl; known = tt; table = tt; digest = tt; stands = refl; shallow = omega (arith, h) }, tt),
    ),
  ),
)

nothing : (depth : ℕ) → AllMayPlay 62 depth [] None []
unfolding AllMayPlay
nothing depth = tt

closed : kinds_before 1 (opening ∷ []) ≡ []
unfolding closing_from brackets_from written_from
closed = refl

waiting_may : IsPlayableBlock [] (closing ∷ []) waiting
unfolding written_from brackets_from closing_from
waiting_may = record {
  low = omega arith;
  high = omega arith;
  first = refl;
  body = record {
    body = waiting.lines;
    quits = false;
    lines = refl;
    plays = waits;
    behind = refl;
    closed = λ e. cc;
    last = λ e. cc;
  };
  short = omega arith;
  few = omega arith;
}

connecting_may : IsPlayableBlock [] (closing ∷ []) connecting
unfolding written_from brackets_from
connecting_may = record {
  low = omega arith;
  high = omega arith;
  first = refl;
  body = record {
    body = [];
    quits = false;
    lines = refl;
    plays = λ depth h. nothing depth;
    behind = refl;
    closed = λ e. cc;
    last = λ e. cc;
  };
  short = omega arith;
  few = omega arith;
}

repeats : (depth : ℕ) → 0 + 4 ≤ depth → AllMayPlay 62 depth [] None repeating.lines
unfolding AllMayPlay
repeats depth h = (
  record { quits = refl; known = omega arith; table = tt; digest = tt; stands = refl; shallow = omega (arith, h) },
  (record { quits = refl; known = tt; table = tt; digest = tt; stands = refl; shallow = omega (arith, h) }, (refl, tt)),
)

repeating_may : IsPlayableBlock [] [] repeating
unfolding written_from copies brackets_from closing_from
repeating_may = record {
  low = omega arith;
  high = omega arith;
  first = refl;
  body = record {
    body = repeating.lines;
    quits = false;
    lines = refl;
    plays = repeats;
    behind = refl;
    closed = λ e. cc;
    last = λ e. cc;
  };
  short = omega arith;
  few = omega arith;
}

eleven : written_in (record { blocks = repeating ∷ [] } ∷ opening ∷ closing ∷ []) ≡ 11
unfolding written_from copies
eleven = refl

quitting_may : IsPlayableBlock (opening ∷ []) [] quitting
unfolding written_from brackets_from closing_from
quitting_may = record {
  low = omega arith;
  high = omega arith;
  first = λ e. cc;
  body = record {
    body = [];
    quits = true;
    lines = refl;
    plays = λ depth h. rw closed (nothing depth);
    behind = refl;
    closed = λ e. closed;
    last = λ e. refl;
  };
  short = omega arith;
  few = omega arith;
}

one_of : {A : Type 0} (P : A → Type 0) (x : A) → P x → All P (x ∷ [])
one_of P x h = All-cons P x [] h (all_none P)

head_of : {A : Type 0} (P : A → Type 0) (x : A) (xs : List A) → All P (x ∷ xs) → P x
head_of P x xs all = all zero x (omega arith)

-- a quit is in no body, so it is its block's end, and no block of its session comes behind it
quit_inside : (line : BlockLine) (rest : List BlockLine) (depth : ℕ) (kinds : List EventKind) → line ≡ said.Quit
    → AllMayPlay 62 depth kinds None (line ∷ rest) → ⊥
unfolding AllMayPlay
quit_inside said.Quit rest depth kinds e may = let q = may.0.quits in cc
quit_inside _ rest depth kinds e may = cc

quit_last : (body : List BlockLine) (quits : Bool) (depth : ℕ) (kinds : List EventKind)
    → said.Quit ∷ [] ≡ body ++ end_of quits → AllMayPlay 62 depth kinds None body → quits ≡ true
quit_last body true depth kinds e may = refl
quit_last [] false depth kinds e may = absurd (cc)
quit_last (line ∷ rest) false depth kinds e may = absurd (quit_inside line rest depth kinds (cc) may)

quits_so : HasBody (opening ∷ []) (closing ∷ []) quitting → ⊥
unfolding written_from
quits_so body =
    let more = body.last (quit_last body.body body.quits 5 (kinds_before 1 (opening ∷ [])) body.lines
    (body.plays 5 (omega arith))) in
    absurd (cc)

two_is_not : (k : ℕ) → k < 1 → get_or {A = ℕ} (2 ∷ []) k 1 ≡ 1 → ⊥
two_is_not zero lt e = omega (arith, e)
two_is_not (suc k) lt e = omega (arith, lt)

pub worked : WorkedPhases
worked = record {
  first = record {
    sessions = (λ has. two_is_not has.0 has.1 has.2, (λ has. omega (arith, has.1), tt));
    blocks = All-cons (IsPlayableBlock [] (closing ∷ [])) waiting (connecting ∷ []) waiting_may
        (one_of (IsPlayableBlock [] (closing ∷ [])) connecting connecting_may);
  };
  second = record {
    sessions = (λ has. omega (arith, has.1), tt);
    blocks = one_of (IsPlayableBlock (opening ∷ []) []) quitting quitting_may;
  };
  repeats = record {
    sessions = (λ has. omega (arith, has.1), tt);
    blocks = one_of (IsPlayableBlock [] []) repeating repeating_may;
  };
  once = refl;
  often = eleven;
  alone = λ may. (head_of (IsPlayableBlock [] []) quitting [] may.blocks).first refl;
  again = λ may.
      quits_so (head_of (IsPlayableBlock (opening ∷ []) (closing ∷ [])) quitting [] may.blocks).body;
  twice = λ may. may.sessions.0 (0, omega arith, refl);
}
