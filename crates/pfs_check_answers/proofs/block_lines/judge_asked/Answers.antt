use Rattle.pfs_check_answers.proofs.block_lines.judge_asked.Goals as goal

pub returns-in-Stored : goal.returns-in-Stored
returns-in-Stored g c = λ all content flags before knows shows asked.
    let own = rw c.in-Stored.is at asked in
    rw c.in-Stored.is (c.judge_stored.ensures all content flags before knows own.0 own.1)

pub returns-in-Held : goal.returns-in-Held
returns-in-Held g c = λ all content flags before knows shows asked.
    rw c.in-Held.is (c.judge_held.ensures content flags before shows (rw c.in-Held.is at asked))
