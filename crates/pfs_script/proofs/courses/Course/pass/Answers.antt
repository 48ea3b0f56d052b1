use Rattle.std.proofs.Common.{refl}
use Rattle.pfs_script.proofs.SessionCourses.{phase_knows, connect_knows, resume_knows, repeat_knows, done_knows, rest_knows}
use Rattle.pfs_script.proofs.courses.Course.pass.Goals as goal

pub returns-in-Phase : goal.returns-in-Phase
returns-in-Phase c before short knows number session nesting =
    rw c.in-Phase.is (phase_knows c.args.self.now c.begin_phase.new.self before knows c.begin_phase.ensures.sessions c.begin_phase.ensures.here c.begin_phase.ensures.here_numbers c.begin_phase.ensures.present c.begin_phase.ensures.repeat)

pub returns-in-Connect : goal.returns-in-Connect
returns-in-Connect c before short knows number session nesting =
    rw c.in-Connect.is (connect_knows c.args.self.now c.begin_block.new.self before c.in-Connect.session c.in-Connect.user c.in-Connect.host knows (rw c.in-Connect.is at number) (rw c.in-Connect.is at session) c.unwrap_or.result c.unwrap_or.ensures (λ low. record {
      sessions = c.begin_block.ensures.sessions low;
      here = c.begin_block.ensures.here low;
      present = c.begin_block.ensures.present low;
      repeat = c.begin_block.ensures.repeat low;
    }))

pub returns-in-Resume : goal.returns-in-Resume
returns-in-Resume c before short knows number session nesting =
    rw c.in-Resume.is (resume_knows c.args.self.now c.begin_block-in-Resume.new.self before c.in-Resume.session knows (rw c.in-Resume.is at number) (rw c.in-Resume.is at session) c.unwrap_or-in-Resume.result c.unwrap_or-in-Resume.ensures (λ low. record {
      sessions = c.begin_block-in-Resume.ensures.sessions low;
      here = c.begin_block-in-Resume.ensures.here low;
      present = c.begin_block-in-Resume.ensures.present low;
      repeat = c.begin_block-in-Resume.ensures.repeat low;
    }))

pub returns-in-Repeat : goal.returns-in-Repeat
returns-in-Repeat c before short knows number session nesting =
    rw c.in-Repeat.is (repeat_knows c.args.self.now _ before _ c.events.result knows (c.events.ensures before knows) refl refl refl refl)

pub returns-in-Done : goal.returns-in-Done
returns-in-Done c before short knows number session nesting =
    rw c.in-Done.is (done_knows c.args.self.now _ before knows refl refl refl refl)

pub returns-then-self-lt65 : goal.returns-then-self-lt65
returns-then-self-lt65 c before short knows number session nesting =
    rest_knows c.args.self.now _ before c.args.line.now c.pass.new.self knows short nesting c.in_default.not-Phase c.in_default.not-Connect c.in_default.not-Resume c.in_default.not-Repeat c.in_default.not-Done
    (record {
      begun = c.pass.ensures.begun;
      quits = c.pass.ensures.quits;
      kinds = c.pass.ensures.kinds;
      inside = c.pass.ensures.inside;
      waits = c.pass.ensures.waits;
      statements = c.pass.ensures.statements;
    }) (λ low. refl) refl refl refl
