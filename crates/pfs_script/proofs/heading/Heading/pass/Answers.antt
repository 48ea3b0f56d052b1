use Rattle.std.proofs.Common.{◌≡◌, List, [], ◌∷◌, ◌++◌}
use Rattle.pfs_script.specs.declared.forms.Form.{Form}
use Rattle.pfs_script.specs.Headings.{named_limit, naming_in, with_class, head_with, head_of, limited, StandsIn}
use Rattle.pfs_script.proofs.RegisterLemmas.{on_ok}
use Rattle.pfs_script.proofs.HeadPasses.{limit_step, class_step, consumer_step, instrument_step, idle_line, idle_step}
use Rattle.pfs_script.proofs.heading.Heading.pass.Goals as goal

pub returns-in-Limit : goal.returns-in-Limit
returns-in-Limit c =
    on_ok c.pass_limit.result (c.pass_limit.new.self ≡ limited c.args.self.now (named_limit c.bytes.result.now) c.in-Limit.value)
    ((before : List Form) → StandsIn before c.args.line.now → c.args.self.now ≡ head_of before → c.pass_limit.new.self ≡ head_of (before ++ c.args.line.now ∷ []))
    (λ made before stands known.
    limit_step before c.args.line.now c.in-Limit.name c.bytes.result.now c.in-Limit.value c.args.self.now c.pass_limit.new.self c.in-Limit.is c.bytes.ensures made stands known)
    c.pass_limit.ensures.ok

pub returns-in-Class : goal.returns-in-Class
returns-in-Class c =
    on_ok c.register.result
    (c.register.new.self ≡ head_with (with_class (naming_in c.args.self.now) c.bytes-in-Class.result.now c.in-Class.kind c.in-Class.enabled c.in-Class.timed) c.args.self.now.limits c.args.self.now.consumers)
    ((before : List Form) → StandsIn before c.args.line.now → c.args.self.now ≡ head_of before → c.register.new.self ≡ head_of (before ++ c.args.line.now ∷ []))
    (λ made before stands known.
    class_step before c.args.line.now c.in-Class.name c.bytes-in-Class.result.now c.in-Class.kind c.in-Class.enabled c.in-Class.timed c.args.self.now c.register.new.self c.in-Class.is c.bytes-in-Class.ensures made known)
    c.register.ensures

pub returns-in-Consumer : goal.returns-in-Consumer
returns-in-Consumer c before stands known =
    consumer_step before c.args.line.now c.in-Consumer.name c.bytes-in-Consumer.result.now c.in-Consumer.on c.args.self.now c.switch.new.self c.in-Consumer.is c.bytes-in-Consumer.ensures c.switch.ensures known

pub returns-in-Instrument : goal.returns-in-Instrument
returns-in-Instrument c before stands known =
    instrument_step before c.args.line.now c.in-Instrument.pattern c.bytes-in-Instrument.result.now c.in-Instrument.enabled c.in-Instrument.timed c.args.self.now c.instrument.new.self c.in-Instrument.is c.bytes-in-Instrument.ensures c.instrument.ensures known

pub returns-in_default : goal.returns-in_default
returns-in_default c before stands known =
    idle_step before c.args.line.now c.args.self.now (idle_line c.args.line.now c.in_default.not-Limit c.in_default.not-Class c.in_default.not-Consumer c.in_default.not-Instrument) known
