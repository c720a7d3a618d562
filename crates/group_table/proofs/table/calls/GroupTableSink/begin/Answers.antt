use Rattle.std.proofs.Common.{ap, ◌∙◌}
use Rattle.sink.specs.Meaning.{Meaning}
use Rattle.group_table.proofs.Steps.{begins}
use Rattle.group_table.proofs.table.calls.GroupTableSink.begin.Goals as goal

pub invariant_of-self : goal.invariant_of-self
invariant_of-self c =
    let t = c.clear.new.self in
    begins t c.new.result c.len.result (ap (λ (m : Meaning). m.script) c.clear.ensures) (c.len.ensures ∙ t.entries.memory.ok.0) c.new.ensures
