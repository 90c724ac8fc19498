use Rattle.std.proofs.Common.{◌∙◌}
use Rattle.long_names.specs.State.{ACTIVE_CONTEXT}
use Rattle.machine_run.proofs.SightLaws.{context_by}
use Rattle.machine_run.proofs.tracing.active_context.Goals as goal

pub returns : goal.returns
returns g c = c.unwrap_or.ensures ∙ context_by ((g.M.ObjectMemory.told c.args.m.now).regs ACTIVE_CONTEXT) c.word_in.result c.new.result c.word_in.ensures c.new.ensures.name c.new.ensures.value
