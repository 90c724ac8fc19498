use Rattle.loom_memory.specs.Memory.{word_in}
use Rattle.loom_memory.proofs.TimeLaws.{keeps-same, stays-on, word-same}
use Rattle.std.proofs.Common.{◌∙◌, ap₂}
use Rattle.long_names.specs.declared.value.Value.{Value}
use Rattle.long_names.specs.State.{set_register}
use Rattle.object_memory.specs.Told.{Told}
use Rattle.loom_memory.proofs.GentleLaws.{steady-trans}
use Rattle.loom_memory.proofs.memory.LoomMemory.put_word.Goals as goal

pub returns-clause-told : goal.returns-clause-told
returns-clause-told g c = c.replace_word.ensures.told ∙ ap₂ (λ (t : Told) (v : Value). record t { regs = set_register t.regs c.args.to v }) c.note_use.ensures.told c.note_use.ensures.means

pub returns-clause-steady : goal.returns-clause-steady
returns-clause-steady g c = steady-trans g.H.Host c.args.self.now c.note_use.new.self c.replace_word.new.self c.note_use.ensures.steady c.replace_word.ensures.steady

pub returns-clause-stays : goal.returns-clause-stays
returns-clause-stays g c = stays-on c.args.self.now c.note_use.new.self c.replace_word.new.self (word_in c.args.self.now.regs c.args.to) (word_in c.note_use.new.self.regs c.args.to) (keeps-same c.args.self.now c.note_use.new.self c.note_use.ensures.flag) (word-same c.args.self.now c.note_use.new.self c.args.to c.note_use.ensures.regs) c.replace_word.ensures.stays

pub returns-clause-due : goal.returns-clause-due
returns-clause-due g c = c.replace_word.ensures.due ∙ c.note_use.ensures.due
