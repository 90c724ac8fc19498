use Rattle.std.proofs.Common.{sym, ◌∙◌}
use Rattle.loom_memory.proofs.FirstLaws.{unused-all}
use Rattle.loom_memory.proofs.beginning.empty_core.Goals as goal

pub returns : goal.returns
returns c =
    let is = c.in_ok-parts.ensures in
    record {
      empty = record {
        parts = is.parts;
        tight = is.tight;
        size = is.size;
        entries_are = is.entries;
        unused = unused-all c.in_ok-parts.parts is.parts (is.spare ∙ sym is.entries) c.entries_are_counted.ensures;
        outside_none = is.outside;
        backed = λ disk. (is.held disk).0;
      };
    }
