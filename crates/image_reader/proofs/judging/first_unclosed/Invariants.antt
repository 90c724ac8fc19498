use Rattle.std.proofs.Common.{◌≡◌, ◌-◌, ◌*◌, ◌^◌, ℕ, List, IsTrue}
use Rattle.long_names.specs.declared.object.Rec.{Rec}
use Rattle.loom_host.specs.declared.outside.Role.TheVariants.{Work}
use Rattle.loom_host.specs.Work.{IsWorkRead}
use Rattle.image_reader.specs.Judged.{AreRead, IsClosing}
use Rattle.image_reader.specs.Tally.{HasRoom}
use Rattle.image_reader.proofs.judging.first_unclosed.Given as goal

abbrev pub invariant-loop-i : goal.invariant-loop-i
invariant-loop-i g l = record {
  closing : (recs : List Rec) (next : ℕ) → IsTrue (g.H.Host.tells Work) → AreRead g.H.Host l.fn.disk.host.now l.fn.disk.rest l.fn.tally.names recs next → IsClosing recs l.fn.tally l.tally l.i;
  room : HasRoom (65536 * (2 ^ 32 - l.i)) l.tally;
  names : l.tally.names ≡ l.fn.tally.names;
  read : IsWorkRead g.H.Host l.fn.disk.host.now l.disk.host.now;
  rest : l.disk.rest ≡ l.fn.disk.rest;
  same_host : l.disk.host.ghost_name ≡ l.fn.disk.host.ghost_name;
}
