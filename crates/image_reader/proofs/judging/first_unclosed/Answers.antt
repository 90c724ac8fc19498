use Rattle.std.proofs.Common.{slice_get, ◌≡◌, ◌+◌, ◌-◌, ◌*◌, ◌^◌, ℕ, true, false, List, refl, sym, ap, subst, ◌∙◌, arith}
use Rattle.loom_host.specs.declared.outside.Role.TheVariants.{Work}
use Rattle.image_format.specs.Rules.{object_of_rec}
use Rattle.image_reader.specs.Frames.{IsDiskFault}
use Rattle.image_reader.specs.declared.fault.LoadFault.TheVariants.{Disk}
use Rattle.image_reader.specs.Tally.{HasRoom}
use Rattle.image_reader.proofs.Frames.{fault_later, leaves, look_loading}
use Rattle.image_reader.proofs.JudgeLaws.{are_still, closing-done, closing-more, closing-none, closing-stops, fresh-of, many-of, named-at}
use Rattle.image_reader.proofs.LookLaws.{read_none, read_then}
use Rattle.image_reader.proofs.Stored.{still_held, still_holds}
use Rattle.image_reader.proofs.TallyLaws.{fresh-room, raises-none, room-less}
use Rattle.image_reader.proofs.judging.first_unclosed.Goals as goal

pub loop-i-init : goal.loop-i-init
loop-i-init g c = record {
  closing = λ recs next told are. closing-none recs c.args.tally.now (raises-none c.args.tally.now);
  room = fresh-room c.args.tally.now.names c.args.tally.now c.requires.fresh;
  names = refl;
  read = read_none g.H.Host c.args.disk.now.host.now;
  rest = refl;
  same_host = refl;
}

pub count_object-requires : goal.count_object-requires
count_object-requires g c =
    let inv = c.loop-i.invariant in
    let few = c.requires.few in
    record {
      stands = still_holds g.H.Host c.args.disk.now.host.now c.loop-i.disk.host.now c.args.disk.now.rest c.loop-i.disk.rest (inv.read.roles Work) inv.rest c.requires.stands;
      held = λ told. still_held g.H.Host c.args.disk.now.host.now c.loop-i.disk.host.now c.args.disk.now.rest c.loop-i.disk.rest c.args.tally.now.names c.loop-i.i c.name-name.result (inv.read.roles Work) inv.rest (ap (λ (ns : List ℕ). slice_get ns c.loop-i.i) (sym inv.names) ∙ c.name-name.ensures) (c.requires.held told);
      room = room-less (65536 * (2 ^ 32 - c.loop-i.i)) 65536 c.loop-i.tally (omega (arith, few)) inv.room;
    }

pub returns-in_err-count_object-clause-fault : goal.returns-in_err-count_object-clause-fault
returns-in_err-count_object-clause-fault g c =
    leaves (IsDiskFault g.H.Host c.args.disk.now.host.now c.count_object.new.disk.host.now) c.from_residual.result c.in_err-count_object.field-0.0 c.from_residual.ensures.1
    (fault_later g.H.Host c.args.disk.now.host.now c.loop-i.disk.host.now c.count_object.new.disk.host.now (Disk c.in_err-count_object.field-0.0) (look_loading g.H.Host c.args.disk.now.host.now c.loop-i.disk.host.now c.loop-i.invariant.read) c.in_err-count_object.ensures.fault)

pub returns-in_err-count_object-clause-read : goal.returns-in_err-count_object-clause-read
returns-in_err-count_object-clause-read g c = read_then g.H.Host c.args.disk.now.host.now c.loop-i.disk.host.now c.count_object.new.disk.host.now c.loop-i.invariant.read c.count_object.ensures.read

pub returns-then-not-branch-clause-read : goal.returns-then-not-branch-clause-read
returns-then-not-branch-clause-read g c = read_then g.H.Host c.args.disk.now.host.now c.loop-i.disk.host.now c.count_object.new.disk.host.now c.loop-i.invariant.read c.count_object.ensures.read

pub returns-then-not-branch-clause-unclosed : goal.returns-then-not-branch-clause-unclosed
returns-then-not-branch-clause-unclosed g c = λ recs next told are.
    let inv = c.loop-i.invariant in
    let no : c.in_ok-count_object.field-0 ≡ false = search in
    let x = named-at g.H.Host c.loop-i.disk.host.now c.loop-i.disk.rest c.args.tally.now.names recs next c.loop-i.i c.name-name.result told
    (are_still g.H.Host c.args.disk.now.host.now c.loop-i.disk.host.now c.args.disk.now.rest c.loop-i.disk.rest c.args.tally.now.names recs next inv.read inv.rest are) (ap (λ (ns : List ℕ). slice_get ns c.loop-i.i) (sym inv.names) ∙ c.name-name.ensures) in
    closing-stops recs c.args.tally.now c.loop-i.tally c.count_object.new.tally c.loop-i.i c.name-name.result x.found.rec c.in_ok-count_object.field-0 (fresh-of c.args.tally.now.names recs c.args.tally.now are.names_are c.requires.fresh) x.found.at x.found.named (inv.closing recs next told are)
    (c.in_ok-count_object.ensures.counts (object_of_rec x.found.rec) told x.object) no

pub loop-i-preserved : goal.loop-i-preserved
loop-i-preserved g c =
    let inv = c.loop-i.invariant in
    let yes : c.in_ok-count_object.field-0 ≡ true = search in
    record {
      closing = λ recs next told are.
          let x = named-at g.H.Host c.loop-i.disk.host.now c.loop-i.disk.rest c.args.tally.now.names recs next c.loop-i.i c.name-name.result told
          (are_still g.H.Host c.args.disk.now.host.now c.loop-i.disk.host.now c.args.disk.now.rest c.loop-i.disk.rest c.args.tally.now.names recs next inv.read inv.rest are) (ap (λ (ns : List ℕ). slice_get ns c.loop-i.i) (sym inv.names) ∙ c.name-name.ensures) in
          closing-more recs c.args.tally.now c.loop-i.tally c.count_object.new.tally c.loop-i.i x.found.rec c.in_ok-count_object.field-0 (fresh-of c.args.tally.now.names recs c.args.tally.now are.names_are c.requires.fresh) x.found.at (inv.closing recs next told are)
          (c.in_ok-count_object.ensures.counts (object_of_rec x.found.rec) told x.object) yes;
      room = c.in_ok-count_object.ensures.room (65536 * (2 ^ 32 - (c.loop-i.i + 1)))
          (subst (λ (n : ℕ). HasRoom n c.loop-i.tally) (let few = c.requires.few in let e : 65536 * (2 ^ 32 - c.loop-i.i) ≡ 65536 * (2 ^ 32 - (c.loop-i.i + 1)) + 65536 = omega arith in e) inv.room) yes;
      names = c.count_object.ensures.names ∙ inv.names;
      read = read_then g.H.Host c.args.disk.now.host.now c.loop-i.disk.host.now c.count_object.new.disk.host.now inv.read c.count_object.ensures.read;
      rest = c.count_object.ensures.rest ∙ inv.rest;
      same_host = c.count_object.ensures.same_host ∙ inv.same_host;
    }

pub returns-clause-unclosed : goal.returns-clause-unclosed
returns-clause-unclosed g c = λ recs next told are. closing-done recs c.args.tally.now c.loop-i.tally c.loop-i.i (omega (arith, many-of c.args.tally.now.names recs are.names_are)) (c.loop-i.invariant.closing recs next told are)
