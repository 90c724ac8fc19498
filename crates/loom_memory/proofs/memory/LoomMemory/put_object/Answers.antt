use Rattle.std.proofs.Common.{◌∙◌, sym, ap, subst}
use Rattle.long_names.specs.State.{set_register}
use Rattle.long_names.specs.declared.value.Value.{Value}
use Rattle.leaf_lambda.specs.Parts.{core_of}
use Rattle.loom_memory.specs.Memory.{loom_told, loom_outside, others_of}
use Rattle.loom_memory.proofs.AddLaws.{added-made, damaged-making, entry-means, told-next}
use Rattle.loom_memory.proofs.MadeLaws.{put-resident}
use Rattle.loom_host.specs.declared.outside.Role.TheVariants.{Work}
use Rattle.object_memory.specs.declared.fault.MemFault.{MemFault}
use Rattle.loom_memory.specs.Makings.{IsLost}
use Rattle.loom_memory.proofs.GentleLaws.{rest-trans}
use Rattle.loom_memory.specs.declared.ledger.Ledger.{Ledger}
use Rattle.loom_memory.specs.Residents.{fetched}
use Rattle.loom_memory.proofs.SparedLaws.{spared-trans}
use Rattle.loom_memory.proofs.MindLaws.{minds-put}
use Rattle.loom_memory.proofs.EffectLaws.{damaged-all}
use Rattle.loom_memory.proofs.memory.LoomMemory.put_object.Goals as goal

pub returns-in-Some-clause-puts : goal.returns-in-Some-clause-puts
unfolding loom_told
returns-in-Some-clause-puts g c = record {
  made =
      let m = c.args.self.now in
      let n = c.add_object.new.self in
      added-made (loom_told g.H.Host m) (loom_told g.H.Host n) (loom_told g.H.Host c.put_word.new.self) c.args.to c.args.class c.args.name _ c.in-Some.ensures.adds.added
      (c.put_word.ensures.told ∙ ap (λ (v : Value). record (loom_told g.H.Host n) { regs = set_register (loom_told g.H.Host n).regs c.args.to v }) (entry-means (core_of n.pager.levels.parts) c.in-Some.s.0 c.args.name c.in-Some.ensures.adds.entry))
      (λ told. sym (told-next g.H.Host m told ∙ c.requires.name.next));
  there =
      let n = c.add_object.new.self in
      put-resident g.H.Host n c.put_word.new.self c.args.to c.args.name c.add_object.new.self.pager.levels.whole.parts.core c.put_word.new.self.pager.levels.whole.parts.core c.put_word.ensures.steady
      (c.put_word.ensures.told ∙ ap (λ (v : Value). record (loom_told g.H.Host n) { regs = set_register (loom_told g.H.Host n).regs c.args.to v }) (entry-means (core_of n.pager.levels.parts) c.in-Some.s.0 c.args.name c.in-Some.ensures.adds.entry))
      c.in-Some.ensures.adds.there;
  minds =
      let n = c.add_object.new.self in
      minds-put g.H.Host c.args.self.now n c.put_word.new.self c.args.to c.args.name c.in-Some.ensures.adds.minds c.add_object.new.self.pager.levels.whole.parts.core c.put_word.new.self.pager.levels.whole.parts.core c.put_word.ensures.steady
      (c.put_word.ensures.told ∙ ap (λ (v : Value). record (loom_told g.H.Host n) { regs = set_register (loom_told g.H.Host n).regs c.args.to v }) (entry-means (core_of n.pager.levels.parts) c.in-Some.s.0 c.args.name c.in-Some.ensures.adds.entry));
}

pub returns-in-None-clause-err : goal.returns-in-None-clause-err
returns-in-None-clause-err g c =
    damaged-making g.H.Host c.args.self.now c.add_object.new.self (loom_told g.H.Host c.refuse.new.self) _ c.refuse.result c.in-None.ensures.ledger c.add_object.ensures.disk c.in-None.ensures.none c.refuse.ensures.told c.refuse.ensures.result c.refuse.ensures.later

pub returns-in-Some-clause-leaves : goal.returns-in-Some-clause-leaves
unfolding loom_outside
returns-in-Some-clause-leaves g c = record {
  sound = c.put_word.ensures.leaves.sound;
  fetches = c.put_word.ensures.steady.idle.fetches ∙ c.add_object.ensures.fetches;
  lender = c.put_word.ensures.leaves.lender ∙ ap (λ d. d.host.ghost_name) c.add_object.ensures.disk;
  outside = c.put_word.ensures.leaves.outside ∙ ap (λ d. (λ r. others_of (g.H.Host.tells Work) r (g.H.Host.roles d.host.now r) (g.H.Host.faults d.host.now r))) c.add_object.ensures.disk;
}

pub returns-in-None-clause-leaves : goal.returns-in-None-clause-leaves
unfolding loom_outside
returns-in-None-clause-leaves g c = record {
  sound = damaged-all c.refuse.result _ _ _ c.refuse.ensures.result;
  fetches = c.refuse.ensures.brings ∙ c.add_object.ensures.fetches;
  lender = c.refuse.ensures.lender ∙ ap (λ d. d.host.ghost_name) c.add_object.ensures.disk;
  outside = c.refuse.ensures.outside ∙ ap (λ d. (λ r. others_of (g.H.Host.tells Work) r (g.H.Host.roles d.host.now r) (g.H.Host.faults d.host.now r))) c.add_object.ensures.disk;
}

pub returns-in-Some-clause-rests : goal.returns-in-Some-clause-rests
returns-in-Some-clause-rests g c = record {
  resting =
      let steady = c.put_word.ensures.steady in
      rest-trans c.args.self.now c.add_object.new.self c.put_word.new.self
      (record { remains = c.in-Some.ensures.adds.remains; idle = record { host = ap (λ d. d.host.now) c.add_object.ensures.disk; rest = ap (λ d. d.rest) c.add_object.ensures.disk; fetches = c.in-Some.ensures.fetches } })
      (record { remains = steady.gentle.remains; idle = steady.idle });
  cached = c.put_word.ensures.steady.gentle.cache ∙ c.in-Some.ensures.cached;
}

pub returns-in-None-clause-fault : goal.returns-in-None-clause-fault
returns-in-None-clause-fault g c = subst (λ (f : MemFault). IsLost f) (sym c.refuse.ensures.result) tt

pub returns-in-None-clause-spared : goal.returns-in-None-clause-spared
unfolding fetched
returns-in-None-clause-spared g c = spared-trans g.H.Host c.args.self.now c.add_object.new.self c.refuse.new.self (record {
  idle = record { host = ap (λ d. d.host.now) c.add_object.ensures.disk; rest = ap (λ d. d.rest) c.add_object.ensures.disk; fetches = ap (λ (k : Ledger). k.fetches) c.in-None.ensures.ledger };
  remains = λ told. absurd (c.in-None.ensures.none told);
  cached = λ told. absurd (c.in-None.ensures.none told);
}) c.refuse.ensures.spared

pub returns-in-None-clause-sure : goal.returns-in-None-clause-sure
returns-in-None-clause-sure g c = c.in-None.ensures.none

pub returns-in-Some-clause-due : goal.returns-in-Some-clause-due
returns-in-Some-clause-due g c = c.put_word.ensures.due ∙ c.add_object.ensures.due
