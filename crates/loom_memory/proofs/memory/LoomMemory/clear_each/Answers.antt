use Rattle.std.proofs.Common.{◌∙◌, refl, pos, arith}
use Rattle.long_names.specs.declared.limits.TheConstants.{MACHINE_REGISTERS, REGISTERS}
use Rattle.long_names.specs.declared.value.Value.TheVariants.{Int}
use Rattle.object_memory.proofs.ClearLaws.{none_yet, all_done, cleared, still}
use Rattle.loom_memory.specs.Memory.{loom_told}
use Rattle.loom_memory.proofs.GentleLaws.{steady-refl, steady-trans}
use Rattle.loom_memory.proofs.memory.LoomMemory.clear_each.Goals as goal

pub loop-r-init : goal.loop-r-init
loop-r-init g c = record {
  regs = λ k. none_yet MACHINE_REGISTERS k _;
  rest = refl;
  steady = steady-refl g.H.Host c.args.self.now;
  due = refl;
  fit = record { sound = c.requires.sound; ready = λ r. r; lender = refl; outside = refl };
}

pub int-requires-clause-sound : goal.int-requires-clause-sound
int-requires-clause-sound g c = c.loop-r.invariant.fit.sound

pub loop-r-preserved : goal.loop-r-preserved
loop-r-preserved g c =
    let here = c.loop-r.invariant in
    let put = c.int.ensures in
    let told = loom_told g.H.Host in
    record {
      regs = λ k. cleared (told c.args.self.now) (told c.loop-r.self) (told c.int.new.self) MACHINE_REGISTERS c.loop-r.r c.new.result k c.new.ensures c.loop-r.auto.r put.told (here.regs k);
      rest = still (told c.args.self.now) (told c.loop-r.self) (told c.int.new.self) c.new.result (Int (pos 0)) here.rest put.told;
      steady = steady-trans g.H.Host c.args.self.now c.loop-r.self c.int.new.self here.steady put.steady;
      due = put.due ∙ here.due;
      fit = record {
        sound = put.fit.sound;
        ready = λ r. put.fit.ready (here.fit.ready r);
        lender = put.fit.lender ∙ here.fit.lender;
        outside = put.fit.outside ∙ here.fit.outside;
      };
    }

pub returns-clause-regs : goal.returns-clause-regs
returns-clause-regs g c = λ k.
    let here = c.loop-r.invariant in
    here.regs k ∙ all_done MACHINE_REGISTERS REGISTERS c.loop-r.r k _ c.loop-r.auto.r (omega (arith, c.loop-r-test.false)) c.loop-r.auto.r-end (λ high. omega (arith, high, c.loop-r.auto.r-end))

pub returns-clause-rest : goal.returns-clause-rest
returns-clause-rest g c = c.loop-r.invariant.rest

pub returns-clause-steady : goal.returns-clause-steady
returns-clause-steady g c = c.loop-r.invariant.steady

pub returns-clause-due : goal.returns-clause-due
returns-clause-due g c = c.loop-r.invariant.due

pub returns-clause-fit : goal.returns-clause-fit
returns-clause-fit g c = c.loop-r.invariant.fit
