use Rattle.std.proofs.Common.{◌≡◌, ℕ, ◌+◌, ◌≤◌, refl, sym, ◌∙◌, subst, arith}
use Rattle.leaf_lambda.specs.declared.parts.Parts.{Parts}
use Rattle.leaf_lambda.specs.Parts.{core_of}
use Rattle.loom_memory.specs.Memory.{loom_told}
use Rattle.loom_memory.specs.Says.{IsSaid}
use Rattle.loom_memory.proofs.BringLaws.{quiet-same}
use Rattle.loom_memory.proofs.SayLaws.{said-none}
use Rattle.loom_memory.proofs.TextLaws.{text-still}
use Rattle.loom_memory.proofs.GentleLaws.{speech-refl, speech-trans}
use Rattle.loom_memory.proofs.memory.LoomMemory.say_text.Goals as goal

pub loop-i-init : goal.loop-i-init
loop-i-init g c = record {
  within = omega arith;
  said = λ t was. was;
  sound = c.requires.sound;
  parts = refl;
  brings = refl;
  speech = speech-refl g.H.Host c.args.self.now;
  lender = refl;
  outside = refl;
}

pub say_from-requires-clause-text : goal.say_from-requires-clause-text
say_from-requires-clause-text g c =
    let m = c.args.self.now in
    text-still g.H.Host m c.loop-i.self c.args.of c.args.s.0 c.loop-i.i c.requires.text c.loop-i.invariant.parts (c.loop-i.invariant.said (loom_told g.H.Host m) (said-none (loom_told g.H.Host m) (loom_told g.H.Host m) c.args.of (quiet-same g.H.Host m)))

pub say_from-requires-clause-within : goal.say_from-requires-clause-within
say_from-requires-clause-within g c =
    let part = c.piece_of-count.ensures.within in
    let low = c.loop-i-test.true in
    let all = c.requires.len in
    subst (λ (p : Parts). c.loop-i.i + c.piece_of-count.result ≤ ((core_of p).entries c.args.s.0).len) (sym c.loop-i.invariant.parts) (omega (arith, part, low, all))

pub say_from-requires-clause-some : goal.say_from-requires-clause-some
say_from-requires-clause-some g c =
    let low = c.loop-i-test.true in
    c.piece_of-count.ensures.some (omega (arith, low))

pub loop-i-preserved : goal.loop-i-preserved
loop-i-preserved g c =
    let i = c.loop-i.invariant in
    let part = c.piece_of-count.ensures.within in
    let low = c.loop-i-test.true in
    record {
      within = omega arith;
      said = λ t was. c.in-Ok.ensures.said t (i.said t was);
      sound = c.say_from.ensures.leaves.sound;
      parts = c.in-Ok.ensures.parts ∙ i.parts;
      brings = c.say_from.ensures.leaves.fetches ∙ i.brings;
      speech = speech-trans g.H.Host c.args.self.now c.loop-i.self c.say_from.new.self i.speech c.in-Ok.ensures.speech;
      lender = c.say_from.ensures.leaves.lender ∙ i.lender;
      outside = c.say_from.ensures.leaves.outside ∙ i.outside;
    }

pub returns-in-Err-clause-err : goal.returns-in-Err-clause-err
returns-in-Err-clause-err g c = λ t ready was. c.in-Err.ensures.err t ready (c.loop-i.invariant.said t was)

pub returns-clause-said : goal.returns-clause-said
returns-clause-said g c = λ t was.
    let most = c.loop-i.invariant.within in
    let past = c.loop-i-test.false in
    let all : c.loop-i.i ≡ c.args.len = omega arith in
    subst (λ (k : ℕ). IsSaid t (loom_told g.H.Host c.loop-i.self) c.args.of k) all (c.loop-i.invariant.said t was)

pub returns-clause-speech : goal.returns-clause-speech
returns-clause-speech g c = c.loop-i.invariant.speech
