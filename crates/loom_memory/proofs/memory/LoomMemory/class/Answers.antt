use Rattle.loom_memory.proofs.TimeLaws.{both-rest}
use Rattle.loom_memory.specs.Thinned.{StaysThinned}
use Rattle.loom_memory.specs.Memory.{word_in}
use Rattle.std.proofs.Common.{◌≡◌, [], None, refl, sym, ◌∙◌, ap, subst}
use Rattle.long_names.specs.Names.{SMALL_INTEGER}
use Rattle.long_names.specs.State.{IsRef}
use Rattle.long_names.specs.declared.value.Value.TheVariants.{Int, Ref}
use Rattle.core_view.specs.Words.{meant, int_of_short}
use Rattle.core_view.proofs.Words.{meant-short}
use Rattle.leaf_lambda.specs.Parts.{core_of}
use Rattle.loom_memory.specs.Memory.{loom_told}
use Rattle.loom_memory.proofs.WordLaws.{odd-else, number-means}
use Rattle.loom_memory.proofs.KnownLaws.{number-access, number-came, no-number, name-came, named-ref, ready-named}
use Rattle.std.specs.Prelude.{IsSome}
use Rattle.long_names.specs.Objects.{int_of}
use Rattle.purger.specs.Purge.{HasRoom}
use Rattle.loom_memory.specs.Gentle.{IsSteady}
use Rattle.loom_memory.proofs.GentleLaws.{then-number}
use Rattle.loom_memory.specs.Own.{MindsCache}
use Rattle.loom_memory.proofs.OneLaws.{brings-none, brings-where}
use Rattle.loom_memory.proofs.memory.LoomMemory.class.Goals as goal
use Rattle.loom_memory.proofs.memory.LoomMemory.class.Given as given

name-is : (g : given.Over) (c : goal.After-class_of_object g) → (loom_told g.H.Host c.args.self.now).regs c.args.of ≡ Ref ((core_of c.args.self.now.pager.levels.parts).entries c.word_of-w.result).name
unfolding loom_told
name-is g c =
    let m = c.args.self.now in
    ap (meant (core_of m.pager.levels.parts).entries [] 0) (sym c.word_of-w.ensures.word) ∙ meant-short (core_of m.pager.levels.parts).entries [] 0 c.word_of-w.result (sym c.is_name.ensures ∙ c.if-is_name.true)

pub class_of_object-requires-clause-object : goal.class_of_object-requires-clause-object
unfolding loom_told
class_of_object-requires-clause-object g c =
    let m = c.args.self.now in
    subst IsRef (sym (ap (meant (core_of m.pager.levels.parts).entries [] 0) (sym c.word_of-w.ensures.word) ∙ meant-short (core_of m.pager.levels.parts).entries [] 0 c.word_of-w.result (sym c.is_name.ensures ∙ c.if-is_name.true))) tt

pub returns-then-is_name-clause-number : goal.returns-then-is_name-clause-number
returns-then-is_name-clause-number g c = no-number c.class_of_object.result ((loom_told g.H.Host c.args.self.now).regs c.args.of) ((core_of c.args.self.now.pager.levels.parts).entries c.word_of-w.result).name _ (name-is g c)

number-is : (g : given.Over) (c : goal.After-put_name g) → (loom_told g.H.Host c.args.self.now).regs c.args.of ≡ Int (int_of_short c.word_of-w.result)
unfolding loom_told
number-is g c =
    let m = c.args.self.now in
    ap (meant (core_of m.pager.levels.parts).entries [] 0) (sym c.word_of-w.ensures.word)
    ∙ number-means (core_of m.pager.levels.parts).entries c.word_of-w.result (int_of_short c.word_of-w.result) (odd-else c.word_of-w.result c.word_of-w.ensures.some (sym c.is_name.ensures ∙ c.if-is_name.false)) refl

pub put_name-requires-clause-named : goal.put_name-requires-clause-named
unfolding loom_told
put_name-requires-clause-named g c = λ told. ((c.requires.fit.ready.whole told).known SMALL_INTEGER refl, refl)

pub returns-clause-access : goal.returns-clause-access
returns-clause-access g c = number-access c.put_name.result (loom_told g.H.Host c.args.self.now) (loom_told g.H.Host c.put_name.new.self) c.args.to c.args.of (int_of_short c.word_of-w.result) (number-is g c) c.put_name.ensures.naming c.put_name.ensures.err

pub returns-clause-name : goal.returns-clause-name
returns-clause-name g c = named-ref c.put_name.result ((loom_told g.H.Host c.put_name.new.self).regs c.args.to) SMALL_INTEGER (name-came c.put_name.result (loom_told g.H.Host c.args.self.now) (loom_told g.H.Host c.put_name.new.self) c.args.to SMALL_INTEGER c.put_name.ensures.naming)

pub returns-clause-number : goal.returns-clause-number
returns-clause-number g c = number-came c.put_name.result _ _ (name-came c.put_name.result (loom_told g.H.Host c.args.self.now) (loom_told g.H.Host c.put_name.new.self) c.args.to SMALL_INTEGER c.put_name.ensures.naming)

pub returns-clause-fit : goal.returns-clause-fit
returns-clause-fit g c = record {
  sound = c.put_name.ensures.leaves.sound;
  ready = ready-named c.put_name.result (loom_told g.H.Host c.args.self.now) (loom_told g.H.Host c.put_name.new.self) c.args.to SMALL_INTEGER c.put_name.ensures.naming (λ told. (c.requires.fit.ready.whole told).known SMALL_INTEGER refl) c.requires.fit.ready;
  lender = c.put_name.ensures.leaves.lender;
  outside = c.put_name.ensures.leaves.outside;
}

pub returns-then-is_name-clause-own : goal.returns-then-is_name-clause-own
returns-then-is_name-clause-own g c = λ ref. c.class_of_object.ensures.own

pub returns-clause-own : goal.returns-clause-own
returns-clause-own g c = λ ref. absurd (subst IsRef (number-is g c) ref)

pub returns-then-is_name-clause-steady : goal.returns-then-is_name-clause-steady
returns-then-is_name-clause-steady g c = no-number c.class_of_object.result ((loom_told g.H.Host c.args.self.now).regs c.args.of) ((core_of c.args.self.now.pager.levels.parts).entries c.word_of-w.result).name _ (name-is g c)

pub returns-clause-steady : goal.returns-clause-steady
returns-clause-steady g c = then-number (IsSome (int_of ((loom_told g.H.Host c.args.self.now).regs c.args.of))) (HasRoom c.args.self.now.pager.levels.parts 0 27 → IsSteady g.H.Host c.args.self.now c.put_name.new.self) c.put_name.result c.put_name.ensures.steady

pub returns-then-is_name-clause-damage : goal.returns-then-is_name-clause-damage
returns-then-is_name-clause-damage g c = λ ref. c.class_of_object.ensures.damage

pub returns-clause-damage : goal.returns-clause-damage
returns-clause-damage g c = λ ref. absurd (subst IsRef (number-is g c) ref)

pub returns-then-is_name-clause-minds : goal.returns-then-is_name-clause-minds
returns-then-is_name-clause-minds g c = no-number c.class_of_object.result ((loom_told g.H.Host c.args.self.now).regs c.args.of) ((core_of c.args.self.now.pager.levels.parts).entries c.word_of-w.result).name _ (name-is g c)

pub returns-clause-minds : goal.returns-clause-minds
returns-clause-minds g c = then-number (IsSome (int_of ((loom_told g.H.Host c.args.self.now).regs c.args.of))) (MindsCache g.H.Host None c.args.self.now c.put_name.new.self (λ k. ⊥)) c.put_name.result c.put_name.ensures.minds

ref-of : (g : given.Over) (c : goal.After-class_of_object g) → IsRef ((loom_told g.H.Host c.args.self.now).regs c.args.of)
unfolding loom_told
ref-of g c =
    let m = c.args.self.now in
    subst IsRef (sym (ap (meant (core_of m.pager.levels.parts).entries [] 0) (sym c.word_of-w.ensures.word) ∙ meant-short (core_of m.pager.levels.parts).entries [] 0 c.word_of-w.result (sym c.is_name.ensures ∙ c.if-is_name.true))) tt

pub returns-then-is_name-clause-brings : goal.returns-then-is_name-clause-brings
returns-then-is_name-clause-brings g c = brings-where c.args.self.now c.class_of_object.new.self _ _ (λ away. (ref-of g c, away)) c.class_of_object.ensures.brings

pub returns-clause-brings : goal.returns-clause-brings
returns-clause-brings g c = brings-none c.args.self.now c.put_name.new.self _ c.put_name.ensures.leaves.fetches

pub returns-then-is_name-clause-gone : goal.returns-then-is_name-clause-gone
returns-then-is_name-clause-gone g c = λ ref. c.class_of_object.ensures.gone

pub returns-clause-gone : goal.returns-clause-gone
returns-clause-gone g c = λ ref. absurd (subst IsRef (number-is g c) ref)

pub returns-then-is_name-clause-rests : goal.returns-then-is_name-clause-rests
returns-then-is_name-clause-rests g c = no-number c.class_of_object.result ((loom_told g.H.Host c.args.self.now).regs c.args.of) ((core_of c.args.self.now.pager.levels.parts).entries c.word_of-w.result).name _ (name-is g c)

pub returns-clause-rests : goal.returns-clause-rests
returns-clause-rests g c = then-number (IsSome (int_of ((loom_told g.H.Host c.args.self.now).regs c.args.of))) ((c.put_name.new.self.due ≡ c.args.self.now.due) × StaysThinned c.args.self.now c.put_name.new.self (word_in c.args.self.now.regs c.args.to)) c.put_name.result (both-rest (c.put_name.new.self.due ≡ c.args.self.now.due) (StaysThinned c.args.self.now c.put_name.new.self (word_in c.args.self.now.regs c.args.to)) c.put_name.result c.put_name.ensures.due c.put_name.ensures.stays)
