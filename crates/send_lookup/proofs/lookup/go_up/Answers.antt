use Rattle.std.proofs.Common.{◌≡◌, ℕ, suc, ◌+◌, ◌-◌, List, [], ◌∷◌, inl, inr, refl, sym, ◌∙◌, arith}
use Rattle.blue_model.specs.declared.cause.Cause.TheVariants.{Shape}
use Rattle.blue_model.specs.Parts.{field}
use Rattle.send_lookup.proofs.ClassLaws.{looks_first}
use Rattle.send_lookup.proofs.PathLaws.{KeepsPath-trans, Passes-refl, Passes-trans, passes_looked, passes_rest, looks_keep, on_path_later, on_path_at, first_on_path, walks_exit_found, walks_one, walks_none, walks_only, part_reads}
use Rattle.send_lookup.proofs.ChainLaws.{chain_ends, chain_stops, chain_found, chain_stuck, chain_torn, chain_on}
use Rattle.send_lookup.proofs.lookup.go_up.Goals as goal

pub loop-turn-init : goal.loop-turn-init
loop-turn-init g c = record {
  whole = λ cpu new answer s. s;
  passes = Passes-refl (20 ∷ 21 ∷ 22 ∷ []) _;
  first = inl refl;
  fit = record { sound = c.requires.fit.sound; ready = c.requires.fit.ready };
  lender = refl;
  outside = refl;
}

pub loop-turn-preserved : goal.loop-turn-preserved
loop-turn-preserved g c =
    let here = c.loop-turn.invariant in
    let found = c.in_ok-find_in.ensures in
    let load = c.in_ok-field.ensures in
    let all : List ℕ = 20 ∷ 21 ∷ 22 ∷ [] in
    let turn = c.loop-turn._turn in
    let more : 1024 - turn ≡ suc (1024 - (turn + 1)) = omega (arith, c.loop-turn-test.true) in
    let selector = load.looks.regs 23 refl ∙ found.passes.regs 23 refl in
    let class = found.passes.regs 20 refl in
    let keeps = looks_keep _ _ _ load.looks in
    record {
      whole = λ cpu new answer s. here.whole cpu new answer (chain_on _ _ _ _ _ more (sym c.is.ensures ∙ c.if-is.false) (walks_none _ _ c.if-branch.false (found.walks cpu))
          (walks_only _ (part_reads Shape (field 3 0) _) (rw (class) at load.serves cpu) keeps (on_path_later _ _ _ keeps found.class)) (rw (selector) at s));
      passes = Passes-trans all _ _ _ (Passes-trans all _ _ _ here.passes (passes_rest 20 (21 ∷ 22 ∷ []) _ _ found.passes)) (passes_looked all _ _ (looks_first 20 (21 ∷ 22 ∷ []) _ _ load.looks));
      first = inr (first_on_path _ _ _ _ here.first (KeepsPath-trans _ _ _ found.passes.keeps keeps) (on_path_later _ _ _ keeps found.class));
      fit = record { sound = load.fit.sound; ready = load.fit.ready };
      lender = load.fit.lender ∙ found.fit.lender ∙ here.lender;
      outside = load.fit.outside ∙ found.fit.outside ∙ here.outside;
    }

pub returns-then-is-clause-walks : goal.returns-then-is-clause-walks
returns-then-is-clause-walks g c = λ cpu.
    let here = c.loop-turn.invariant in
    here.whole cpu _ _ (chain_ends _ _ _ (sym c.is.ensures ∙ c.if-is.true) here.fit.ready)

pub returns-in_err-find_in-clause-walks : goal.returns-in_err-find_in-clause-walks
returns-in_err-find_in-clause-walks g c = λ cpu.
    let here = c.loop-turn.invariant in
    let turn = c.loop-turn._turn in
    let more : 1024 - turn ≡ suc (1024 - (turn + 1)) = omega (arith, c.loop-turn-test.true) in
    walks_exit_found _ _ c.from_residual.ensures.1 (here.whole cpu _ _ (chain_stuck _ _ _ _ more (sym c.is.ensures ∙ c.if-is.false) (c.in_err-find_in.ensures.walks cpu))).serves

pub returns-then-branch-clause-walks : goal.returns-then-branch-clause-walks
returns-then-branch-clause-walks g c = λ cpu.
    let here = c.loop-turn.invariant in
    let found = c.in_ok-find_in.ensures in
    let turn = c.loop-turn._turn in
    let more : 1024 - turn ≡ suc (1024 - (turn + 1)) = omega (arith, c.loop-turn-test.true) in
    here.whole cpu _ _ (chain_found _ _ _ _ _ more (sym c.is.ensures ∙ c.if-is.false) found.fit.ready (walks_one _ _ c.if-branch.true (found.walks cpu)))

pub returns-then-branch-clause-passes : goal.returns-then-branch-clause-passes
returns-then-branch-clause-passes g c =
    let here = c.loop-turn.invariant in
    Passes-trans (20 ∷ 21 ∷ 22 ∷ []) _ _ _ here.passes (passes_rest 20 (21 ∷ 22 ∷ []) _ _ c.in_ok-find_in.ensures.passes)

pub returns-then-branch-clause-class : goal.returns-then-branch-clause-class
returns-then-branch-clause-class g c = λ found.
    let here = c.loop-turn.invariant in
    let it = c.in_ok-find_in.ensures in
    first_on_path _ _ _ _ here.first it.passes.keeps it.class

pub returns-then-branch-clause-selector : goal.returns-then-branch-clause-selector
returns-then-branch-clause-selector g c = λ found.
    on_path_at (g.M.ObjectMemory.told c.find_in.new.m) _ _ (c.loop-turn.invariant.passes.regs 23 refl) c.in_ok-find_in.ensures.selector

pub returns-then-branch-clause-method : goal.returns-then-branch-clause-method
returns-then-branch-clause-method g c = λ found. c.in_ok-find_in.ensures.method c.if-branch.true

pub returns-in_err-field-clause-walks : goal.returns-in_err-field-clause-walks
returns-in_err-field-clause-walks g c = λ cpu.
    let here = c.loop-turn.invariant in
    let found = c.in_ok-find_in.ensures in
    let turn = c.loop-turn._turn in
    let more : 1024 - turn ≡ suc (1024 - (turn + 1)) = omega (arith, c.loop-turn-test.true) in
    let class = found.passes.regs 20 refl in
    walks_exit_found _ _ c.from_residual-in_err-field.ensures.1 (here.whole cpu _ _ (chain_torn _ _ _ _ more (sym c.is.ensures ∙ c.if-is.false) (walks_none _ _ c.if-branch.false (found.walks cpu)) (rw (class) at c.in_err-field.ensures.serves cpu))).serves

pub returns-then-not-is-clause-walks : goal.returns-then-not-is-clause-walks
returns-then-not-is-clause-walks g c = λ cpu.
    let here = c.loop-turn.invariant in
    let none : 1024 - c.loop-turn._turn ≡ 0 = omega (arith, c.loop-turn-test.false) in
    here.whole cpu _ _ (chain_stops _ _ _ none (sym c.is-2.ensures ∙ c.if-not-is.true))

pub returns-clause-walks : goal.returns-clause-walks
returns-clause-walks g c = λ cpu.
    let here = c.loop-turn.invariant in
    here.whole cpu _ _ (chain_ends _ _ _ (sym c.is-2.ensures ∙ c.if-not-is.false) here.fit.ready)
