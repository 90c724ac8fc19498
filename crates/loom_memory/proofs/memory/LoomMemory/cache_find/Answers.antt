use Rattle.std.proofs.Common.{◌≡◌, ℕ, [], true, false, Some, None, refl, sym, ◌∙◌, ap, subst}
use Rattle.long_names.specs.declared.value.Value.{Value}
use Rattle.long_names.specs.declared.value.Value.TheVariants.{Ref}
use Rattle.long_names.specs.State.{set_register}
use Rattle.object_memory.specs.Told.{Told, IsReady}
use Rattle.object_memory.specs.Contract.{row_of_values}
use Rattle.core_view.specs.Words.{meant}
use Rattle.leaf_lambda.specs.Parts.{core_of}
use Rattle.method_cache.specs.Found.{found}
use Rattle.loom_memory.specs.Cache.{has_mark, cache_of}
use Rattle.loom_memory.specs.Memory.{loom_told, word_in}
use Rattle.loom_memory.proofs.CacheLaws.{mark-name}
use Rattle.loom_memory.proofs.MarkingLaws.{row-unmarked, row-unknown, row-found, marked-means, marked-used, marked-some, ready-found, filled, some-is}
use Rattle.loom_memory.proofs.GentleLaws.{steady-refl}
use Rattle.loom_memory.proofs.memory.LoomMemory.cache_find.Goals as goal
use Rattle.loom_memory.proofs.memory.LoomMemory.cache_find.Given as given

pub returns-then-not-names_marked-clause-found : goal.returns-then-not-names_marked-clause-found
unfolding loom_told
returns-then-not-names_marked-clause-found g c =
    let m = c.args.self.now in
    record {
      rows = λ n. row-unmarked (core_of m.pager.levels.parts) (found m.ledger.rows) m.ledger.mark m.ledger.begun (meant (core_of m.pager.levels.parts).entries [] 0 (word_in m.regs c.args.class)) (meant (core_of m.pager.levels.parts).entries [] 0 (word_in m.regs c.args.selector)) n (sym c.names_marked.ensures ∙ c.if-not-names_marked.true);
      told = refl;
    }

pub returns-then-not-names_marked-clause-remembered : goal.returns-then-not-names_marked-clause-remembered
returns-then-not-names_marked-clause-remembered g c = λ method has. let both : true ≡ false = sym has.lives ∙ sym c.names_marked.ensures ∙ c.if-not-names_marked.true in absurd (cc)

pub returns-in-None-clause-found : goal.returns-in-None-clause-found
unfolding loom_told
returns-in-None-clause-found g c =
    let m = c.args.self.now in
    record {
      rows = λ n. subst (λ (w : ℕ). row_of_values (cache_of (core_of m.pager.levels.parts) (found m.ledger.rows) m.ledger.mark m.ledger.begun) (meant (core_of m.pager.levels.parts).entries [] 0 w) (meant (core_of m.pager.levels.parts).entries [] 0 (word_in m.regs c.args.selector)) n ≡ false) c.word_of-c.ensures.word
          (subst (λ (w : ℕ). row_of_values (cache_of (core_of m.pager.levels.parts) (found m.ledger.rows) m.ledger.mark m.ledger.begun) (meant (core_of m.pager.levels.parts).entries [] 0 c.word_of-c.result) (meant (core_of m.pager.levels.parts).entries [] 0 w) n ≡ false) c.word_of-s.ensures.word
          (row-unknown (core_of m.pager.levels.parts) (found m.ledger.rows) m.ledger.mark m.ledger.begun c.word_of-c.result c.word_of-s.result n c.args.self.now.pager.levels.whole.parts.core c.word_of-c.ensures.some c.word_of-s.ensures.some c.word_of-c.ensures.used c.word_of-s.ensures.used (sym c.find.ensures ∙ c.in-None.is)));
      told = refl;
    }

pub returns-in-None-clause-remembered : goal.returns-in-None-clause-remembered
returns-in-None-clause-remembered g c = λ method has.
    let m = c.args.self.now in
    let both : None ≡ Some (word_in m.regs method) = sym c.in-None.is ∙ c.find.ensures ∙ ap (λ (w : ℕ). found m.ledger.rows w c.word_of-s.result) c.word_of-c.ensures.word ∙ ap (λ (w : ℕ). found m.ledger.rows (word_in m.regs c.args.class) w) c.word_of-s.ensures.word ∙ has.row in
    absurd (cc)

pub put_word-requires-clause-used : goal.put_word-requires-clause-used
put_word-requires-clause-used g c = λ is.
    let m = c.args.self.now in
    marked-used (core_of m.pager.levels.parts) c.in-Some.w (c.requires.kept.cached.rows (sym c.names_marked.ensures ∙ c.if-not-names_marked.false) c.word_of-c.result c.word_of-s.result c.in-Some.w (sym c.find.ensures ∙ c.in-Some.is)).2

pub put_word-requires-clause-some : goal.put_word-requires-clause-some
put_word-requires-clause-some g c =
    let m = c.args.self.now in
    marked-some (core_of m.pager.levels.parts) c.in-Some.w c.args.self.now.pager.levels.whole.parts.core (c.requires.kept.cached.rows (sym c.names_marked.ensures ∙ c.if-not-names_marked.false) c.word_of-c.result c.word_of-s.result c.in-Some.w (sym c.find.ensures ∙ c.in-Some.is)).2

marked : (g : given.Over) (c : goal.After-put_word g) → (has_mark (core_of c.args.self.now.pager.levels.parts) c.word_of-c.result ≡ true) × (has_mark (core_of c.args.self.now.pager.levels.parts) c.word_of-s.result ≡ true) × (has_mark (core_of c.args.self.now.pager.levels.parts) c.in-Some.w ≡ true)
marked g c = c.requires.kept.cached.rows (sym c.names_marked.ensures ∙ c.if-not-names_marked.false) c.word_of-c.result c.word_of-s.result c.in-Some.w (sym c.find.ensures ∙ c.in-Some.is)

told-of : (g : given.Over) (c : goal.After-put_word g) → loom_told g.H.Host c.put_word.new.self ≡ record (loom_told g.H.Host c.args.self.now) { regs = set_register (loom_told g.H.Host c.args.self.now).regs c.args.to (Ref ((core_of c.args.self.now.pager.levels.parts).entries c.in-Some.w).name) }
told-of g c = c.put_word.ensures.told ∙ ap (λ (v : Value). record (loom_told g.H.Host c.args.self.now) { regs = set_register (loom_told g.H.Host c.args.self.now).regs c.args.to v }) (marked-means (core_of c.args.self.now.pager.levels.parts) c.in-Some.w c.args.self.now.pager.levels.whole.parts.core (marked g c).2)

row-of : (g : given.Over) (c : goal.After-put_word g)
    → row_of_values (loom_told g.H.Host c.args.self.now).cache ((loom_told g.H.Host c.args.self.now).regs c.args.class) ((loom_told g.H.Host c.args.self.now).regs c.args.selector) ((core_of c.args.self.now.pager.levels.parts).entries c.in-Some.w).name ≡ true
unfolding loom_told
row-of g c =
    let m = c.args.self.now in
    let e = (core_of m.pager.levels.parts).entries in
    subst (λ (w : ℕ). row_of_values (cache_of (core_of m.pager.levels.parts) (found m.ledger.rows) m.ledger.mark m.ledger.begun) (meant (core_of m.pager.levels.parts).entries [] 0 w) (meant (core_of m.pager.levels.parts).entries [] 0 (word_in m.regs c.args.selector)) (e c.in-Some.w).name ≡ true) c.word_of-c.ensures.word
    (subst (λ (w : ℕ). row_of_values (cache_of (core_of m.pager.levels.parts) (found m.ledger.rows) m.ledger.mark m.ledger.begun) (meant (core_of m.pager.levels.parts).entries [] 0 c.word_of-c.result) (meant (core_of m.pager.levels.parts).entries [] 0 w) (e c.in-Some.w).name ≡ true) c.word_of-s.ensures.word
    (row-found (core_of m.pager.levels.parts) (found m.ledger.rows) m.ledger.mark m.ledger.begun c.word_of-c.result c.word_of-s.result c.in-Some.w c.args.self.now.pager.levels.whole.parts.core (sym c.names_marked.ensures ∙ c.if-not-names_marked.false) (marked g c).0 (marked g c).1 (sym c.find.ensures ∙ c.in-Some.is)))

pub returns-in-Some-clause-found : goal.returns-in-Some-clause-found
returns-in-Some-clause-found g c = record {
  method = ((core_of c.args.self.now.pager.levels.parts).entries c.in-Some.w).name;
  row = row-of g c;
  told = told-of g c;
}

pub returns-in-Some-clause-remembered : goal.returns-in-Some-clause-remembered
unfolding loom_told
returns-in-Some-clause-remembered g c = λ method has.
    let m = c.args.self.now in
    let same = some-is c.in-Some.w (word_in m.regs method) (sym c.in-Some.is ∙ c.find.ensures ∙ ap (λ (w : ℕ). found m.ledger.rows w c.word_of-s.result) c.word_of-c.ensures.word ∙ ap (λ (w : ℕ). found m.ledger.rows (word_in m.regs c.args.class) w) c.word_of-s.ensures.word ∙ has.row) in
    (refl, ap (λ (z : Told). z.regs c.args.to) c.put_word.ensures.told ∙ filled (loom_told g.H.Host m).regs c.args.to (meant (core_of m.pager.levels.parts).entries [] 0 c.in-Some.w) ∙ ap (meant (core_of m.pager.levels.parts).entries [] 0) same)

marks-of : (g : given.Over) (c : goal.After-put_word g) → (loom_told g.H.Host c.args.self.now).cache.marks ((core_of c.args.self.now.pager.levels.parts).entries c.in-Some.w).name ≡ true
unfolding loom_told
marks-of g c = mark-name (core_of c.args.self.now.pager.levels.parts) c.in-Some.w c.args.self.now.pager.levels.whole.parts.core (marked g c).2

pub returns-in-Some-clause-fit : goal.returns-in-Some-clause-fit
returns-in-Some-clause-fit g c = record {
  sound = c.put_word.ensures.leaves.sound;
  ready = λ ready. subst (λ (t : Told). IsReady t) (sym (told-of g c)) (ready-found (loom_told g.H.Host c.args.self.now) c.args.to ((core_of c.args.self.now.pager.levels.parts).entries c.in-Some.w).name ready (marks-of g c));
  lender = c.put_word.ensures.leaves.lender;
  outside = c.put_word.ensures.leaves.outside;
}

pub returns-then-not-names_marked-clause-steady : goal.returns-then-not-names_marked-clause-steady
returns-then-not-names_marked-clause-steady g c = steady-refl g.H.Host c.args.self.now

pub returns-in-None-clause-steady : goal.returns-in-None-clause-steady
returns-in-None-clause-steady g c = steady-refl g.H.Host c.args.self.now

pub returns-in-Some-clause-steady : goal.returns-in-Some-clause-steady
returns-in-Some-clause-steady g c = c.put_word.ensures.steady

pub returns-then-not-names_marked-clause-stays : goal.returns-then-not-names_marked-clause-stays
returns-then-not-names_marked-clause-stays g c = λ on named. on

pub returns-in-None-clause-stays : goal.returns-in-None-clause-stays
returns-in-None-clause-stays g c = λ on named. on
