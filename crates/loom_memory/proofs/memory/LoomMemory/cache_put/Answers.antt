use Rattle.std.proofs.Common.{◌≡◌, ℕ, inl, inr, [], true, false, Some, refl, sym, ◌∙◌, ap, subst, ⊎_elim}
use Rattle.long_names.specs.declared.value.Value.TheVariants.{Ref}
use Rattle.object_memory.specs.Told.{IsReady}
use Rattle.object_memory.specs.Contract.{row_of_values, is_marked}
use Rattle.object_table.specs.Entries.{is_short}
use Rattle.core_view.specs.Words.{meant}
use Rattle.core_view.specs.Counts.{marked_of}
use Rattle.leaf_lambda.specs.Parts.{core_of}
use Rattle.method_cache.specs.Found.{found}
use Rattle.loom_memory.specs.Cache.{has_mark, cache_of}
use Rattle.loom_memory.specs.Memory.{loom_told, loom_outside, word_in, IsThin, IsSound}
use Rattle.loom_memory.proofs.CacheLaws.{mark-name}
use Rattle.loom_memory.proofs.RowLaws.{marked-word, put-cached, put-others, put-rows}
use Rattle.loom_memory.proofs.MarkingLaws.{ledger-kept, ledger-over, marked-means, put-row, path-marked, path-begins, unmarked-whole}
use Rattle.loom_memory.specs.Residents.{fetched}
use Rattle.loom_memory.proofs.GentleLaws.{remains-refl, rest-refl}
use Rattle.loom_memory.proofs.memory.LoomMemory.cache_put.Goals as goal
use Rattle.loom_memory.proofs.memory.LoomMemory.cache_put.Given as given

pub returns-then-not-self-clause-whole : goal.returns-then-not-self-clause-whole
unfolding loom_told
returns-then-not-self-clause-whole g c = λ whole.
    let m = c.args.self.now in
    let on = path-begins m.ledger.begun _ whole in
    let both : true ≡ false = sym on ∙ c.if-not-self.true in absurd (cc)

pub returns-then-not-names_marked-clause-whole : goal.returns-then-not-names_marked-clause-whole
unfolding loom_told
returns-then-not-names_marked-clause-whole g c = λ whole.
    let m = c.args.self.now in
    absurd (unmarked-whole (core_of m.pager.levels.parts) (found m.ledger.rows) m.ledger.mark m.ledger.begun (meant (core_of m.pager.levels.parts).entries [] 0 (word_in m.regs c.args.class)) c.args.self.now.pager.levels.whole.parts.core c.requires.sound.kept.cached (sym c.names_marked.ensures ∙ c.if-not-names_marked.true) (c.requires.class whole))

whole-of : (g : given.Over) (c : goal.After-put g) → (loom_told g.H.Host c.args.self.now).cache.path ≡ true
unfolding loom_told
whole-of g c = path-marked c.args.self.now.ledger.mark c.args.self.now.ledger.begun (has_mark (core_of c.args.self.now.pager.levels.parts) c.args.self.now.ledger.mark) c.if-not-self.false (sym c.names_marked.ensures ∙ c.if-not-names_marked.false)

class-of : (g : given.Over) (c : goal.After-put g) → (has_mark (core_of c.args.self.now.pager.levels.parts) c.word_of-c.result ≡ true) × (is_short c.word_of-c.result ≡ true)
unfolding loom_told
class-of g c =
    let m = c.args.self.now in
    marked-word (core_of m.pager.levels.parts) (found m.ledger.rows) m.ledger.mark m.ledger.begun c.word_of-c.result c.args.self.now.pager.levels.whole.parts.core c.word_of-c.ensures.some c.word_of-c.ensures.used
    (subst (λ (w : ℕ). is_marked (cache_of (core_of m.pager.levels.parts) (found m.ledger.rows) m.ledger.mark m.ledger.begun) (meant (core_of m.pager.levels.parts).entries [] 0 w) ≡ true) (sym c.word_of-c.ensures.word) (c.requires.class (whole-of g c)))

selector-of : (g : given.Over) (c : goal.After-put g) → (has_mark (core_of c.args.self.now.pager.levels.parts) c.word_of-s.result ≡ true) × (is_short c.word_of-s.result ≡ true)
unfolding loom_told
selector-of g c =
    let m = c.args.self.now in
    marked-word (core_of m.pager.levels.parts) (found m.ledger.rows) m.ledger.mark m.ledger.begun c.word_of-s.result c.args.self.now.pager.levels.whole.parts.core c.word_of-s.ensures.some c.word_of-s.ensures.used
    (subst (λ (w : ℕ). is_marked (cache_of (core_of m.pager.levels.parts) (found m.ledger.rows) m.ledger.mark m.ledger.begun) (meant (core_of m.pager.levels.parts).entries [] 0 w) ≡ true) (sym c.word_of-s.ensures.word) (c.requires.selector (whole-of g c)))

method-of : (g : given.Over) (c : goal.After-put g) → (has_mark (core_of c.args.self.now.pager.levels.parts) c.word_of-m.result ≡ true) × (is_short c.word_of-m.result ≡ true)
unfolding loom_told
method-of g c =
    let m = c.args.self.now in
    marked-word (core_of m.pager.levels.parts) (found m.ledger.rows) m.ledger.mark m.ledger.begun c.word_of-m.result c.args.self.now.pager.levels.whole.parts.core c.word_of-m.ensures.some c.word_of-m.ensures.used
    (subst (λ (w : ℕ). is_marked (cache_of (core_of m.pager.levels.parts) (found m.ledger.rows) m.ledger.mark m.ledger.begun) (meant (core_of m.pager.levels.parts).entries [] 0 w) ≡ true) (sym c.word_of-m.ensures.word) (c.requires.method (whole-of g c)))

-- what a register's marked word means
means-of : (g : given.Over) (c : goal.After-put g) (r w : ℕ) → w ≡ word_in c.args.self.now.regs r → has_mark (core_of c.args.self.now.pager.levels.parts) w ≡ true → (loom_told g.H.Host c.args.self.now).regs r ≡ Ref ((core_of c.args.self.now.pager.levels.parts).entries w).name
unfolding loom_told
means-of g c r w is on = ap (meant (core_of c.args.self.now.pager.levels.parts).entries [] 0) (sym is) ∙ marked-means (core_of c.args.self.now.pager.levels.parts) w c.args.self.now.pager.levels.whole.parts.core on

pub returns-clause-put : goal.returns-clause-put
unfolding loom_told
returns-clause-put g c =
    let m = c.args.self.now in
    let x = core_of m.pager.levels.parts in
    record {
      path = whole-of g c;
      row = λ n name. subst (λ (w : ℕ). row_of_values (cache_of x (found c.put.new.self) m.ledger.mark m.ledger.begun) (meant x.entries [] 0 w) (meant x.entries [] 0 (word_in m.regs c.args.selector)) n ≡ true) c.word_of-c.ensures.word
          (subst (λ (w : ℕ). row_of_values (cache_of x (found c.put.new.self) m.ledger.mark m.ledger.begun) (meant x.entries [] 0 c.word_of-c.result) (meant x.entries [] 0 w) n ≡ true) c.word_of-s.ensures.word
          (put-row x (found m.ledger.rows) (found c.put.new.self) m.ledger.mark c.word_of-c.result c.word_of-s.result c.word_of-m.result n m.ledger.begun c.args.self.now.pager.levels.whole.parts.core (sym c.names_marked.ensures ∙ c.if-not-names_marked.false) (class-of g c).0 (selector-of g c).0 (method-of g c).0 c.put.ensures.here
          (ap (meant x.entries [] 0) c.word_of-m.ensures.word ∙ name)));
      rows = λ k n w row. ⊎_elim (λ old. inl old)
          (λ new. inr (means-of g c c.args.class c.word_of-c.result c.word_of-c.ensures.word (class-of g c).0 ∙ ap Ref new.0, means-of g c c.args.selector c.word_of-s.result c.word_of-s.ensures.word (selector-of g c).0 ∙ ap Ref new.1, means-of g c c.args.method c.word_of-m.result c.word_of-m.ensures.word (method-of g c).0 ∙ ap Ref new.2))
          (put-rows x (found m.ledger.rows) (found c.put.new.self) m.ledger.mark c.word_of-c.result c.word_of-s.result c.word_of-m.result m.ledger.begun c.args.self.now.pager.levels.whole.parts.core c.put.ensures k n w row);
      told = refl;
    }

pub returns-clause-remembered : goal.returns-clause-remembered
returns-clause-remembered g c = λ yes_. record {
  lives = sym c.names_marked.ensures ∙ c.if-not-names_marked.false;
  row = ap (λ (w : ℕ). found c.put.new.self w (word_in c.args.self.now.regs c.args.selector)) (sym c.word_of-c.ensures.word) ∙ ap (λ (w : ℕ). found c.put.new.self c.word_of-c.result w) (sym c.word_of-s.ensures.word) ∙ c.put.ensures.here ∙ ap Some c.word_of-m.ensures.word;
}

sound-of : (g : given.Over) (c : goal.After-put g) → IsSound g.H.Host (record c.args.self.now { ledger = record c.args.self.now.ledger { rows = c.put.new.self } })
unfolding loom_told IsThin
sound-of g c =
    let m = c.args.self.now in
    record {
      kept = ledger-kept m.pager.levels.parts m.regs m.pager.pinned m.ledger (record m.ledger { rows = c.put.new.self }) c.requires.sound.kept refl
          (put-cached (core_of m.pager.levels.parts) (found m.ledger.rows) (found c.put.new.self) m.ledger.mark c.word_of-c.result c.word_of-s.result c.word_of-m.result c.requires.sound.kept.cached c.put.ensures (class-of g c).0 (selector-of g c).0 (method-of g c).0);
      over = ledger-over g.H.Host m.pager.levels.disk.host.now m.pager.levels.disk.rest (core_of m.pager.levels.parts) m.ledger (record m.ledger { rows = c.put.new.self }) c.requires.sound.over refl;
      soon = c.requires.sound.soon;
      exact = c.requires.sound.exact;
      thin = c.requires.sound.thin;
    }

ready-of : (g : given.Over) (c : goal.After-put g) → IsReady (loom_told g.H.Host c.args.self.now) → IsReady (loom_told g.H.Host (record c.args.self.now { ledger = record c.args.self.now.ledger { rows = c.put.new.self } }))
unfolding loom_told
ready-of g c = λ ready.
    let m = c.args.self.now in
    let x = core_of m.pager.levels.parts in
    record {
      whole = ready.whole;
      marked = ready.marked;
      cached = λ k n w row. ⊎_elim (λ old. ready.cached k n w old)
          (λ new. subst (λ (j : ℕ). marked_of x j ≡ true) new.2 (mark-name x c.word_of-m.result c.args.self.now.pager.levels.whole.parts.core (method-of g c).0))
          (put-rows x (found m.ledger.rows) (found c.put.new.self) m.ledger.mark c.word_of-c.result c.word_of-s.result c.word_of-m.result m.ledger.begun c.args.self.now.pager.levels.whole.parts.core c.put.ensures k n w row);
    }

pub returns-clause-fit : goal.returns-clause-fit
unfolding loom_outside
returns-clause-fit g c = record {
  sound = sound-of g c;
  ready = ready-of g c;
  lender = refl;
  outside = refl;
}

pub returns-then-not-self-clause-resting : goal.returns-then-not-self-clause-resting
returns-then-not-self-clause-resting g c = rest-refl c.args.self.now c.args.self.now (remains-refl (core_of c.args.self.now.pager.levels.parts)) refl refl refl

pub returns-then-not-names_marked-clause-resting : goal.returns-then-not-names_marked-clause-resting
returns-then-not-names_marked-clause-resting g c = rest-refl c.args.self.now c.args.self.now (remains-refl (core_of c.args.self.now.pager.levels.parts)) refl refl refl

pub returns-clause-resting : goal.returns-clause-resting
unfolding fetched
returns-clause-resting g c = record { remains = remains-refl (core_of c.args.self.now.pager.levels.parts); idle = record { host = refl; rest = refl; fetches = refl } }

pub returns-clause-others : goal.returns-clause-others
unfolding loom_told
returns-clause-others g c = λ yes_.
    let m = c.args.self.now in
    let x = core_of m.pager.levels.parts in
    record {
      lost_class = (x.entries c.put.ensures.lost_class).name;
      lost_selector = (x.entries c.put.ensures.lost_selector).name;
      others = λ k n w not kept. put-others x (found m.ledger.rows) (found c.put.new.self) m.ledger.mark c.word_of-c.result c.word_of-s.result c.word_of-m.result m.ledger.begun c.args.self.now.pager.levels.whole.parts.core c.put.ensures k n w
          (λ both. not (means-of g c c.args.class c.word_of-c.result c.word_of-c.ensures.word (class-of g c).0 ∙ ap Ref both.0, means-of g c c.args.selector c.word_of-s.result c.word_of-s.ensures.word (selector-of g c).0 ∙ ap Ref both.1)) kept;
    }
