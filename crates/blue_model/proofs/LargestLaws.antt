-- The largest object that a machine made: what logs say of it, and that no object of a whole run is larger than that of its parked machine.
use Rattle.std.specs.Prelude.{max}
use Rattle.std.proofs.Common.{◌≡◌, ◌⊎◌, inl, inr, ℕ, zero, suc, ◌<◌, ◌≤◌, ◌==◌, nat_lt, nat_le, Bool, true, false, cond, List, [], ◌∷◌, ◌++◌, refl, sym, ◌∙◌, ap, subst, arith}
use Rattle.std.proofs.Math.Nat.{le-max_left, le-max_right}
use borrow.Author.Tests.{ltb-true, ltb-false}
use Rattle.blue_model.specs.declared.event.Line.{Line}
use Rattle.blue_model.specs.declared.step.Step.{Step}
use Rattle.blue_model.specs.declared.step.Step.TheVariants.{Next, Quit, Keep}
use Rattle.long_names.specs.Heap.{Heap}
use Rattle.blue_model.specs.Machine.{Machine, LogRow, Outcome, Go, Halt, Spent, Rule, log_of, at_rest}
use Rattle.blue_model.specs.State.{State, begin}
use Rattle.blue_model.specs.Cycle.{cycle, Run, Ran, Stopped, run_of, one_more, run, park_and_draw, Parked, Stuck, ByCause, BySpentNames, parked, ended, run_from, ending}
use Rattle.blue_model.specs.Logs.{made_in, largest_after, AreWithin, rows_after, rows_from, rows_of_bytecode}
use Rattle.blue_model.proofs.MakingSteps.{Makes, MakesAtMost, MakesNone}
use Rattle.blue_model.proofs.MakingLaws.{none-begin}
use Rattle.blue_model.proofs.MakingTurns.{few-cycle, none-park_and_draw}
use Rattle.blue_model.proofs.LiveLaws.{none_made}

-- ---- logs

pub largest_grows : (words : ℕ) (rows : List LogRow) → words ≤ largest_after words rows
largest_grows words [] = omega arith
largest_grows words (row ∷ rows) = go row.makes (largest_grows (max words row.own) rows) (largest_grows words rows)
  where
    go : (b : Bool) → max words row.own ≤ largest_after (max words row.own) rows → words ≤ largest_after words rows → words ≤ cond b (largest_after (max words row.own) rows) (largest_after words rows)
    go true rest others = let first = le-max_left words row.own in omega arith
    go false rest others = others

pub within_more : (few many : ℕ) (rows : List LogRow) → few ≤ many → AreWithin few rows → AreWithin many rows
within_more few many [] le h = tt
within_more few many (row ∷ rows) le h = ((λ makes. let own = h.0 makes in omega arith), within_more few many rows le h.1)

within_largest : (words : ℕ) (rows : List LogRow) → AreWithin (largest_after words rows) rows
within_largest words [] = tt
within_largest words (row ∷ rows) = go row.makes refl (within_largest (max words row.own) rows) (within_largest words rows)
  where
    go : (b : Bool) → row.makes ≡ b → AreWithin (largest_after (max words row.own) rows) rows → AreWithin (largest_after words rows) rows → (row.makes ≡ true → row.own ≤ cond b (largest_after (max words row.own) rows) (largest_after words rows)) × AreWithin (cond b (largest_after (max words row.own) rows) (largest_after words rows)) rows
    go true e with_it without = ((λ makes. let first = le-max_right words row.own in let rest = largest_grows (max words row.own) rows in omega arith), with_it)
    go false e with_it without = ((λ makes. let no : true ≡ false = sym makes ∙ e in absurd (cc)), without)

within_none : (words : ℕ) (rows : List LogRow) → made_in rows ≡ [] → AreWithin words rows
within_none words [] none = tt
within_none words (row ∷ rows) none = go row.makes refl none (λ rest. within_none words rows rest)
  where
    go : (b : Bool) → row.makes ≡ b → cond b (row.object ∷ made_in rows) (made_in rows) ≡ [] → (made_in rows ≡ [] → AreWithin words rows) → (row.makes ≡ true → row.own ≤ words) × AreWithin words rows
    go true e none others = let no : ◌≡◌ {A = List ℕ} (row.object ∷ made_in rows) [] = none in absurd (cc)
    go false e none others = ((λ makes. let no : true ≡ false = sym makes ∙ e in absurd (cc)), others none)

within_both : (words : ℕ) (xs ys : List LogRow) → AreWithin words xs → AreWithin words ys → AreWithin words (xs ++ ys)
within_both words [] ys h i = i
within_both words (row ∷ rows) ys h i = (h.0, within_both words rows ys h.1 i)

-- ---- rules

pub largest_made : {A : Type 0} (n : ℕ) (p : Rule A) (m s : Machine) (a : A) (log : List LogRow) → MakesAtMost n p → p m ≡ Go a s log → s.largest ≡ largest_after m.largest log
largest_made {A} n p m s a log f e = (subst (Makes (λ (x : A) k. k ≤ n) n m) e (f.makes m)).4

same_after : (words : ℕ) (rows : List LogRow) → made_in rows ≡ [] → largest_after words rows ≡ words
same_after words [] none = refl
same_after words (row ∷ rows) none = go row.makes none (λ rest. same_after words rows rest)
  where
    go : (b : Bool) → cond b (row.object ∷ made_in rows) (made_in rows) ≡ [] → (made_in rows ≡ [] → largest_after words rows ≡ words) → cond b (largest_after (max words row.own) rows) (largest_after words rows) ≡ words
    go true none others = let no : ◌≡◌ {A = List ℕ} (row.object ∷ made_in rows) [] = none in absurd (cc)
    go false none others = others none

pub largest_stays : {A : Type 0} (p : Rule A) (m s : Machine) (a : A) (log : List LogRow) → MakesNone p → p m ≡ Go a s log → s.largest ≡ m.largest
largest_stays {A} p m s a log f e = (subst (Makes (λ (x : A) k. k ≤ 0) 0 m) e (f.makes m)).4 ∙ same_after m.largest log (ap (λ (o : Outcome A). made_in (log_of o)) (sym e) ∙ none_made p m f)

-- ---- runs

-- a cycle that went through, as a run
went : (events : List Line) (m : Machine) (end : Step) (n : Machine) → run_of m (cycle events m) ≡ Ran end n → (log : List LogRow) × (cycle events m ≡ Go end n log)
went events m end n e = go (cycle events m) refl e
  where
    go : (o : Outcome Step) → cycle events m ≡ o → run_of m o ≡ Ran end n → (log : List LogRow) × (cycle events m ≡ Go end n log)
    go (Go last next log) is e = let same : last ≡ end = cc in let left : next ≡ n = cc in (log, is ∙ ap (λ x. Go x next log) same ∙ ap (λ (x : Machine). Go end x log) left)
    go (Halt c log) is e = let no : Stopped m (ByCause c) log ≡ Ran end n = e in absurd (cc)
    go (Spent log) is e = let no : Stopped m BySpentNames log ≡ Ran end n = e in absurd (cc)

-- no object that the cycle after k makes takes more words than the machine knows
abbrev IsWithin : List Line → ℕ → Machine → Machine → ℕ → Type 0
IsWithin events k m last steps = (n : Machine) → k < steps → run events k m ≡ Ran Next n → AreWithin last.largest (log_of (cycle events n))

either : (k steps : ℕ) → k < suc steps → (k < steps) ⊎ (k ≡ steps)
either k steps low = by (nat_lt k steps) refl
  where
    by : (b : Bool) → nat_lt k steps ≡ b → (k < steps) ⊎ (k ≡ steps)
    by true e = inl (ltb-true k steps e)
    by false e = let above = ltb-false k steps e in inr (omega arith)

-- one cycle more
within_next : (events : List Line) (k steps : ℕ) (m s last : Machine) (end : Step) (log : List LogRow) → run events steps m ≡ Ran Next s → cycle events s ≡ Go end last log → IsWithin events k m s steps → IsWithin events k m last (suc steps)
within_next events k steps m s last end log is e before n low here = go (either k steps low)
  where
    grown : last.largest ≡ largest_after s.largest log
    grown = largest_made 3 (cycle events) s last end log (few-cycle events) e

    go : (k < steps) ⊎ (k ≡ steps) → AreWithin last.largest (log_of (cycle events n))
    go (inl lower) = let rises = largest_grows s.largest log in let all = grown in within_more s.largest last.largest (log_of (cycle events n)) (omega arith) (before n lower here)
    go (inr at) =
        let both : Ran Next s ≡ Ran Next n = sym is ∙ ap (λ i. run events i m) (sym at) ∙ here in
        let same : s ≡ n = cc in
        subst (λ (x : Machine). AreWithin last.largest (log_of (cycle events x))) same
        (subst (λ (o : Outcome Step). AreWithin last.largest (log_of o)) (sym e) (subst (λ words. AreWithin words log) (sym grown) (within_largest s.largest log)))

-- a run that had ended
within_ended : (events : List Line) (k steps : ℕ) (m s : Machine) (end : Step) → (end ≡ Next → ⊥) → run events steps m ≡ Ran end s → IsWithin events k m s steps → IsWithin events k m s (suc steps)
within_ended events k steps m s end apart is before n low here = go (either k steps low)
  where
    go : (k < steps) ⊎ (k ≡ steps) → AreWithin s.largest (log_of (cycle events n))
    go (inl lower) = before n lower here
    go (inr at) = let both : Ran end s ≡ Ran Next n = sym is ∙ ap (λ i. run events i m) (sym at) ∙ here in let same : end ≡ Next = cc in absurd (apart same)

-- each cycle of a run made no larger object than the run
in_run : (events : List Line) (steps k : ℕ) (m last : Machine) (end : Step) → run events steps m ≡ Ran end last → IsWithin events k m last steps
unfolding run
in_run events zero k m last end whole = λ n low here. absurd (omega arith)
in_run events (suc steps) k m last end whole = go (run events steps m) refl whole (λ s step is. in_run events steps k m s step is)
  where
    go : (r : Run) → run events steps m ≡ r → one_more events r ≡ Ran end last → ((s : Machine) (step : Step) → run events steps m ≡ Ran step s → IsWithin events k m s steps) → IsWithin events k m last (suc steps)
    go (Ran Next s) is e before = let it = went events s end last e in within_next events k steps m s last end it.0 is it.1 (before s Next is)
    go (Ran Quit s) is e before = let left : s ≡ last = cc in subst (λ (x : Machine). IsWithin events k m x (suc steps)) left (within_ended events k steps m s Quit (λ same. absurd (cc)) is (before s Quit is))
    go (Ran Keep s) is e before = let left : s ≡ last = cc in subst (λ (x : Machine). IsWithin events k m x (suc steps)) left (within_ended events k steps m s Keep (λ same. absurd (cc)) is (before s Keep is))
    go (Stopped s why log) is e before = let no : Stopped s why log ≡ Ran end last = e in absurd (cc)

-- ---- whole runs

none_drawn : (words : ℕ) (m : Machine) → AreWithin words (log_of (park_and_draw m))
none_drawn words m = within_none words (log_of (park_and_draw m)) (none_made park_and_draw m none-park_and_draw)

rows_within : (events : List Line) (steps k : ℕ) (m last : Machine) (end : Step) → run events steps m ≡ Ran end last → AreWithin last.largest (rows_after events steps k (run events k m))
rows_within events steps k m last end whole = go (run events k m) refl
  where
    test : (n : Machine) → run events k m ≡ Ran Next n → (b c : Bool) → nat_lt k steps ≡ b → AreWithin last.largest (cond b (log_of (cycle events n)) (cond c (log_of (park_and_draw n)) []))
    test n is true c low = in_run events steps k m last end whole n (ltb-true k steps low) is
    test n is false true low = none_drawn last.largest n
    test n is false false low = tt

    drawn : (n : Machine) (b c : Bool) → AreWithin last.largest (cond b (cond c (log_of (park_and_draw n)) []) [])
    drawn n true true = none_drawn last.largest n
    drawn n true false = tt
    drawn n false c = tt

    go : (r : Run) → run events k m ≡ r → AreWithin last.largest (rows_after events steps k r)
    go (Ran Next n) is = test n is (nat_lt k steps) (k == steps) refl
    go (Ran Quit n) is = drawn n (nat_le k steps) (k == n.cpu.ran)
    go (Ran Keep n) is = drawn n (nat_le k steps) (k == n.cpu.ran)
    go (Stopped n why log) is = tt

-- what was parked is of a run that went through, and parking made nothing
was_parked : (end last : Step) (m p : Machine) (picture : List ℕ) (o : Outcome (List ℕ)) → park_and_draw m ≡ o → parked last m o ≡ Parked end p picture → p.largest ≡ m.largest
was_parked end last m p picture (Go bytes next log) is e = let same : next ≡ p = cc in ap (λ (x : Machine). x.largest) (sym same) ∙ largest_stays park_and_draw m next bytes log none-park_and_draw is
was_parked end last m p picture (Halt c log) is e = let no : Stuck (ByCause c) m.cpu.ran m.transcript ≡ Parked end p picture = e in absurd (cc)
was_parked end last m p picture (Spent log) is e = let no : Stuck BySpentNames m.cpu.ran m.transcript ≡ Parked end p picture = e in absurd (cc)

of_run : (events : List Line) (steps k : ℕ) (m p : Machine) (end : Step) (picture : List ℕ) (r : Run) → run events steps m ≡ r → ended r ≡ Parked end p picture → AreWithin p.largest (rows_after events steps k (run events k m))
of_run events steps k m p end picture (Ran last n) is e = subst (λ words. AreWithin words (rows_after events steps k (run events k m))) (sym (was_parked end last n p picture (park_and_draw n) refl e)) (rows_within events steps k m n last is)
of_run events steps k m p end picture (Stopped n why log) is e = let no : Stuck why n.cpu.ran n.transcript ≡ Parked end p picture = e in absurd (cc)

of_start : (events : List Line) (steps k : ℕ) (p : Machine) (end : Step) (picture : List ℕ) (o : Outcome (Unit {0})) → made_in (log_of o) ≡ [] → run_from events steps o ≡ Parked end p picture → AreWithin p.largest (rows_from events steps k o)
of_start events steps k p end picture (Go a m log) none e = within_both p.largest (cond (k == 0) log []) (rows_after events steps k (run events k m)) (first (k == 0)) (of_run events steps k m p end picture (run events steps m) refl e)
  where
    first : (b : Bool) → AreWithin p.largest (cond b log [])
    first true = within_none p.largest log none
    first false = tt
of_start events steps k p end picture (Halt c log) none e = let no : Stuck (ByCause c) 0 [] ≡ Parked end p picture = e in absurd (cc)
of_start events steps k p end picture (Spent log) none e = let no : Stuck BySpentNames 0 [] ≡ Parked end p picture = e in absurd (cc)

pub whole_within : (events : List Line) (steps k : ℕ) (state : State) (h : Heap) (end : Step) (p : Machine) (picture : List ℕ) → ending events steps state h ≡ Parked end p picture → AreWithin p.largest (rows_of_bytecode events steps state h k)
unfolding ending rows_of_bytecode
whole_within events steps k state h end p picture e = of_start events steps k p end picture (begin state (at_rest h)) (none_made (begin state) (at_rest h) (none-begin state)) e
