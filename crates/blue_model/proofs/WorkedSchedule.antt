-- The worked heap has its schedule, and nobody above its current process waits.
use Rattle.std.proofs.Common.{inl, inr, ℕ, ℤ, pos, ◌≤ℤ◌, List, [], ◌∷◌, refl, subst, arith}
use Rattle.long_names.specs.Names.{NIL, SCHEDULER_ASSOCIATION}
use Rattle.blue_model.specs.Machine.{at_rest}
use Rattle.blue_model.specs.Queues.{field_at, times_in, IsAmong, IsNotAmong, AllDifferent, IsQueue, processes_on, objects_of, HasPriority, HasSchedule, NobodyAbove}
use Rattle.blue_model.specs.Base.{SCHEDULER}
use Rattle.blue_model.specs.Worked.{worked_heap, worked_schedule, LISTS, LOW_LIST, MIDDLE_LIST, HIGH_LIST, GATE, RUNNER, LOW_FIRST, LOW_SECOND, MIDDLE, HIGH}
use Rattle.blue_model.proofs.NamesLaws.{same, same-is, times-none, times-cons, different_more, either}
use Rattle.blue_model.proofs.ScheduleLaws.{one_number}

-- no name stands again behind its place
NoneAgain : List ℕ → Type 0
NoneAgain [] = Unit {0}
NoneAgain (n ∷ ns) = IsNotAmong n ns × NoneAgain ns

different_by : (ns : List ℕ) → NoneAgain ns → AllDifferent ns
unfolding NoneAgain
different_by [] none n = let z = times-none n in omega (arith, z)
different_by (k ∷ ks) none n = different_more k ks (different_by ks none.1) none.0 n

Each : (ℕ → Type 0) → List ℕ → Type 0
Each P [] = Unit {0}
Each P (n ∷ ns) = P n × Each P ns

of_each : (P : ℕ → Type 0) (ns : List ℕ) → Each P ns → (n : ℕ) → IsAmong n ns → P n
unfolding Each
of_each P [] each n among = let z = times-none n in absurd (omega (arith, z, among))
of_each P (k ∷ ks) each n among = let h = times-cons n k ks in elim (either (same k n) (times_in n ks) (omega (arith, h, among))) [
  | inl first ↦ subst P (same-is k n first) each.0
  | inr later ↦ of_each P ks each.1 n later
]

low_queue : IsQueue worked_heap LOW_LIST (LOW_FIRST ∷ LOW_SECOND ∷ [])
unfolding field_at times_in NoneAgain
low_queue = record { first = refl; last = refl; links = (refl, tt); once = different_by (LOW_FIRST ∷ LOW_SECOND ∷ []) (refl, (refl, tt)); others = (refl, refl) }

middle_queue : IsQueue worked_heap MIDDLE_LIST (MIDDLE ∷ [])
unfolding field_at times_in NoneAgain
middle_queue = record { first = refl; last = refl; links = tt; once = different_by (MIDDLE ∷ []) (refl, tt); others = (refl, refl) }

high_queue : IsQueue worked_heap HIGH_LIST []
unfolding field_at times_in NoneAgain
high_queue = record { first = refl; last = tt; links = tt; once = different_by [] tt; others = (refl, refl) }

gate_queue : IsQueue worked_heap GATE (HIGH ∷ [])
unfolding field_at times_in NoneAgain
gate_queue = record { first = refl; last = refl; links = tt; once = different_by (HIGH ∷ []) (refl, tt); others = (refl, refl) }

pub worked_has : HasSchedule (at_rest worked_heap) worked_schedule
unfolding field_at times_in NoneAgain objects_of Each
worked_has = record {
  scheduler = refl;
  array = refl;
  lists = refl;
  current = refl;
  queues = (low_queue, (middle_queue, (high_queue, tt)));
  semaphores = (gate_queue, tt);
  priorities = (of_each (HasPriority worked_heap (pos 1)) (LOW_FIRST ∷ LOW_SECOND ∷ []) (refl, (refl, tt)), (of_each (HasPriority worked_heap (pos 2)) (MIDDLE ∷ []) (refl, tt), (of_each (HasPriority worked_heap (pos 3)) [] tt, tt)));
  different = different_by (NIL ∷ SCHEDULER_ASSOCIATION ∷ RUNNER ∷ SCHEDULER ∷ LISTS ∷ LOW_LIST ∷ LOW_FIRST ∷ LOW_SECOND ∷ MIDDLE_LIST ∷ MIDDLE ∷ HIGH_LIST ∷ GATE ∷ HIGH ∷ []) (refl, (refl, (refl, (refl, (refl, (refl, (refl, (refl, (refl, (refl, (refl, (refl, (refl, tt)))))))))))));
}

pub worked_above : NobodyAbove worked_heap worked_schedule
unfolding field_at processes_on Each
worked_above = record {
  own = pos 2;
  priority = refl;
  nobody = λ p z among e. of_each (λ p. (z : ℤ) → HasPriority worked_heap z p → z ≤ℤ pos 2) (LOW_FIRST ∷ LOW_SECOND ∷ MIDDLE ∷ []) (below LOW_FIRST 1 (record { le = tt }) refl, (below LOW_SECOND 1 (record { le = tt }) refl, (below MIDDLE 2 (record { le = tt }) refl, tt))) p among z e;
}
  where
    below : (p k : ℕ) → pos k ≤ℤ pos 2 → HasPriority worked_heap (pos k) p → (z : ℤ) → HasPriority worked_heap z p → z ≤ℤ pos 2
    below p k le e z f = subst (λ x. x ≤ℤ pos 2) (one_number worked_heap p (pos k) z e f) le
