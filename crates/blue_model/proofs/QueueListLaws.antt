-- Several queues: the objects on them, what a change of one of them leaves of the others, and their places.
use Rattle.std.proofs.Common.{◌≡◌, inl, inr, zero, suc, ℕ, pos, ◌+◌, ◌≤◌, ◌<◌, ◌==◌, Bool, true, false, List, [], ◌∷◌, ◌++◌, map, length, Some, slice_get, refl, ◌∙◌, ap, subst, arith, eqb-true}
use Rattle.long_names.specs.declared.value.Value.TheVariants.{Ref}
use Rattle.long_names.specs.Heap.{Heap}
use Rattle.blue_model.specs.declared.indexes.TheConstants.{PRIORITY_INDEX}
use Rattle.blue_model.specs.Machine.{Machine}
use Rattle.blue_model.specs.Queues.{field_at, times_in, IsAmong, AreApart, IsQueue, Queue, AreQueues, lists_of, processes_on, objects_of, HasPriority, HavePriorities}
use Rattle.blue_model.proofs.NamesLaws.{same, same-no, times-none, times-cons, times-append, either}
use Rattle.blue_model.proofs.QueueLaws.{Leaves, queue_left}

-- ---- several queues

pub objects-split : (n : ℕ) (b : List Queue) (q : Queue) (a : List Queue) → times_in n (objects_of (b ++ q ∷ a)) ≡ times_in n (objects_of b) + (same q.list n + (times_in n q.names + times_in n (objects_of a)))
unfolding objects_of
objects-split n [] q a = let h = times-cons n q.list (q.names ++ objects_of a) in let t = times-append n q.names (objects_of a) in let z = times-none n in omega (arith, h, t, z)
objects-split n (x ∷ b) q a =
    let rest = objects-split n b q a in
    let h = times-cons n x.list (x.names ++ objects_of (b ++ q ∷ a)) in
    let t = times-append n x.names (objects_of (b ++ q ∷ a)) in
    let k = times-cons n x.list (x.names ++ objects_of b) in
    let l = times-append n x.names (objects_of b) in
    omega (arith, rest, h, t, k, l)

pub processes-split : (n : ℕ) (b : List Queue) (q : Queue) (a : List Queue) → times_in n (processes_on (b ++ q ∷ a)) ≡ times_in n (processes_on b) + (times_in n q.names + times_in n (processes_on a))
unfolding processes_on
processes-split n [] q a = let t = times-append n q.names (processes_on a) in let z = times-none n in omega (arith, t, z)
processes-split n (x ∷ b) q a =
    let rest = processes-split n b q a in
    let t = times-append n x.names (processes_on (b ++ q ∷ a)) in
    let l = times-append n x.names (processes_on b) in
    omega (arith, rest, t, l)

pub processes-less : (n : ℕ) (qs : List Queue) → times_in n (processes_on qs) ≤ times_in n (objects_of qs)
unfolding processes_on objects_of
processes-less n [] = omega arith
processes-less n (q ∷ qs) =
    let rest = processes-less n qs in
    let t = times-append n q.names (processes_on qs) in
    let h = times-cons n q.list (q.names ++ objects_of qs) in
    let l = times-append n q.names (objects_of qs) in
    omega (arith, rest, t, h, l)

first_objects : (changed : List ℕ) (q : Queue) (qs : List Queue) → AreApart (objects_of (q ∷ qs)) changed → AreApart (q.list ∷ q.names) changed × AreApart (objects_of qs) changed
unfolding objects_of
first_objects changed q qs apart = (λ n among. apart n (let h = times-cons n q.list (q.names ++ objects_of qs) in let t = times-append n q.names (objects_of qs) in let k = times-cons n q.list q.names in omega (arith, among, h, t, k)), λ n among. apart n (let h = times-cons n q.list (q.names ++ objects_of qs) in let t = times-append n q.names (objects_of qs) in omega (arith, among, h, t)))

pub queues_left : {m s : Machine} {changed : List ℕ} (qs : List Queue) → Leaves changed m s → AreApart (objects_of qs) changed → AreQueues m.heap qs → AreQueues s.heap qs
queues_left [] left apart are = tt
queues_left {changed = changed} (q ∷ qs) left apart are = let both = first_objects changed q qs apart in (queue_left q.list q.names left both.0 are.0, queues_left qs left both.1 are.1)

-- one of them is another queue
pub queues_turned : {m s : Machine} {changed : List ℕ} (b : List Queue) (q r : Queue) (a : List Queue) → Leaves changed m s → AreApart (objects_of b) changed → AreApart (objects_of a) changed → IsQueue s.heap r.list r.names → AreQueues m.heap (b ++ q ∷ a) → AreQueues s.heap (b ++ r ∷ a)
queues_turned [] q r a left before behind is are = (is, queues_left a left behind are.1)
queues_turned {changed = changed} (x ∷ b) q r a left before behind is are = let both = first_objects changed x b before in (queue_left x.list x.names left both.0 are.0, queues_turned b q r a left both.1 behind is are.1)

pub queue_at : {h : Heap} (b : List Queue) (q : Queue) (a : List Queue) → AreQueues h (b ++ q ∷ a) → IsQueue h q.list q.names
queue_at [] q a are = are.0
queue_at (x ∷ b) q a are = queue_at b q a are.1

pub have_kept : (h k : Heap) (n : ℕ) (qs : List Queue) → ((p : ℕ) → IsAmong p (processes_on qs) → field_at k p PRIORITY_INDEX ≡ field_at h p PRIORITY_INDEX) → HavePriorities h n qs → HavePriorities k n qs
unfolding processes_on
have_kept h k n [] kept have = tt
have_kept h k n (q ∷ qs) kept have = (λ p among. kept p (let t = times-append p q.names (processes_on qs) in omega (arith, among, t)) ∙ have.0 p among, have_kept h k (suc n) qs (λ p among. kept p (let t = times-append p q.names (processes_on qs) in omega (arith, among, t))) have.1)

pub have_turned : (h k : Heap) (n : ℕ) (b : List Queue) (q r : Queue) (a : List Queue) → ((p : ℕ) → field_at k p PRIORITY_INDEX ≡ field_at h p PRIORITY_INDEX) → ((p : ℕ) → IsAmong p r.names → HasPriority k (pos (n + length b)) p) → HavePriorities h n (b ++ q ∷ a) → HavePriorities k n (b ++ r ∷ a)
have_turned h k n [] q r a kept own have = (λ p among. let e : n + 0 ≡ n = omega arith in subst (λ x. HasPriority k (pos x) p) e (own p among), have_kept h k (suc n) a (λ p among. kept p) have.1)
have_turned h k n (x ∷ b) q r a kept own have = (λ p among. kept p ∙ have.0 p among, have_turned h k (suc n) b q r a kept (λ p among. let e : n + suc (length b) ≡ suc n + length b = omega arith in subst (λ x. HasPriority k (pos x) p) e (own p among)) have.1)

pub have_at : (h : Heap) (n : ℕ) (b : List Queue) (q : Queue) (a : List Queue) → HavePriorities h n (b ++ q ∷ a) → (p : ℕ) → IsAmong p q.names → HasPriority h (pos (n + length b)) p
have_at h n [] q a have p among = let e : n ≡ n + 0 = omega arith in subst (λ x. HasPriority h (pos x) p) e (have.0 p among)
have_at h n (x ∷ b) q a have p among = let e : suc n + length b ≡ n + suc (length b) = omega arith in subst (λ x. HasPriority h (pos x) p) e (have_at h (suc n) b q a have.1 p among)

-- those on the lists before one have a lower priority
pub have_below : (h : Heap) (n : ℕ) (b c : List Queue) → HavePriorities h n (b ++ c) → (p : ℕ) → IsAmong p (processes_on b) → (k : ℕ) × (k < n + length b) × HasPriority h (pos k) p
unfolding processes_on
have_below h n [] c have p among = let z = times-none p in absurd (omega (arith, among, z))
have_below h n (x ∷ b) c have p among =
    let t = times-append p x.names (processes_on b) in
    elim (either (times_in p x.names) (times_in p (processes_on b)) (omega (arith, among, t))) [
      | inl first ↦ (n, omega arith, have.0 p first)
      | inr later ↦ let rest = have_below h (suc n) b c have.1 p later in (rest.0, let lt = rest.1 in omega (arith, lt), rest.2)
    ]

-- ---- places

pub length-map : (qs : List Queue) → length (map (λ (q : Queue). Ref q.list) qs) ≡ length qs
length-map [] = refl
length-map (q ∷ qs) = ap suc (length-map qs)

pub get-at : (b : List Queue) (q : Queue) (a : List Queue) → slice_get (map (λ (q : Queue). Ref q.list) (b ++ q ∷ a)) (length b) ≡ Some (Ref q.list)
get-at [] q a = refl
get-at (x ∷ b) q a = get-at b q a

pub map-turned : (b : List Queue) (q r : Queue) (a : List Queue) → r.list ≡ q.list → map (λ (q : Queue). Ref q.list) (b ++ r ∷ a) ≡ map (λ (q : Queue). Ref q.list) (b ++ q ∷ a)
map-turned [] q r a e = ap (λ x. Ref x ∷ map (λ (q : Queue). Ref q.list) a) e
map-turned (x ∷ b) q r a e = ap (λ xs. Ref x.list ∷ xs) (map-turned b q r a e)

pub lists-turned : (b : List Queue) (q r : Queue) (a : List Queue) → r.list ≡ q.list → lists_of (b ++ r ∷ a) ≡ lists_of (b ++ q ∷ a)
lists-turned [] q r a e = ap (λ x. x ∷ lists_of a) e
lists-turned (x ∷ b) q r a e = ap (λ xs. x.list ∷ xs) (lists-turned b q r a e)

-- the queues before and behind one of them
pub record Split (qs : List Queue) : Type 0 where
  pub before : List Queue
  pub here : Queue
  pub behind : List Queue
  pub is : qs ≡ before ++ here ∷ behind

pub split_at : (i : ℕ) (qs : List Queue) → i < length qs → (p : Split qs) × (length p.before ≡ i)
split_at i [] lt = absurd (omega (arith, lt))
split_at zero (q ∷ qs) lt = (record { before = []; here = q; behind = qs; is = refl }, refl)
split_at (suc i) (q ∷ qs) lt = let rest = split_at i qs (omega (arith, lt)) in (record { before = q ∷ rest.0.before; here = rest.0.here; behind = rest.0.behind; is = ap (λ x. q ∷ x) rest.0.is }, ap suc rest.1)

pub split_by : (n : ℕ) (qs : List Queue) → IsAmong n (lists_of qs) → (p : Split qs) × (p.here.list ≡ n)
split_by n [] among = let z = times-none n in absurd (omega (arith, among, z))
split_by n (q ∷ qs) among = by (q.list == n) refl (split_by n qs)
  where
    by : (b : Bool) → (q.list == n) ≡ b → (IsAmong n (lists_of qs) → (p : Split qs) × (p.here.list ≡ n)) → (p : Split (q ∷ qs)) × (p.here.list ≡ n)
    by true e later = (record { before = []; here = q; behind = qs; is = refl }, eqb-true q.list n e)
    by false e later =
        let none = same-no q.list n e in
        let h = times-cons n q.list (lists_of qs) in
        let rest = later (omega (arith, among, none, h)) in
        (record { before = q ∷ rest.0.before; here = rest.0.here; behind = rest.0.behind; is = ap (λ x. q ∷ x) rest.0.is }, rest.1)

-- the last of so many
pub split_last : (n : ℕ) (qs : List Queue) → length qs ≡ suc n → (b : List Queue) × (q : Queue) × (qs ≡ b ++ q ∷ []) × (length b ≡ n)
split_last n [] e = absurd (omega (arith, e))
split_last n (q ∷ []) e = ([], q, refl, omega (arith, e))
split_last n (q ∷ x ∷ qs) e = let rest = split_last (length qs) (x ∷ qs) refl in (q ∷ rest.0, rest.1, ap (λ y. q ∷ y) rest.2, let l = rest.3 in omega (arith, l, e))
