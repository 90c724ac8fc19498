-- The law of thinning, for each combinator.
use Rattle.blue_model.specs.BitBlt.{put_words}
use Rattle.std.proofs.Common.{◌≡◌, ℕ, pos, ◌+◌, ◌≤◌, zero, suc, Bool, true, false, cond, nat_lt, eqb, ◌&&◌, List, [], ◌∷◌, ◌++◌, Option, Some, None, is_some, refl, sym, ◌∙◌, ap, ap₂, subst, subst₂, arith}
use Rattle.std.specs.Prelude.{max}
use Rattle.std.specs.List.{slice_get}
use Rattle.std.specs.Option.{option_map_or, option_and_then}
use Rattle.std.proofs.lemmas.Grind.{common_steps}
use Rattle.long_names.specs.declared.value.Value.{Value}
use Rattle.long_names.specs.declared.value.Value.TheVariants.{Int, Ref}
use Rattle.long_names.specs.declared.object.Object.{Object}
use Rattle.long_names.specs.declared.object.Body.{Body}
use Rattle.long_names.specs.Names.{is_known, NIL, SMALL_INTEGER}
use Rattle.long_names.specs.declared.limits.TheConstants.{LAST_NAME, MACHINE_REGISTERS}
use Rattle.long_names.specs.Objects.{Making, holds, fields_of, field_of, words_of, bytes_of, with_field, with_words, with_bytes, text_of}
use Rattle.long_names.specs.Heap.{Heap, Has, IsBounded, put_object, add_object}
use Rattle.long_names.specs.State.{set_register, set_slot, object_at, name_at, class_at, part_at}
use Rattle.long_names.specs.Access.{Make, with_body, with_swapped}
use Rattle.long_names.specs.Thin.{IsThinner, IsWhole}
use Rattle.long_names.proofs.ThinLemmas.{IsThinner-add_object, IsBounded-add_object, IsThinner-swap_objects, IsBounded-swap_objects, IsWhole-swap_objects, swap_at, swapped_apart, IsWhole-regs, IsWhole-set, IsWhole-slots, IsWhole-pin, IsWhole-with_field, IsWhole-same_fields, fields-with_words, fields-with_bytes, has_put, holds-class, both}
use Rattle.long_names.proofs.AccessLaws.{another, IsThinner-with_body, IsBounded-with_body, IsWhole-with_body, whole-heap}
use Rattle.blue_model.specs.declared.cause.Cause.{Cause}
use Rattle.blue_model.specs.declared.cpu.Cpu.{Cpu}
use Rattle.blue_model.specs.Machine.{Machine, LogRow, logged, making_row, Outcome, Go, Halt, Spent, Rule, after, then_do, ◌>>=◌, done, halt, given, pick, is_there, register, placed, put_register, clear, numbers, set_numbers, looked, look, part, known, classed, class_of, stored, store, changed, store_word, store_byte, is_unpinned, is_free, swapped, swap, object_made, added, made, make, unpinned, unpin_all, with_pin, pinned, pin, spoken, say, times, each}
use Rattle.blue_model.specs.declared.answer.Answer.{Answer}
use Rattle.blue_model.specs.Trials.{failed, where_some, where_true, ◌>>?◌, peek}
use Rattle.blue_model.specs.Law.{IsThinned, Agree, RespectsThinning}
use Rattle.blue_model.specs.Alike.{Lost, IsAlike, IsKept, IsKeptMaybe, IsHeld, IsPlain, IsWithin, Agrees, Lawful}
use Rattle.blue_model.proofs.AlikeLaws.{not_lost, kept_int, kept_ref, kept_known, name_kept, object_alike, there_alike, there_has, logged-same, row_alike, rows_alike}
use Rattle.blue_model.proofs.WithinLaws.{within_field, within_literal, within_last_literal, within_home_of}

-- ---- in a row

Agrees-after : {A : Type 0} (w : Lost) (K : A → Type 0) (rows lines : List LogRow) (a b : Outcome A) → rows ≡ lines → Agrees w K a b → Agrees w K (after rows a) (after lines b)
Agrees-after w K rows lines (Go x m log) (Go y s los) e h = (h.0, ap₂ (λ p q. p ++ q) e h.1, h.2, h.3)
Agrees-after w K rows lines (Halt c log) (Halt d los) e h = (h.0, ap₂ (λ p q. p ++ q) e h.1)
Agrees-after w K rows lines (Spent log) (Spent los) e h = ap₂ (λ p q. p ++ q) e h
Agrees-after w K rows lines _ _ e h = absurd h

Agrees-then : {A B : Type 0} (w : Lost) (K : A → Type 0) (Q : B → Type 0) (a b : Outcome A) (k : A → Rule B) → Agrees w K a b → ((x : A) → K x → Lawful w Q (k x)) → Agrees w Q (then_do a k) (then_do b k)
Agrees-then w K Q (Go x m log) (Go y s los) k h f = Agrees-after w Q log los (k x m) (k y s) h.1 (subst (λ z. Agrees w Q (k x m) (k z s)) h.0 ((f x h.2).agrees m s h.3))
Agrees-then w K Q (Halt c log) (Halt d los) k h f = h
Agrees-then w K Q (Spent log) (Spent los) k h f = h
Agrees-then w K Q _ _ k h f = absurd h

pub law_then : {w : Lost} {A B : Type 0} {K : A → Type 0} {Q : B → Type 0} {p : Rule A} (k : A → Rule B) → Lawful w K p → ((a : A) → K a → Lawful w Q (k a)) → Lawful w Q (p >>= k)
unfolding ◌>>=◌
law_then {w} {A} {B} {K} {Q} {p} k first f = record { agrees = λ m s h. Agrees-then w K Q (p m) (p s) k (first.agrees m s h) f }

pub law_pick : {w : Lost} {A : Type 0} {K : A → Type 0} (b : Bool) (p q : Rule A) → Lawful w K p → Lawful w K q → Lawful w K (pick b p q)
unfolding pick
law_pick true p q f g = f
law_pick false p q f g = g

pub law_done : {w : Lost} {A : Type 0} {K : A → Type 0} (a : A) → K a → Lawful w K (done a)
unfolding done
law_done {w} {A} {K} a k = record { agrees = λ m s h. (refl, refl, k, h) }

pub law_halt : {w : Lost} {A : Type 0} {K : A → Type 0} (c : Cause) → Lawful w K (halt c)
unfolding halt
law_halt {w} {A} {K} c = record { agrees = λ m s h. (refl, refl) }

pub law_given : {w : Lost} {A : Type 0} (K : A → Type 0) (c : Cause) (o : Option A) → ((a : A) → o ≡ Some a → K a) → Lawful w K (given c o)
unfolding given
law_given K c None f = law_halt c
law_given K c (Some a) f = law_done a (f a refl)

pub law_given_plain : {w : Lost} {A : Type 0} (c : Cause) (o : Option A) → Lawful w IsPlain (given c o)
law_given_plain c o = law_given IsPlain c o (λ a e. record {})

pub law_times : {w : Lost} (n : ℕ) (p : Rule (Unit {0})) → Lawful w IsPlain p → Lawful w IsPlain (times n p)
unfolding times
law_times zero p f = law_done tt (record {})
law_times (suc n) p f = law_then (λ _. p) (law_times n p f) (λ a k. f)

-- ---- registers and numbers

pub law_register : {w : Lost} (r : ℕ) → Lawful w (IsKept w) (register r)
unfolding register
law_register {w} r = record {
  agrees = λ m s h. (
    sym (ap (λ g. g r) h.thinned.regs),
    refl,
    record { kept = λ n e. not_lost w m s h n (h.thinned.thinning.whole.rooted r n (ap (λ g. g r) h.thinned.regs ∙ e)) },
    h,
  );
}

pub law_numbers : {w : Lost} → Lawful w IsPlain numbers
unfolding numbers
law_numbers {w} = record { agrees = λ m s h. (sym h.thinned.cpu, refl, record {}, h) }

pub law_clear : {w : Lost} (among : ℕ → Bool) → Lawful w IsPlain (clear among)
unfolding clear
law_clear {w} among = record {
  agrees = λ m s h. (
    refl,
    refl,
    record {},
    record {
      thinned = record {
        thinning = record { thinner = h.thinned.thinning.thinner; whole = cleared s h.thinned.thinning.whole };
        bounded = h.thinned.bounded;
        regs = let f : (ℕ → Value) → ℕ → Value = λ regs r. cond (among r) (Int (pos 0)) (regs r) in ap f h.thinned.regs;
        slots = h.thinned.slots;
        transcript = h.thinned.transcript;
        largest = h.thinned.largest;
        cpu = h.thinned.cpu;
      };
      same = h.same;
      gone = h.gone;
      fresh = h.fresh;
    },
  );
}
  where
    held : (s : Machine) → IsWhole s.heap s.regs s.slots → (r n : ℕ) (b : Bool) → cond b (Int (pos 0)) (s.regs r) ≡ Ref n → Has s.heap n
    held s whole r n true e = cc
    held s whole r n false e = whole.rooted r n e

    cleared : (s : Machine) → IsWhole s.heap s.regs s.slots → IsWhole s.heap (λ r. cond (among r) (Int (pos 0)) (s.regs r)) s.slots
    cleared s whole = record { known = whole.known; below = whole.below; closed = whole.closed; pinned = whole.pinned; rooted = λ r n e. held s whole r n (among r) e }

pub law_set_numbers : {w : Lost} (cpu : Cpu) → Lawful w IsPlain (set_numbers cpu)
unfolding set_numbers
law_set_numbers {w} cpu = record {
  agrees = λ m s h. (
    refl,
    refl,
    record {},
    record {
      thinned = record { thinning = h.thinned.thinning; bounded = h.thinned.bounded; regs = h.thinned.regs; slots = h.thinned.slots; transcript = h.thinned.transcript; cpu = refl; largest = h.thinned.largest };
      same = h.same;
      gone = h.gone;
      fresh = h.fresh;
    },
  );
}

pub law_put_register : {w : Lost} (r : ℕ) (v : Value) → IsKept w v → Lawful w IsPlain (put_register r v)
unfolding put_register
law_put_register {w} r v kept = record { agrees = λ m s h. subst (λ b. Agrees w IsPlain (placed m r v b) (placed s r v (is_there s.heap v))) (there_alike w m s h v kept) (step m s h (is_there s.heap v) refl) }
  where
    set : (m s : Machine) → IsAlike w m s → (b : Bool) → ((n : ℕ) → v ≡ Ref n → Has s.heap n) → IsWhole s.heap (cond b (set_register s.regs r v) s.regs) s.slots
    set m s h true there = IsWhole-set s.heap s.regs (set_register s.regs r v) s.slots r v h.thinned.thinning.whole refl there
    set m s h false there = h.thinned.thinning.whole

    step : (m s : Machine) → IsAlike w m s → (b : Bool) → is_there s.heap v ≡ b → Agrees w IsPlain (placed m r v b) (placed s r v b)
    step m s h false e = (refl, refl)
    step m s h true e = (
      refl,
      refl,
      record {},
      record {
        thinned = record {
          thinning = record { thinner = h.thinned.thinning.thinner; whole = set m s h (nat_lt r MACHINE_REGISTERS) (there_has s.heap v e) };
          bounded = h.thinned.bounded;
          regs = ap (λ g. cond (nat_lt r MACHINE_REGISTERS) (set_register g r v) g) h.thinned.regs;
          slots = h.thinned.slots;
          transcript = h.thinned.transcript;
          largest = h.thinned.largest;
          cpu = h.thinned.cpu;
        };
        same = h.same;
        gone = h.gone;
        fresh = h.fresh;
      },
    )

-- ---- looks

-- what an object holds that is there is there
held_there : (s : Machine) → IsWhole s.heap s.regs s.slots → (v : Value) (o : Object) → object_at s.heap v ≡ Some o → (n : ℕ) → holds o n ≡ true → Has s.heap n
held_there s whole (Int z) o e n x = let no : ◌≡◌ {A = Option Object} None (Some o) = e in absurd (cc)
held_there s whole (Ref k) o e n x = whole.closed k o n e x

pub law_look : {w : Lost} (v : Value) → IsKept w v → Lawful w (IsHeld w) (look v)
unfolding look
law_look {w} v k = record { agrees = λ m s h. subst (λ o. Agrees w (IsHeld w) (looked m v o) (looked s v (object_at s.heap v))) (object_alike w m s h v k) (step m s h (object_at s.heap v) refl) }
  where
    step : (m s : Machine) → IsAlike w m s → (o : Option Object) → object_at s.heap v ≡ o → Agrees w (IsHeld w) (looked m v o) (looked s v o)
    step m s h None e = (refl, rows_alike w m s v h k)
    step m s h (Some o) e = (refl, rows_alike w m s v h k, record { held = λ n x. not_lost w m s h n (held_there s h.thinned.thinning.whole v o e n x) }, h)

-- a part without names
pub law_part : {w : Lost} {A : Type 0} (c : Cause) (f : Object → Option A) (v : Value) → IsKept w v → Lawful w IsPlain (part c f v)
unfolding part
law_part c f v k = law_then _ (law_look v k) (λ o h. law_given_plain c (f o))

-- a part that is a value
pub law_part_value : {w : Lost} (c : Cause) (f : Object → Option Value) (v : Value) → IsWithin w f → IsKept w v → Lawful w (IsKept w) (part c f v)
unfolding part
law_part_value {w} c f v within k = law_then _ (law_look v k) (λ o h. law_given (IsKept w) c (f o) (λ x e. within.within o x h e))

-- an object by a name that isn't lost
pub law_named : {w : Lost} (n : ℕ) → w.lost n ≡ false → Lawful w (IsKept w) (known n)
unfolding known
law_named {w} n e = law_then _ (law_look (Ref n) (kept_ref w n e)) (λ o h. law_done (Ref n) (kept_ref w n e))

pub law_known : {w : Lost} (n : ℕ) → is_known n ≡ true → Lawful w (IsKept w) (known n)
unfolding known
law_known n e = law_then _ (law_look (Ref n) (kept_known n e)) (λ o h. law_done (Ref n) (kept_known n e))

class_alike : (w : Lost) (m s : Machine) → IsAlike w m s → (v : Value) → IsKept w v → class_at s.heap v ≡ class_at m.heap v
class_alike w m s h (Int z) k = refl
class_alike w m s h (Ref n) k = ap (λ x. option_and_then (λ (o : Object). Some o.class) x) (h.same n (k.kept n refl))

class_there : (s : Machine) → IsWhole s.heap s.regs s.slots → (v : Value) (class : ℕ) → class_at s.heap v ≡ Some class → Has s.heap class
class_there s whole (Int z) class e = let same : SMALL_INTEGER ≡ class = cc in subst (λ n. Has s.heap n) same (whole.known SMALL_INTEGER refl)
class_there s whole (Ref n) class e = go (s.heap.at n) refl e
  where
    go : (x : Option Object) → s.heap.at n ≡ x → option_and_then (λ (o : Object). Some o.class) x ≡ Some class → Has s.heap class
    go None f is = let no : ◌≡◌ {A = Option ℕ} None (Some class) = is in absurd (cc)
    go (Some o) f is = let same : o.class ≡ class = cc in whole.closed n o class f (subst (λ k. holds o k ≡ true) same (holds-class o))

pub law_class_of : {w : Lost} (v : Value) → IsKept w v → Lawful w (IsKept w) (class_of v)
unfolding class_of
law_class_of {w} v k = record { agrees = λ m s h. subst (λ o. Agrees w (IsKept w) (classed m v o) (classed s v (class_at s.heap v))) (class_alike w m s h v k) (step m s h (class_at s.heap v) refl) }
  where
    step : (m s : Machine) → IsAlike w m s → (o : Option ℕ) → class_at s.heap v ≡ o → Agrees w (IsKept w) (classed m v o) (classed s v o)
    step m s h None e = (refl, ap (λ r. r ∷ []) (row_alike w m s (name_at v) h (name_kept w v k)))
    step m s h (Some class) e = (refl, ap (λ r. r ∷ []) (row_alike w m s (name_at v) h (name_kept w v k)), kept_ref w class (not_lost w m s h class (class_there s h.thinned.thinning.whole v class e)), h)

-- ---- stores

body_put : Heap → (Body → Body) → ℕ → Option Object → Heap
body_put h change n x = option_map_or (λ (o : Object). put_object h n (another change o)) x h

same_body : (h s : Heap) (v : Value) (change : Body → Body) (q : ℕ) → object_at s v ≡ object_at h v → s.at q ≡ h.at q → (with_body s v change).at q ≡ (with_body h v change).at q
unfolding body_put
same_body h s (Int z) change q e f = f
same_body h s (Ref n) change q e f = subst (λ x. (body_put s change n (s.at n)).at q ≡ (body_put h change n x).at q) e (go (s.at n))
  where
    go : (x : Option Object) → (body_put s change n x).at q ≡ (body_put h change n x).at q
    go None = f
    go (Some o) = ap (λ y. cond (eqb q n) (Some (another change o)) y) f

next_body : (s : Heap) (v : Value) (change : Body → Body) → (with_body s v change).next ≡ s.next
unfolding body_put
next_body s (Int z) change = refl
next_body s (Ref n) change = go (s.at n)
  where
    go : (x : Option Object) → (body_put s change n x).next ≡ s.next
    go None = refl
    go (Some o) = refl

-- what is put under a kept name is not under a lost one
gone_put : (w : Lost) (s : Heap) (n : ℕ) (o : Object) (q : ℕ) → w.lost n ≡ false → w.lost q ≡ true → s.at q ≡ None → cond (eqb q n) (Some o) (s.at q) ≡ None
gone_put w s n o q kept lost none = go (eqb q n) refl
  where
    go : (x : Bool) → eqb q n ≡ x → cond (eqb q n) (Some o) (s.at q) ≡ None
    go true e = let same : q ≡ n = grind (arith, common_steps, e) in let no_way = ap w.lost same in absurd (cc)
    go false e = ap (λ x. cond x (Some o) (s.at q)) e ∙ none

gone_body : (w : Lost) (s : Heap) (v : Value) (change : Body → Body) (q : ℕ) → IsKept w v → w.lost q ≡ true → s.at q ≡ None → (with_body s v change).at q ≡ None
unfolding body_put
gone_body w s (Int z) change q k lost none = none
gone_body w s (Ref n) change q k lost none = go (s.at n)
  where
    go : (x : Option Object) → (body_put s change n x).at q ≡ None
    go None = none
    go (Some o) = gone_put w s n (another change o) q (k.kept n refl) lost none

pub law_store : {w : Lost} (v : Value) (i : ℕ) (x : Value) → IsKept w v → IsKept w x → Lawful w IsPlain (store v i x)
unfolding store
law_store {w} v i x k l = record {
  agrees = λ m s h.
      let parts : part_at s.heap v (λ b. field_of b i) ≡ part_at m.heap v (λ b. field_of b i) = ap (λ z. option_and_then (λ (o : Object). field_of o.body i) z) (object_alike w m s h v k) in
      subst (λ z. Agrees w IsPlain (stored m v i x z (is_there m.heap x)) (stored s v i x (part_at s.heap v (λ b. field_of b i)) (is_there s.heap x))) parts
      (subst (λ z. Agrees w IsPlain (stored m v i x (part_at s.heap v (λ b. field_of b i)) z) (stored s v i x (part_at s.heap v (λ b. field_of b i)) (is_there s.heap x))) (there_alike w m s h x l)
      (step m s h (part_at s.heap v (λ b. field_of b i)) (is_there s.heap x) refl));
}
  where
    step : (m s : Machine) → IsAlike w m s → (old : Option Value) (b : Bool) → is_there s.heap x ≡ b → Agrees w IsPlain (stored m v i x old b) (stored s v i x old b)
    step m s h None b e = (refl, rows_alike w m s v h k)
    step m s h (Some old) false e = (refl, rows_alike w m s v h k)
    step m s h (Some old) true e = (
      refl,
      rows_alike w m s v h k,
      record {},
      record {
        thinned = record {
          thinning = record {
            thinner = IsThinner-with_body m.heap s.heap v (λ b. with_field b i x) h.thinned.thinning.thinner (sym (object_alike w m s h v k));
            whole = IsWhole-with_body s.heap s.regs s.slots v (λ b. with_field b i x) h.thinned.thinning.whole (λ n o f. IsWhole-with_field s.heap s.regs s.slots n o i x h.thinned.thinning.whole f (there_has s.heap x e));
          };
          bounded = IsBounded-with_body m.heap v (λ b. with_field b i x) h.thinned.bounded;
          regs = h.thinned.regs;
          slots = h.thinned.slots;
          transcript = h.thinned.transcript;
          largest = h.thinned.largest;
          cpu = h.thinned.cpu;
        };
        same = λ q f. same_body m.heap s.heap v (λ b. with_field b i x) q (object_alike w m s h v k) (h.same q f);
        gone = λ q f. gone_body w s.heap v (λ b. with_field b i x) q k f (h.gone q f);
        fresh = λ q le. h.fresh q (subst (λ n. n ≤ q) (next_body s.heap v (λ b. with_field b i x)) le);
      },
    )

-- ---- a swap

free_alike : (w : Lost) (m s : Machine) (v : Value) → IsAlike w m s → IsKept w v → is_free s v ≡ is_free m v
free_alike w m s v h k = ap₂ (λ b slots. b && is_unpinned slots v) (there_alike w m s h v k) h.thinned.slots

thinner_swapped : (h s : Heap) (v x : Value) → IsThinner h s → object_at h v ≡ object_at s v → object_at h x ≡ object_at s x → IsThinner (with_swapped h v x) (with_swapped s v x)
thinner_swapped h s (Int z) x t e f = t
thinner_swapped h s (Ref n) (Int z) t e f = t
thinner_swapped h s (Ref n) (Ref k) t e f = IsThinner-swap_objects h s n k t e f

bounded_swapped : (h : Heap) (v x : Value) → IsBounded h → IsBounded (with_swapped h v x)
bounded_swapped h (Int z) x b = b
bounded_swapped h (Ref n) (Int z) b = b
bounded_swapped h (Ref n) (Ref k) b = IsBounded-swap_objects h n k b

whole_swapped : (s : Heap) (regs : ℕ → Value) (slots : ℕ → Option ℕ) (v x : Value) → IsWhole s regs slots → IsWhole (with_swapped s v x) regs slots
whole_swapped s regs slots (Int z) x whole = whole
whole_swapped s regs slots (Ref n) (Int z) whole = whole
whole_swapped s regs slots (Ref n) (Ref k) whole = IsWhole-swap_objects s regs slots n k whole

same_swapped : (h s : Heap) (v x : Value) (q : ℕ) → object_at s v ≡ object_at h v → object_at s x ≡ object_at h x → s.at q ≡ h.at q → (with_swapped s v x).at q ≡ (with_swapped h v x).at q
same_swapped h s (Int z) x q e f g = g
same_swapped h s (Ref n) (Int z) q e f g = g
same_swapped h s (Ref n) (Ref k) q e f g = subst₂ (λ a b. (swap_at s n k (s.at n) (s.at k)).at q ≡ (swap_at h n k a b).at q) e f (go (s.at n) (s.at k))
  where
    go : (a b : Option Object) → (swap_at s n k a b).at q ≡ (swap_at h n k a b).at q
    go None b = g
    go (Some o) None = g
    go (Some o) (Some p) = ap (λ y. cond (eqb q k) (Some o) (cond (eqb q n) (Some p) y)) g

pub next_swapped : (s : Heap) (v x : Value) → (with_swapped s v x).next ≡ s.next
next_swapped s (Int z) x = refl
next_swapped s (Ref n) (Int z) = refl
next_swapped s (Ref n) (Ref k) = go (s.at n) (s.at k)
  where
    go : (a b : Option Object) → (swap_at s n k a b).next ≡ s.next
    go None b = refl
    go (Some o) None = refl
    go (Some o) (Some p) = refl

gone_swapped : (w : Lost) (s : Heap) (v x : Value) (q : ℕ) → IsKept w v → IsKept w x → w.lost q ≡ true → s.at q ≡ None → (with_swapped s v x).at q ≡ None
gone_swapped w s (Int z) x q k l lost none = none
gone_swapped w s (Ref n) (Int z) q k l lost none = none
gone_swapped w s (Ref n) (Ref p) q k l lost none = swapped_apart s n p q (other n (k.kept n refl)) (other p (l.kept p refl)) ∙ none
  where
    other : (r : ℕ) → w.lost r ≡ false → q ≡ r → ⊥
    other r kept same = let no : true ≡ false = sym lost ∙ ap w.lost same ∙ kept in absurd (cc)

pub law_swap : {w : Lost} (v x : Value) → IsKept w v → IsKept w x → Lawful w IsPlain (swap v x)
unfolding swap
law_swap {w} v x k l = record {
  agrees = λ m s h. subst (λ b. Agrees w IsPlain (swapped m v x b) (swapped s v x (is_free s v && is_free s x))) (ap₂ (λ a b. a && b) (free_alike w m s v h k) (free_alike w m s x h l)) (step m s h (is_free s v && is_free s x));
}
  where
    step : (m s : Machine) → IsAlike w m s → (b : Bool) → Agrees w IsPlain (swapped m v x b) (swapped s v x b)
    step m s h false = (refl, ap₂ (λ p q. p ++ q) (rows_alike w m s v h k) (rows_alike w m s x h l))
    step m s h true = (
      refl,
      ap₂ (λ p q. p ++ q) (rows_alike w m s v h k) (rows_alike w m s x h l),
      record {},
      record {
        thinned = record {
          thinning = record {
            thinner = thinner_swapped m.heap s.heap v x h.thinned.thinning.thinner (sym (object_alike w m s h v k)) (sym (object_alike w m s h x l));
            whole = whole_swapped s.heap s.regs s.slots v x h.thinned.thinning.whole;
          };
          bounded = bounded_swapped m.heap v x h.thinned.bounded;
          regs = h.thinned.regs;
          slots = h.thinned.slots;
          transcript = h.thinned.transcript;
          largest = h.thinned.largest;
          cpu = h.thinned.cpu;
        };
        same = λ q f. same_swapped m.heap s.heap v x q (object_alike w m s h v k) (object_alike w m s h x l) (h.same q f);
        gone = λ q f. gone_swapped w s.heap v x q k l f (h.gone q f);
        fresh = λ q le. h.fresh q (subst (λ n. n ≤ q) (next_swapped s.heap v x) le);
      },
    )

-- a change of a body that leaves its fields
law_changed : {w : Lost} {A : Type 0} (v : Value) (change : Body → Body) (test : Body → Option A) → ((b : Body) → fields_of (change b) ≡ fields_of b) → IsKept w v → Lawful w IsPlain (λ m. changed m v change (is_some (part_at m.heap v test)))
law_changed {w} {A} v change test fields k = record {
  agrees = λ m s h.
      let parts : is_some (part_at s.heap v test) ≡ is_some (part_at m.heap v test) = ap (λ z. is_some (option_and_then (λ (o : Object). test o.body) z)) (object_alike w m s h v k) in
      subst (λ b. Agrees w IsPlain (changed m v change b) (changed s v change (is_some (part_at s.heap v test)))) parts (step m s h (is_some (part_at s.heap v test)));
}
  where
    step : (m s : Machine) → IsAlike w m s → (b : Bool) → Agrees w IsPlain (changed m v change b) (changed s v change b)
    step m s h false = (refl, rows_alike w m s v h k)
    step m s h true = (
      refl,
      rows_alike w m s v h k,
      record {},
      record {
        thinned = record {
          thinning = record {
            thinner = IsThinner-with_body m.heap s.heap v change h.thinned.thinning.thinner (sym (object_alike w m s h v k));
            whole = IsWhole-with_body s.heap s.regs s.slots v change h.thinned.thinning.whole (λ n o e. IsWhole-same_fields s.heap s.regs s.slots n o (change o.body) h.thinned.thinning.whole e (fields o.body));
          };
          bounded = IsBounded-with_body m.heap v change h.thinned.bounded;
          regs = h.thinned.regs;
          slots = h.thinned.slots;
          transcript = h.thinned.transcript;
          largest = h.thinned.largest;
          cpu = h.thinned.cpu;
        };
        same = λ q f. same_body m.heap s.heap v change q (object_alike w m s h v k) (h.same q f);
        gone = λ q f. gone_body w s.heap v change q k f (h.gone q f);
        fresh = λ q le. h.fresh q (subst (λ n. n ≤ q) (next_body s.heap v change) le);
      },
    )

pub law_store_word : {w : Lost} (v : Value) (i word : ℕ) → IsKept w v → Lawful w IsPlain (store_word v i word)
unfolding store_word
law_store_word v i word k = law_changed v (λ b. with_words b i (word ∷ [])) (λ b. option_and_then (λ (words : List ℕ). slice_get words i) (words_of b)) (λ b. fields-with_words b i (word ∷ [])) k

pub law_store_byte : {w : Lost} (v : Value) (i byte : ℕ) → IsKept w v → Lawful w IsPlain (store_byte v i byte)
unfolding store_byte
law_store_byte v i byte k = law_changed v (λ b. with_bytes b i (byte ∷ [])) (λ b. option_and_then (λ (bytes : List ℕ). slice_get bytes i) (bytes_of b)) (λ b. fields-with_bytes b i (byte ∷ [])) k

pub law_put_words : {w : Lost} (v : Value) (words : List ℕ) → IsKept w v → Lawful w IsPlain (put_words v words)
unfolding put_words
law_put_words v words k = law_changed v (λ b. with_words b 0 words) words_of (λ b. fields-with_words b 0 words) k

-- ---- makings

-- a heap with a new object of a class that is there is whole
whole_made : (s : Heap) (regs : ℕ → Value) (slots : ℕ → Option ℕ) → IsWhole s regs slots → (class : Value) (what : Making) → Has s (name_at class) → IsWhole (add_object s (object_made class what)) regs slots
whole_made s regs slots whole class what there =
    let of_class : IsWhole s (λ r. class) slots = IsWhole-regs s regs (λ r. class) slots whole (λ r n e. subst (λ v. Has s (name_at v)) e there) in
    IsWhole-regs (add_object s (object_made class what)) (λ r. class) regs slots (whole-heap s (λ r. class) slots of_class (Make 0 0 what)) (λ r n e. has_put s s.next (object_made class what) (s.next + 2) n (whole.rooted r n e))

pub law_make : {w : Lost} (class : Value) (what : Making) → IsKept w class → Lawful w (IsKept w) (make class what)
unfolding make
law_make {w} class what k = record {
  agrees = λ m s h. subst (λ n. Agrees w (IsKept w) (made m (object_made class what) (nat_lt n LAST_NAME)) (made s (object_made class what) (nat_lt s.heap.next LAST_NAME))) h.thinned.thinning.thinner.next (step m s h (nat_lt s.heap.next LAST_NAME));
}
  where
    new_same : (m s : Machine) → IsAlike w m s → (q : ℕ) → w.lost q ≡ false → (add_object s.heap (object_made class what)).at q ≡ (add_object m.heap (object_made class what)).at q
    new_same m s h q e =
        ap (λ y. cond (eqb q s.heap.next) (Some (object_made class what)) y) (h.same q e)
        ∙ ap (λ n. cond (eqb q n) (Some (object_made class what)) (m.heap.at q)) h.thinned.thinning.thinner.next

    new_kept : (m s : Machine) → IsAlike w m s → w.lost s.heap.next ≡ false
    new_kept m s h = h.fresh s.heap.next (omega arith)

    row : (m s : Machine) → IsAlike w m s → making_row m (object_made class what) ≡ making_row s (object_made class what)
    row m s h =
        ap (λ n. logged (add_object m.heap (object_made class what)) (record { object = n; slots = m.slots }) true) (sym h.thinned.thinning.thinner.next)
        ∙ ap (λ (z : ℕ → Option ℕ). logged (add_object m.heap (object_made class what)) (record { object = s.heap.next; slots = z }) true) (sym h.thinned.slots)
        ∙ logged-same (add_object m.heap (object_made class what)) (add_object s.heap (object_made class what)) (record { object = s.heap.next; slots = s.slots }) true (sym (new_same m s h s.heap.next (new_kept m s h))) (λ i j e. sym (new_same m s h j (not_lost w m s h j (h.thinned.thinning.whole.pinned i j e))))

    parts : (m s : Machine) → IsAlike w m s → (is_there s.heap (Ref (name_at class)) && is_there s.heap (Ref NIL)) ≡ (is_there m.heap (Ref (name_at class)) && is_there m.heap (Ref NIL))
    parts m s h = ap₂ (λ a b. a && b) (ap is_some (h.same (name_at class) (name_kept w class k))) (ap is_some (h.same NIL (w.known NIL refl)))

    add : (m s : Machine) → IsAlike w m s → (b : Bool) → (is_there s.heap (Ref (name_at class)) && is_there s.heap (Ref NIL)) ≡ b → Agrees w (IsKept w) (added m (object_made class what) b) (added s (object_made class what) b)
    add m s h false e = (refl, ap (λ r. r ∷ []) (row m s h))
    add m s h true e = (
      ap (λ n. Ref n) (sym h.thinned.thinning.thinner.next),
      ap (λ r. r ∷ []) (row m s h),
      kept_ref w m.heap.next (subst (λ j. w.lost j ≡ false) h.thinned.thinning.thinner.next (new_kept m s h)),
      record {
        thinned = record {
          thinning = record {
            thinner = IsThinner-add_object m.heap s.heap (object_made class what) h.thinned.thinning.thinner;
            whole = whole_made s.heap s.regs s.slots h.thinned.thinning.whole class what (both (is_there s.heap (Ref (name_at class))) (is_there s.heap (Ref NIL)) e).0;
          };
          bounded = IsBounded-add_object m.heap (object_made class what) h.thinned.bounded;
          regs = h.thinned.regs;
          slots = h.thinned.slots;
          transcript = h.thinned.transcript;
          largest = ap₂ (λ n (r : LogRow). max n r.own) h.thinned.largest (sym (row m s h));
          cpu = h.thinned.cpu;
        };
        same = new_same m s h;
        gone = λ q f. gone_put w s.heap s.heap.next (object_made class what) q (new_kept m s h) f (h.gone q f);
        fresh = λ q le. h.fresh q (omega arith);
      },
    )

    step : (m s : Machine) → IsAlike w m s → (b : Bool) → Agrees w (IsKept w) (made m (object_made class what) b) (made s (object_made class what) b)
    step m s h true = subst (λ b. Agrees w (IsKept w) (added m (object_made class what) b) (added s (object_made class what) (is_there s.heap (Ref (name_at class)) && is_there s.heap (Ref NIL)))) (parts m s h) (add m s h (is_there s.heap (Ref (name_at class)) && is_there s.heap (Ref NIL)) refl)
    step m s h false = refl

-- ---- pins

pub law_unpin_all : {w : Lost} → Lawful w IsPlain unpin_all
unfolding unpin_all
law_unpin_all {w} = record {
  agrees = λ m s h. (
    refl,
    refl,
    record {},
    record {
      thinned = record {
        thinning = record { thinner = h.thinned.thinning.thinner; whole = IsWhole-slots s.heap s.regs s.slots (unpinned s.slots) h.thinned.thinning.whole (λ i n e. held s h.thinned.thinning.whole i n (eqb i 2) (eqb i 1) (eqb i 0) e) };
        bounded = h.thinned.bounded;
        regs = h.thinned.regs;
        slots = ap unpinned h.thinned.slots;
        transcript = h.thinned.transcript;
        largest = h.thinned.largest;
        cpu = h.thinned.cpu;
      };
      same = h.same;
      gone = h.gone;
      fresh = h.fresh;
    },
  );
}
  where
    held : (s : Machine) → IsWhole s.heap s.regs s.slots → (i n : ℕ) (a b c : Bool) → cond a None (cond b None (cond c None (s.slots i))) ≡ Some n → Has s.heap n
    held s whole i n true b c e = let no : ◌≡◌ {A = Option ℕ} None (Some n) = e in absurd (cc)
    held s whole i n false true c e = let no : ◌≡◌ {A = Option ℕ} None (Some n) = e in absurd (cc)
    held s whole i n false false true e = let no : ◌≡◌ {A = Option ℕ} None (Some n) = e in absurd (cc)
    held s whole i n false false false e = whole.pinned i n e

pub law_pin : {w : Lost} (slot : ℕ) (v : Value) → IsKept w v → Lawful w IsPlain (pin slot v)
unfolding pin
law_pin {w} slot (Int z) k = record { agrees = λ m s h. (refl, refl) }
law_pin {w} slot (Ref n) k = record { agrees = λ m s h. subst (λ o. Agrees w IsPlain (pinned m slot n o) (pinned s slot n (s.heap.at n))) (h.same n (k.kept n refl)) (step m s h (s.heap.at n) refl) }
  where
    with_it : (m s : Machine) → IsAlike w m s → Has s.heap n → IsAlike w (with_pin m slot n) (with_pin s slot n)
    with_it m s h there = record {
      thinned = record {
        thinning = record {
          thinner = h.thinned.thinning.thinner;
          whole = IsWhole-pin s.heap s.regs s.slots (set_slot s.slots slot (Some n)) slot (Some n) h.thinned.thinning.whole refl (λ j e. let same : n ≡ j = cc in subst (λ q. Has s.heap q) same there);
        };
        bounded = h.thinned.bounded;
        regs = h.thinned.regs;
        slots = ap (λ z. set_slot z slot (Some n)) h.thinned.slots;
        transcript = h.thinned.transcript;
        largest = h.thinned.largest;
        cpu = h.thinned.cpu;
      };
      same = h.same;
      gone = h.gone;
      fresh = h.fresh;
    }

    step : (m s : Machine) → IsAlike w m s → (o : Option Object) → s.heap.at n ≡ o → Agrees w IsPlain (pinned m slot n o) (pinned s slot n o)
    step m s h None e = (refl, ap (λ r. r ∷ []) (row_alike w m s n h (k.kept n refl)))
    step m s h (Some o) e = (
      refl,
      ap₂ (λ r q. r ∷ q ∷ []) (row_alike w m s n h (k.kept n refl)) (row_alike w (with_pin m slot n) (with_pin s slot n) n (with_it m s h (ap is_some e)) (k.kept n refl)),
      record {},
      with_it m s h (ap is_some e),
    )

-- ---- saying

pub law_say : {w : Lost} (v : Value) → IsKept w v → Lawful w IsPlain (say v)
unfolding say
law_say {w} v k = record {
  agrees = λ m s h.
      let parts : part_at s.heap v text_of ≡ part_at m.heap v text_of = ap (λ z. option_and_then (λ (o : Object). text_of o.body) z) (object_alike w m s h v k) in
      subst (λ z. Agrees w IsPlain (spoken m v z) (spoken s v (part_at s.heap v text_of))) parts (step m s h (part_at s.heap v text_of));
}
  where
    step : (m s : Machine) → IsAlike w m s → (b : Option (List ℕ)) → Agrees w IsPlain (spoken m v b) (spoken s v b)
    step m s h None = (refl, rows_alike w m s v h k)
    step m s h (Some bytes) = (
      refl,
      rows_alike w m s v h k,
      record {},
      record {
        thinned = record {
          thinning = h.thinned.thinning;
          bounded = h.thinned.bounded;
          regs = h.thinned.regs;
          slots = h.thinned.slots;
          transcript = ap (λ t. t ++ bytes) h.thinned.transcript;
          largest = h.thinned.largest;
          cpu = h.thinned.cpu;
        };
        same = h.same;
        gone = h.gone;
        fresh = h.fresh;
      },
    )

-- ---- the law of a rule

-- at two machines, of which the thinner one has what isn't lost
pub respects_at : {A : Type 0} {K : Lost → A → Type 0} {p : Rule A} (m s : Machine) → IsThinned m s → ((w : Lost) → ((n : ℕ) → Has s.heap n → w.lost n ≡ false) → Lawful w (K w) p) → Agree (p m) (p s)
respects_at {A} {K} {p} m s h f = weaken (world m s h) (p m) (p s) ((f (world m s h) (λ n there. not_lost (world m s h) m s (alike m s h) n there)).agrees m s (alike m s h))
  where
    lost_of : (m s : Machine) → ℕ → Bool
    lost_of m s n = is_some (m.heap.at n) && cond (is_some (s.heap.at n)) false true

    kept_at : (a b : Option Object) → is_some b ≡ true → (is_some a && cond (is_some b) false true) ≡ false
    kept_at None b e = refl
    kept_at (Some o) None e = cc
    kept_at (Some o) (Some p) e = refl

    world : (m s : Machine) → IsThinned m s → Lost
    world m s h = record { lost = lost_of m s; known = λ n e. kept_at (m.heap.at n) (s.heap.at n) (h.thinning.whole.known n e) }

    same_at : (a b : Option Object) → ((o : Object) → b ≡ Some o → a ≡ Some o) → (is_some a && cond (is_some b) false true) ≡ false → b ≡ a
    same_at None None f e = refl
    same_at None (Some p) f e = sym (f p refl)
    same_at (Some o) None f e = cc
    same_at (Some o) (Some p) f e = sym (f p refl)

    gone_at : (a b : Option Object) → (is_some a && cond (is_some b) false true) ≡ true → b ≡ None
    gone_at None b e = cc
    gone_at (Some o) None e = refl
    gone_at (Some o) (Some p) e = cc

    alike : (m s : Machine) (h : IsThinned m s) → IsAlike (world m s h) m s
    alike m s h = record {
      thinned = h;
      same = λ n e. same_at (m.heap.at n) (s.heap.at n) (λ o. h.thinning.thinner.same n o) e;
      gone = λ n e. gone_at (m.heap.at n) (s.heap.at n) e;
      fresh = λ n le. let next = h.thinning.thinner.next in let none : m.heap.at n ≡ None = h.bounded.bounded n (omega arith) in ap (λ o. is_some o && cond (is_some (s.heap.at n)) false true) none;
    }

    weaken : (w : Lost) (a b : Outcome A) → Agrees w (K w) a b → Agree a b
    weaken w (Go x m log) (Go y s los) h = (h.0, h.1, h.3.thinned)
    weaken w (Halt c log) (Halt d los) h = h
    weaken w (Spent log) (Spent los) h = h
    weaken w _ _ h = absurd h

pub respects : {A : Type 0} {K : Lost → A → Type 0} {p : Rule A} → ((w : Lost) → Lawful w (K w) p) → RespectsThinning p
respects f = record { agree = λ m s h. respects_at m s h (λ w there. f w) }

-- ---- the forms that a search uses

pub then_plain : {w : Lost} {A B : Type 0} {Q : B → Type 0} {p : Rule A} (k : A → Rule B) → Lawful w IsPlain p → ((a : A) → Lawful w Q (k a)) → Lawful w Q (p >>= k)
then_plain k f g = law_then k f (λ a _. g a)

pub then_value : {w : Lost} {B : Type 0} {Q : B → Type 0} {p : Rule Value} (k : Value → Rule B) → Lawful w (IsKept w) p → ((a : Value) → IsKept w a → Lawful w Q (k a)) → Lawful w Q (p >>= k)
then_value k f g = law_then k f g

pub then_maybe : {w : Lost} {B : Type 0} {Q : B → Type 0} {p : Rule (Option Value)} (k : Option Value → Rule B) → Lawful w (IsKeptMaybe w) p → ((a : Option Value) → IsKeptMaybe w a → Lawful w Q (k a)) → Lawful w Q (p >>= k)
then_maybe k f g = law_then k f g

pub then_held : {w : Lost} {B : Type 0} {Q : B → Type 0} {p : Rule Object} (k : Object → Rule B) → Lawful w (IsHeld w) p → ((a : Object) → IsHeld w a → Lawful w Q (k a)) → Lawful w Q (p >>= k)
then_held k f g = law_then k f g

pub done_plain : {w : Lost} {A : Type 0} (a : A) → Lawful w IsPlain (done a)
done_plain a = law_done a (record {})

pub done_none : {w : Lost} → Lawful w (IsKeptMaybe w) (done None)
done_none {w} = law_done None (record { kept = λ v e. (cc) })

pub done_some : {w : Lost} (v : Value) → IsKept w v → Lawful w (IsKeptMaybe w) (done (Some v))
done_some {w} v k = law_done (Some v) (record { kept = λ u e. let same : v ≡ u = cc in subst (λ x. IsKept w x) same k })

-- ---- conditions

pub law_failed : {w : Lost} → Lawful w IsPlain failed
unfolding failed
law_failed = done_plain _

pub law_where_some : {w : Lost} {A : Type 0} (o : Option A) (k : A → Rule Answer) → ((a : A) → Lawful w IsPlain (k a)) → Lawful w IsPlain (where_some o k)
unfolding where_some
law_where_some None k f = law_failed
law_where_some (Some a) k f = f a

law_where_value : {w : Lost} (o : Option Value) (k : Value → Rule Answer) → IsKeptMaybe w o → ((v : Value) → IsKept w v → Lawful w IsPlain (k v)) → Lawful w IsPlain (where_some o k)
unfolding where_some
law_where_value None k h f = law_failed
law_where_value (Some v) k h f = f v (h.kept v refl)

pub law_where_true : {w : Lost} (b : Bool) (p : Rule Answer) → Lawful w IsPlain p → Lawful w IsPlain (where_true b p)
unfolding where_true
law_where_true b p f = law_pick b p failed f law_failed

pub try_plain : {w : Lost} {A : Type 0} {p : Rule (Option A)} (k : A → Rule Answer) → Lawful w IsPlain p → ((a : A) → Lawful w IsPlain (k a)) → Lawful w IsPlain (p >>? k)
unfolding ◌>>?◌
try_plain k first f = law_then _ first (λ o h. law_where_some o k f)

pub try_value : {w : Lost} {p : Rule (Option Value)} (k : Value → Rule Answer) → Lawful w (IsKeptMaybe w) p → ((v : Value) → IsKept w v → Lawful w IsPlain (k v)) → Lawful w IsPlain (p >>? k)
unfolding ◌>>?◌
try_value k first f = law_then _ first (λ o h. law_where_value o k h f)

-- a part without names
pub law_peek : {w : Lost} {A : Type 0} (f : Object → Option A) (v : Value) → IsKept w v → Lawful w IsPlain (peek f v)
unfolding peek
law_peek f (Int z) k = done_plain None
law_peek f (Ref n) k = law_then _ (law_look (Ref n) k) (λ o h. done_plain (f o))

-- a part that is a value
pub law_peek_value : {w : Lost} (f : Object → Option Value) (v : Value) → IsWithin w f → IsKept w v → Lawful w (IsKeptMaybe w) (peek f v)
unfolding peek
law_peek_value f (Int z) within k = done_none
law_peek_value f (Ref n) within k = law_then _ (law_look (Ref n) k) (λ o h. law_done (f o) (record { kept = λ v e. within.within o v h e }))

pub law_each : {w : Lost} (p : ℕ → Rule (Unit {0})) (n : ℕ) → ((i : ℕ) → Lawful w IsPlain (p i)) → Lawful w IsPlain (each p n)
unfolding each
law_each {w} p zero f = law_done tt (record {})
law_each {w} p (suc n) f = then_plain (λ _. p n) (law_each {w = w} p n f) (λ _. f n)

pub ruleset lawful = (then_value, then_maybe, then_held, then_plain, law_pick, done_none, done_some, done_plain, law_done, law_halt, law_register, law_numbers, law_set_numbers, law_clear, law_put_register, within_field, within_literal, within_last_literal, within_home_of, law_look, law_known, law_class_of, law_part_value, law_part, law_given_plain, law_store, law_store_word, law_store_byte, law_swap, law_make, law_unpin_all, law_pin, law_say, law_times, law_each, kept_int, kept_known)

pub ruleset trying = (try_value, try_plain, law_where_true, law_where_some, law_failed, law_peek_value, law_peek)
