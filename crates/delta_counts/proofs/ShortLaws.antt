-- Short words that are lowered, one after another.
use Rattle.std.specs.Prelude.{negsuc}
use Rattle.std.proofs.Common.{zero, suc, ◌≡◌, ℕ, ℤ, ◌+ℤ◌, ◌+◌, ◌%◌, eqb, Bool, true, false, cond, List, [], ◌∷◌, ◌++◌, map, take, length, ◌<◌, ◌≤◌, Option, Some, refl, sym, ◌∙◌, ap, ap₂, subst, arith}
use Rattle.std.specs.Prelude.{slice_index}
use Rattle.long_names.specs.declared.value.Value.{Value}
use Rattle.long_names.specs.declared.value.Value.TheVariants.{Int, Ref}
use Rattle.object_table.specs.declared.entry.Entry.{Entry}
use Rattle.object_table.specs.Entries.{is_used}
use Rattle.object_table.specs.Table.{entry_at}
use Rattle.core_segment.specs.Chunks.{Chunk}
use Rattle.core_view.specs.Core.{Core}
use Rattle.core_view.specs.Words.{int_of_short}
use Rattle.core_view.specs.Levels.{Levels}
use Rattle.core_view.specs.Counted.{IsSound}
use Rattle.core_view.specs.LevelSteps.{changed_at, lowered_by, with_core}
use Rattle.core_view.proofs.ChangeLaws.{lowered-sound}
use Rattle.core_view.proofs.LevelLaws.{sound-as, words-cons}
use Rattle.long_names.proofs.CountLaws.{word_is}
use Rattle.core_view.proofs.CanLaws.{change-less}
use Rattle.resident_table.specs.declared.Parts2.{Parts2}
use Rattle.delta_counts.specs.Parts.{core_with, IsChange, IsCounting}
use Rattle.delta_counts.specs.Shorts.{AreAtHand, IsAtHand, Lowers, short_value}

number-sound : (t : Levels) (z : ℤ) (owed : List Value) → IsSound t (Int z ∷ owed) → IsSound t owed
number-sound t z owed x = sound-as t (Int z ∷ owed) owed x (λ q. let a = words-cons (Int z) owed q in let b : word_is q (Int z) ≡ 0 = refl in omega arith)

-- a number owes nothing
pub number-lowers : (p : Parts2) (w : ℕ) → eqb (w % 2) 1 ≡ true → Lowers p p (short_value (entry_at p.table) w ∷ [])
number-lowers p w odd chunks t owed is x =
    let value : short_value (entry_at p.table) w ≡ Int (int_of_short w) = ap (λ (b : Bool). cond b (Int (int_of_short w)) (Ref (entry_at p.table w).name)) odd in
    subst (λ (c : Core). IsSound (with_core t c) owed) (sym is) (number-sound t (int_of_short w) owed (subst (λ (v : Value). IsSound t (v ∷ owed)) value x))

-- a name is lowered in its entry
pub name-lowers : (p q : Parts2) (w : ℕ) → eqb (w % 2) 1 ≡ false → is_used (entry_at p.table w).state ≡ true
    → ((chunks : ℕ → Chunk) → IsChange ((entry_at p.table w).change +ℤ negsuc 0) → core_with chunks q ≡ changed_at (core_with chunks p) w ((entry_at p.table w).change +ℤ negsuc 0))
    → Lowers p q (short_value (entry_at p.table) w ∷ [])
unfolding core_with
name-lowers p q w even used changed chunks t owed is x = subst (λ (c : Core). IsSound (with_core t c) owed) (sym new) (subst (λ (o : Option ℕ). IsSound (lowered_by t n o) owed) found (lowered-sound t n owed y))
  where
    n : ℕ
    n = (entry_at p.table w).name

    y : IsSound t (Ref n ∷ owed)
    y = subst (λ (v : Value). IsSound t (v ∷ owed)) (ap (λ (b : Bool). cond b (Int (int_of_short w)) (Ref n)) even) x

    entry : entry_at p.table w ≡ t.core.entries w
    entry = ap (λ (c : Core). c.entries w) is

    there : is_used (t.core.entries w).state ≡ true
    there = sym (ap (λ (e : Entry). is_used e.state) entry) ∙ used

    found : t.core.find n ≡ Some w
    found = ap (λ (e : Entry). t.core.find e.name) entry ∙ y.core.found w there

    new : core_with chunks q ≡ changed_at t.core w ((t.core.entries w).change +ℤ negsuc 0)
    new = changed chunks (subst (λ (e : Entry). IsChange (e.change +ℤ negsuc 0)) (sym entry) (change-less t w (Ref n ∷ owed) y there))
        ∙ ap (λ (c : Core). changed_at c w ((entry_at p.table w).change +ℤ negsuc 0)) is ∙ ap (λ (e : Entry). changed_at t.core w (e.change +ℤ negsuc 0)) entry

-- ---- one after another

pub lowers-then : (p q r : Parts2) (vs ws : List Value) → Lowers p q vs → Lowers q r ws → Lowers p r (vs ++ ws)
lowers-then p q r vs ws first last chunks t owed is x = last chunks (with_core t (core_with chunks q)) owed refl (first chunks t (ws ++ owed) is (subst (λ (xs : List Value). IsSound t xs) (join vs ws owed) x))
  where
    join : (a b c : List Value) → (a ++ b) ++ c ≡ a ++ (b ++ c)
    join [] b c = refl
    join (v ∷ a) b c = ap (λ (xs : List Value). v ∷ xs) (join a b c)

-- what words name stays where changes of counts differ
pub value-same : (p q : Parts2) (w : ℕ) → IsCounting p q → short_value (entry_at q.table) w ≡ short_value (entry_at p.table) w
value-same p q w same = ap (λ (e : Entry). cond (eqb (w % 2) 1) (Int (int_of_short w)) (Ref e.name)) (same.entries w)

pub hand-same : (p q : Parts2) (w : ℕ) → IsCounting p q → IsAtHand p w → IsAtHand q w
hand-same p q w same used even = ap (λ (e : Entry). is_used e.state) (same.entries w) ∙ used even

-- the first words, and the next
taken-suc : (f : ℕ → Value) (xs : List ℕ) (i : ℕ) → i < length xs → take (suc i) (map f xs) ≡ take i (map f xs) ++ (f (slice_index xs i) ∷ [])
taken-suc f [] i low = absurd (omega arith)
taken-suc f (x ∷ xs) zero low = refl
taken-suc f (x ∷ xs) (suc i) low = ap (λ (vs : List Value). f x ∷ vs) (taken-suc f xs i (omega arith))

pub taken : (f : ℕ → Value) (xs : List ℕ) (i n : ℕ) → i < length xs → n ≡ i + 1 → take n (map f xs) ≡ take i (map f xs) ++ (f (slice_index xs i) ∷ [])
taken f xs i n low e = ap (λ (k : ℕ). take k (map f xs)) (let m : n ≡ suc i = omega arith in m) ∙ taken-suc f xs i low

pub taken-all : (f : ℕ → Value) (xs : List ℕ) (i : ℕ) → length xs ≤ i → take i (map f xs) ≡ map f xs
taken-all f [] zero low = refl
taken-all f [] (suc i) low = refl
taken-all f (x ∷ xs) zero low = absurd (omega arith)
taken-all f (x ∷ xs) (suc i) low = ap (λ (vs : List Value). f x ∷ vs) (taken-all f xs i (omega arith))

-- ---- the first word, and the others behind it

pub hand-first : (p : Parts2) (w : ℕ) (ws : List ℕ) → AreAtHand p (w ∷ ws) → IsAtHand p w
hand-first p w ws all = all 0 w refl

pub hand-rest : (p q : Parts2) (w : ℕ) (ws : List ℕ) → IsCounting p q → AreAtHand p (w ∷ ws) → AreAtHand q ws
hand-rest p q w ws same all i x e = hand-same p q x same (all (suc i) x e)

pub values-same : (p q : Parts2) (ws : List ℕ) → IsCounting p q → map (short_value (entry_at q.table)) ws ≡ map (short_value (entry_at p.table)) ws
values-same p q [] same = refl
values-same p q (w ∷ ws) same = ap₂ (λ (v : Value) (vs : List Value). v ∷ vs) (value-same p q w same) (values-same p q ws same)
