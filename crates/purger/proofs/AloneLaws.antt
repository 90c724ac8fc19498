-- Objects that die alone: what their short words mean, and that it stays so while they go.
use Rattle.std.proofs.Common.{zero, suc, ◌≡◌, ◌≢◌, ℕ, ◌≤◌, ◌%◌, eqb, Bool, true, false, cond, List, [], ◌∷◌, map, Some, refl, sym, ◌∙◌, ap, ap₂, subst, arith}
use Rattle.std.specs.Prelude.{slice_get}
use Rattle.std.proofs.lemmas.Bool.{ne_eqb}
use Rattle.std.proofs.lemmas.Grind.{common_steps}
use Rattle.long_names.specs.declared.value.Value.{Value}
use Rattle.long_names.specs.declared.value.Value.TheVariants.{Int, Ref}
use Rattle.object_table.specs.declared.entry.Entry.{Entry}
use Rattle.object_table.specs.Entries.{is_short, is_used, place_of, free_entry}
use Rattle.object_table.specs.Table.{entry_at}
use Rattle.core_view.specs.Core.{Core}
use Rattle.core_view.specs.Counts.{uses}
use Rattle.core_view.specs.Held.{Disk, fields_there, object_at}
use Rattle.core_view.specs.Kept.{IsCore}
use Rattle.core_view.specs.Words.{int_of_short, meant, values_by}
use Rattle.core_view.proofs.Core.{class-used, used-live, word-used}
use Rattle.core_view.proofs.Lists.{put-there}
use Rattle.core_view.proofs.Words.{body-fields}
use Rattle.leaf_lambda.specs.declared.parts.Parts.{Parts}
use Rattle.leaf_lambda.specs.Parts.{core_of}
use Rattle.core_view.specs.Counted.{words_of}
use Rattle.delta_counts.specs.Shorts.{AreAtHand, IsAtHand, short_value}
use Rattle.purger.specs.Alone.{AreFields, NoneIsZero}
use Rattle.purger.specs.Draining.{IsForgotten}

-- ---- what the words mean

meant-plain : (entries : ℕ → Entry) (old : List Value) (i w : ℕ) → w ≢ 0 → meant entries old i w ≡ short_value entries w
meant-plain entries old i w some = ap (λ (b : Bool). cond (eqb (w % 2) 1) (Int (int_of_short w)) (cond b (Rattle.std.specs.Prelude.get_or old i (Int (Rattle.std.specs.Prelude.pos 0))) (Ref (entries w).name))) (ne_eqb w 0 some)

values-plain : (f : ℕ → ℕ → Value) (g : ℕ → Value) (ws : List ℕ) → ((i w : ℕ) → slice_get ws i ≡ Some w → f i w ≡ g w) → values_by f ws ≡ map g ws
values-plain f g [] same = refl
values-plain f g (w ∷ ws) same = ap₂ (λ (v : Value) (vs : List Value). v ∷ vs) (same 0 w refl) (values-plain (λ i. f (suc i)) g ws (λ i x e. same (suc i) x e))

class-even : (w : ℕ) → is_short w ≡ true → eqb (w % 2) 1 ≡ false
class-even w short = grind (arith, common_steps, short)

class-value : (entries : ℕ → Entry) (w : ℕ) → is_short w ≡ true → short_value entries w ≡ Ref (entries w).name
class-value entries w short = ap (λ (b : Bool). cond b (Int (int_of_short w)) (Ref (entries w).name)) (class-even w short)

-- what an object holds, by its short words
alone-words : (c : Core) (disk : Disk) (s p : ℕ) (ws : List ℕ) → IsCore c → place_of (c.entries s).state ≡ Some p → AreFields c s ws → NoneIsZero ws
    → words_of (object_at c disk (c.entries s) p) ≡ short_value c.entries (c.entries s).class.0 ∷ map (short_value c.entries) ws
alone-words c disk s p ws core at fields none = ap₂ (λ (v : Value) (vs : List Value). v ∷ vs) (sym (class-value c.entries (c.entries s).class.0 (core.classed s p at)))
    (body-fields c.entries old (c.chunks p).words (c.entries s).kind (c.entries s).len ∙ ap (values_by (meant c.entries old)) (sym (fields p at))
    ∙ values-plain (meant c.entries old) (short_value c.entries) ws (λ i w e. meant-plain c.entries old i w (none i w e)))
  where
    old : List Value
    old = fields_there (disk (c.entries s).name)

-- ---- what they name stays

short-of : (w : ℕ) → eqb (w % 2) 1 ≡ false → w ≢ 0 → is_short w ≡ true
short-of w even some = grind (arith, common_steps, even, some)

forgotten-entry : (c d : Core) (s w : ℕ) → IsForgotten s c d → w ≢ s → is_used (c.entries w).state ≡ true → (is_used (d.entries w).state ≡ true) × ((d.entries w).name ≡ (c.entries w).name)
forgotten-entry c d s w f away used =
    let same : d.entries w ≡ f.middle.entries w = ap (λ (x : Core). x.entries w) f.is ∙ put-there f.middle.entries s free_entry w away in
    let live = f.within.live w used in
    (ap (λ (e : Entry). is_used e.state) same ∙ live.0, ap (λ (e : Entry). e.name) same ∙ live.1)

-- nothing names what has no references
not-itself : (c : Core) (s w : ℕ) → IsCore c → (c.entries s).refs ≡ 0 → 1 ≤ uses c w → w ≢ s
not-itself c s w core none some is =
    let most = core.counted w in
    let refs = ap (λ (k : ℕ). (c.entries k).refs) is in
    omega (arith, some, most, refs, none)

class-hand : (c : Core) (m : Parts) (s p : ℕ) → IsCore c → place_of (c.entries s).state ≡ Some p → (c.entries s).refs ≡ 0 → IsForgotten s c (core_of m) → IsAtHand m.names (c.entries s).class.0
unfolding core_of
class-hand c m s p core at none f even =
    let some = class-used c core s p at in
    (forgotten-entry c (core_of m) s (c.entries s).class.0 f (not-itself c s (c.entries s).class.0 core none some) (used-live c core (c.entries s).class.0 some)).0

class-same : (c : Core) (m : Parts) (s p : ℕ) → IsCore c → place_of (c.entries s).state ≡ Some p → (c.entries s).refs ≡ 0 → IsForgotten s c (core_of m) → short_value (entry_at m.names.table) (c.entries s).class.0 ≡ short_value c.entries (c.entries s).class.0
unfolding core_of
class-same c m s p core at none f =
    let w = (c.entries s).class.0 in
    let some = class-used c core s p at in
    ap (λ (n : ℕ). cond (eqb (w % 2) 1) (Int (int_of_short w)) (Ref n)) (forgotten-entry c (core_of m) s w f (not-itself c s w core none some) (used-live c core w some)).1

word-there : (c : Core) (s p i w : ℕ) (ws : List ℕ) → IsCore c → place_of (c.entries s).state ≡ Some p → AreFields c s ws → NoneIsZero ws → slice_get ws i ≡ Some w → eqb (w % 2) 1 ≡ false → 1 ≤ uses c w
word-there c s p i w ws core at fields none e even = word-used c core s p i w at (ap (λ (xs : List ℕ). slice_get xs i) (sym (fields p at)) ∙ e) (short-of w even (none i w e))

words-hand : (c : Core) (m : Parts) (s p : ℕ) (ws : List ℕ) → IsCore c → place_of (c.entries s).state ≡ Some p → (c.entries s).refs ≡ 0 → IsForgotten s c (core_of m) → AreFields c s ws → NoneIsZero ws → AreAtHand m.names ws
unfolding core_of
words-hand c m s p ws core at none f fields whole i w e even =
    let some = word-there c s p i w ws core at fields whole e even in
    (forgotten-entry c (core_of m) s w f (not-itself c s w core none some) (used-live c core w some)).0

map-same : (f g : ℕ → Value) (ws : List ℕ) → ((i w : ℕ) → slice_get ws i ≡ Some w → f w ≡ g w) → map f ws ≡ map g ws
map-same f g [] same = refl
map-same f g (w ∷ ws) same = ap₂ (λ (v : Value) (vs : List Value). v ∷ vs) (same 0 w refl) (map-same f g ws (λ i x e. same (suc i) x e))

words-same : (c : Core) (m : Parts) (s p : ℕ) (ws : List ℕ) → IsCore c → place_of (c.entries s).state ≡ Some p → (c.entries s).refs ≡ 0 → IsForgotten s c (core_of m) → AreFields c s ws → NoneIsZero ws
    → map (short_value (entry_at m.names.table)) ws ≡ map (short_value c.entries) ws
unfolding core_of
words-same c m s p ws core at none f fields whole = map-same (short_value (entry_at m.names.table)) (short_value c.entries) ws (λ i w e. go i w e (eqb (w % 2) 1) refl)
  where
    go : (i w : ℕ) → slice_get ws i ≡ Some w → (b : Bool) → eqb (w % 2) 1 ≡ b → short_value (entry_at m.names.table) w ≡ short_value c.entries w
    go i w e true odd = ap (λ (b : Bool). cond b (Int (int_of_short w)) (Ref (entry_at m.names.table w).name)) odd ∙ sym (ap (λ (b : Bool). cond b (Int (int_of_short w)) (Ref (c.entries w).name)) odd)
    go i w e false even =
        let some = word-there c s p i w ws core at fields whole e even in
        ap (λ (n : ℕ). cond (eqb (w % 2) 1) (Int (int_of_short w)) (Ref n))
        (forgotten-entry c (core_of m) s w f (not-itself c s w core none some) (used-live c core w some)).1

-- ---- the class and the fields of what went

pub all-hand : (c : Core) (m : Parts) (s p : ℕ) (ws : List ℕ) → IsCore c → place_of (c.entries s).state ≡ Some p → (c.entries s).refs ≡ 0 → IsForgotten s c (core_of m) → AreFields c s ws → NoneIsZero ws → AreAtHand m.names ((c.entries s).class.0 ∷ ws)
all-hand c m s p ws core at none f fields whole zero w e = subst (λ (x : ℕ). IsAtHand m.names x) (let same : Some (c.entries s).class.0 ≡ Some w = e in cc) (class-hand c m s p core at none f)
all-hand c m s p ws core at none f fields whole (suc i) w e = words-hand c m s p ws core at none f fields whole i w e

pub all-same : (c : Core) (m : Parts) (disk : Disk) (s p : ℕ) (ws : List ℕ) → IsCore c → place_of (c.entries s).state ≡ Some p → (c.entries s).refs ≡ 0 → IsForgotten s c (core_of m) → AreFields c s ws → NoneIsZero ws
    → words_of (object_at c disk (c.entries s) p) ≡ map (short_value (entry_at m.names.table)) ((c.entries s).class.0 ∷ ws)
all-same c m disk s p ws core at none f fields whole = alone-words c disk s p ws core at fields whole
    ∙ ap₂ (λ (v : Value) (vs : List Value). v ∷ vs) (sym (class-same c m s p core at none f)) (sym (words-same c m s p ws core at none f fields whole))
