-- What a row needs, from the entries of a core.
use Rattle.std.proofs.Common.{◌≡◌, ◌≢◌, ℕ, ◌+◌, ◌*◌, Bool, true, false, cond, eqb, List, [], ◌∷◌, length, take, drop, refl, sym, ◌∙◌, ap, arith, Option, Some, None}
use Rattle.std.proofs.lemmas.Grind.{common_steps}
use Rattle.std.proofs.lemmas.List.{length-take, length-drop}
use Rattle.std.specs.Option.{option_map_or}
use Rattle.long_names.specs.Words.{literal_count}
use Rattle.long_names.specs.declared.value.Value.{Value}
use Rattle.long_names.specs.declared.object.Kind.{Kind}
use Rattle.long_names.specs.declared.object.Kind.TheVariants as kind
use Rattle.long_names.specs.declared.object.Object.{Object}
use Rattle.long_names.specs.Objects.{body_words, fields_of}
use Rattle.long_names.specs.Need.{words_at, entries_at, added}
use Rattle.object_table.specs.declared.entry.Entry.{Entry}
use Rattle.object_table.specs.Entries.{is_short, is_used, place_of}
use Rattle.core_view.specs.Core.{Core}
use Rattle.core_view.specs.Words.{meant, bytes_in, header_in, pointers, words_for, body_in, int_of_short}
use Rattle.core_view.specs.Held.{Disk, fields_there, object_at, held}
use Rattle.core_view.specs.Kept.{IsCore}
use Rattle.core_view.proofs.Core.{placed-used, held-at}
use Rattle.core_view.proofs.Lists.{length-values}
use Rattle.core_view.proofs.Words.{body-fields}
use Rattle.core_view.specs.Room.{room_by, room_for, entries_by, entries_for}
use Rattle.loom_memory.specs.Memory.{name_if}

length-bytes : (ws : List ℕ) → length (bytes_in ws) ≡ 2 * length ws
length-bytes [] = refl
length-bytes (w ∷ ws) = let rest = length-bytes ws in omega arith

-- a body has as many words as its chunk
pub body-words : (entries : ℕ → Entry) (old : List Value) (ws : List ℕ) (k : Kind) (len : ℕ) → length ws ≡ words_for k len (literal_count (header_in ws)) → body_words (body_in entries old ws k len) ≡ length ws
unfolding body_in
body-words entries old ws kind.Pointers len long = length-values (meant entries old) ws
body-words entries old ws kind.Words len long = refl
body-words entries old ws kind.Bytes len long = let all = length-bytes ws in let some = length-take len (bytes_in ws) in omega arith
body-words entries old [] kind.Method len long = absurd (omega arith)
body-words entries old (h ∷ rest) kind.Method len long =
    let n : ℕ = literal_count (int_of_short h) in
    let fields = length-values (meant entries old) (take n rest) in
    let few = length-take n rest in
    let left = length-drop n rest in
    let all = length-bytes (drop n rest) in
    let some = length-take len (bytes_in (drop n rest)) in
    omega arith

pub words-at : (c : Core) (disk : Disk) (next s p : ℕ) → IsCore c → place_of (c.entries s).state ≡ Some p → words_at (record { at = held c disk; next = next }) (c.entries s).name ≡ room_for c s
words-at c disk next s p core at =
    let there = held-at c disk (c.entries s).name s p (core.found s (placed-used (c.entries s).state p at)) at in
    let words = body-words c.entries (fields_there (disk (c.entries s).name)) (c.chunks p).words (c.entries s).kind (c.entries s).len (core.long s p at) in
    ap (λ (o : Option Object). option_map_or (λ (o : Object). 4 + body_words o.body) o 0) there ∙ ap (λ (n : ℕ). 4 + n) words ∙ sym (ap (room_by c.chunks) at)

pub entries-at : (c : Core) (disk : Disk) (next s p : ℕ) → IsCore c → place_of (c.entries s).state ≡ Some p → entries_at (record { at = held c disk; next = next }) (c.entries s).name ≡ entries_for c s
entries-at c disk next s p core at =
    let there = held-at c disk (c.entries s).name s p (core.found s (placed-used (c.entries s).state p at)) at in
    let fields : length (fields_of (object_at c disk (c.entries s) p).body) ≡ length (pointers (c.entries s).kind (c.chunks p).words) =
    ap length (body-fields c.entries (fields_there (disk (c.entries s).name)) (c.chunks p).words (c.entries s).kind (c.entries s).len) ∙ length-values (meant c.entries (fields_there (disk (c.entries s).name))) (pointers (c.entries s).kind (c.chunks p).words) in
    ap (λ (o : Option Object). option_map_or (λ (o : Object). 2 + length (fields_of o.body)) o 0) there ∙ ap (λ (n : ℕ). 2 + n) fields ∙ sym (ap (entries_by c.chunks (c.entries s)) at)

-- two entries in use have one name only where they are one
pub names-eq : (c : Core) (s t : ℕ) → IsCore c → is_used (c.entries s).state ≡ true → is_used (c.entries t).state ≡ true → eqb (c.entries s).name (c.entries t).name ≡ eqb s t
names-eq c s t core on there = go (eqb s t) refl
  where
    go : (b : Bool) → eqb s t ≡ b → eqb (c.entries s).name (c.entries t).name ≡ eqb s t
    go true e = let same : s ≡ t = grind (arith, common_steps) in let names : (c.entries s).name ≡ (c.entries t).name = ap (λ (k : ℕ). (c.entries k).name) same in let h : eqb (c.entries s).name (c.entries t).name ≡ true = grind (arith, common_steps) in h ∙ sym e
    go false e = other (eqb (c.entries s).name (c.entries t).name) refl
      where
        other : (x : Bool) → eqb (c.entries s).name (c.entries t).name ≡ x → eqb (c.entries s).name (c.entries t).name ≡ eqb s t
        other false f = f ∙ sym e
        other true f =
            let names : (c.entries s).name ≡ (c.entries t).name = grind (arith, common_steps) in
            let both : Some s ≡ Some t = sym (core.found s on) ∙ ap c.find names ∙ core.found t there in
            let same : s ≡ t = cc in
            let yes_ : eqb s t ≡ true = grind (arith, common_steps) in
            absurd (let no_ : true ≡ false = sym yes_ ∙ e in cc)

-- an entry that can't be has no body
abbrev IsNone : Core → ℕ → Type 0
IsNone c w = w ≢ 0 → (is_short w ≡ true) × ((p : ℕ) × (place_of (c.entries w).state ≡ Some p))

pub none-there : (c : Core) → IsCore c → place_of (c.entries 0).state ≡ None
none-there c core = go (place_of (c.entries 0).state) refl
  where
    go : (o : Option ℕ) → place_of (c.entries 0).state ≡ o → place_of (c.entries 0).state ≡ None
    go None e = e
    go (Some p) e = let is = core.short 0 (placed-used (c.entries 0).state p e) in absurd (cc)

-- what one slot adds
pub slot-adds : (c : Core) (size weight : ℕ → ℕ) (counted : ℕ → Bool) (x : Bool) (w : ℕ) → IsCore c → IsNone c w → weight 0 ≡ 0 → (w ≢ 0 → size (c.entries w).name ≡ weight w) → (w ≢ 0 → counted (c.entries w).name ≡ x)
    → added size counted (name_if c.entries w) ≡ cond x 0 (weight w)
slot-adds c size weight counted x w core pin none sized same = go (eqb w 0) refl
  where
    nothing : (b : Bool) (n : ℕ) → n ≡ 0 → 0 ≡ cond b 0 n
    nothing true n e = refl
    nothing false n e = sym e

    go : (b : Bool) → eqb w 0 ≡ b → added size counted (cond b None (Some (c.entries w).name)) ≡ cond x 0 (weight w)
    go true e = let is : w ≡ 0 = grind (arith, common_steps) in nothing x (weight w) (ap weight is ∙ none)
    go false e =
        let some : w ≢ 0 = (λ h. let yes_ : eqb w 0 ≡ true = grind (arith, common_steps) in absurd (let no_ : true ≡ false = sym yes_ ∙ e in cc)) in
        ap (λ (b : Bool). cond b 0 (size (c.entries w).name)) (same some) ∙ ap (λ (n : ℕ). cond x 0 n) (sized some)
