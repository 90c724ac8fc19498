-- Writing: many fields one after the other, as a loop does, and a whole record.
use Rattle.std.proofs.Common.{◌≡◌, ℕ, ◌+◌, List, [], ◌∷◌, ◌++◌, length, take, replicate, ◌-◌, ◌≤◌, Some, Result, Ok, Err, sym, ap, ◌∙◌, append_assoc, arith}
use Rattle.std.specs.Prelude.{slice_get, OnOk}
use Rattle.std.specs.List.{flat_map}
use Rattle.std.proofs.lemmas.List.{flat_map_more, take_more, take-replicate, length-append}
use Rattle.std.proofs.lemmas.Option.{get_or_from_slice_get, slice_get_within}
use Rattle.long_names.specs.declared.object.Rec.{Rec}
use Rattle.long_names.specs.Record.{record_head, contents_text, padding, record_text}

pub push_taken : {X : Type 0} (xs : List X) (i : ℕ) (x : X) → slice_get xs i ≡ Some x → take (i + 1) xs ≡ take i xs ++ x ∷ []
push_taken {X = X} xs i x e = take_more xs i x (slice_get_within xs i x e) ∙ ap (λ (y : X). take i xs ++ y ∷ []) (get_or_from_slice_get xs i x x e)

pub one_more : {X : Type 0} (text : X → List ℕ) (start old new : List ℕ) (xs : List X) (i : ℕ) (x : X) → slice_get xs i ≡ Some x → old ≡ start ++ flat_map text (take i xs) → new ≡ old ++ text x → new ≡ start ++ flat_map text (take (i + 1) xs)
one_more text start old new xs i x at so_far then' =
    then' ∙ ap (λ (t : List ℕ). t ++ text x) so_far ∙ flat_map_more text start (take i xs) x ∙ ap (λ (ys : _). start ++ flat_map text ys) (sym (push_taken xs i x at))

pub on_ok : {A E : Type 0} {P Q : Type 0} (result : Result A E) → (P → Q) → OnOk result P → OnOk result Q
on_ok (Ok x) f p = f p
on_ok (Err e) f p = tt

-- the head, the contents and the zeros are the record
pub finished : (r : Rec) (old head whole new zeros : List ℕ) (n : ℕ) → head ≡ old ++ record_head r → whole ≡ head ++ contents_text r.body → n ≡ padding (length whole - length old) → zeros ≡ take n (replicate 3 0) → new ≡ whole ++ zeros → new ≡ old ++ record_text r
unfolding record_text
finished r old head whole new zeros n is-head is-whole is-n is-zeros is-new =
    let text : List ℕ = record_head r ++ contents_text r.body in
    let whole-is : whole ≡ old ++ text = is-whole ∙ ap (λ (t : List ℕ). t ++ contents_text r.body) is-head ∙ append_assoc old (record_head r) (contents_text r.body) in
    let len : length whole - length old ≡ length text = omega (arith, ap length whole-is, length-append old text) in
    let few : n ≤ 3 = omega (arith, is-n) in
    let zeros-are : zeros ≡ replicate (padding (length text)) 0 = is-zeros ∙ take-replicate n 3 0 few ∙ ap (λ (k : ℕ). replicate k 0) (is-n ∙ ap padding len) in
    is-new ∙ ap (λ (z : List ℕ). whole ++ z) zeros-are ∙ ap (λ (t : List ℕ). t ++ replicate (padding (length text)) 0) whole-is ∙ append_assoc old text (replicate (padding (length text)) 0)
