-- What a step of a reader says of what it holds.
use Rattle.std.proofs.Common.{◌≡◌, ℕ, ◌+◌, ◌-◌, ◌≤◌, List, ◌++◌, length, take, drop, Option, sym, ◌∙◌, ap, arith, length-drop, length-take}
use Rattle.std.proofs.Math.Seq.{take-add}
use Rattle.std.proofs.lemmas.List.{drop-drop, drop-take, take-take, take_at}
use Rattle.loom_host.specs.Outside.{Took, at_start}

-- a part of what there is up to an end
part : (t n end : ℕ) (bytes : List ℕ) → t ≤ end → n ≤ end - t → take n (drop t (take end bytes)) ≡ take n (drop t bytes)
part t n end bytes order fits =
    let whole : t + (end - t) ≡ end = omega arith in
    ap (λ (e : ℕ). take n (drop t (take e bytes))) (sym whole) ∙ ap (take n) (drop-take t (end - t) bytes) ∙ take-take n (end - t) (drop t bytes) fits

pub Took-part : (name : Option (List ℕ)) (t n end : ℕ) (bytes front rest : List ℕ) → t ≤ end → n ≤ end - t → end ≤ length bytes → length front ≡ n → front ≡ take n (drop t bytes)
    → Took n (front ++ rest) (record at_start { name = name; taken = take t (take end bytes); left = drop t (take end bytes) }) (record at_start { name = name; taken = take (t + n) (take end bytes); left = drop (t + n) (take end bytes) })
Took-part name t n end bytes front rest order fits there sized copied = record {
  enough = omega (arith, length-drop t (take end bytes), length-take end bytes);
  bytes = take_at front rest n sized ∙ copied ∙ sym (part t n end bytes order fits);
  state =
      ap (λ (l : List ℕ). record at_start { name = name; taken = l; left = drop (t + n) (take end bytes) }) (take-add t n (take end bytes))
      ∙ ap (λ (l : List ℕ). record at_start { name = name; taken = take t (take end bytes) ++ take n (drop t (take end bytes)); left = l }) (sym (drop-drop n t (take end bytes)));
}
