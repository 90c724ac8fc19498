-- One piece after another.
use Rattle.std.proofs.Common.{◌≡◌, ℕ, ◌+◌, ◌-◌, ◌≤◌, List, ◌++◌, length, take, drop, sym, ◌∙◌, ap, arith, append_assoc, length-drop, length-take}
use Rattle.std.proofs.Math.Seq.{take-add, take-append-add}
use Rattle.std.proofs.lemmas.List.{drop-drop, take-append-le}
use borrow.Rule.Slice.PartMut.{put_mid, post_of}
use Rattle.loom_host.specs.Outside.{RoleState, takes, puts, Took, TookSome, PutPrefix}

-- n bytes are put, and then the next m
pub puts_more : (n m : ℕ) (bytes rest : List ℕ) (old mid new : RoleState) → rest ≡ drop n bytes → mid ≡ puts (take n bytes) old → new ≡ puts (take m rest) mid → new ≡ puts (take (n + m) bytes) old
puts_more n m bytes rest old mid new is first second =
    let joined : (old.put ++ take n bytes) ++ take m rest ≡ old.put ++ take (n + m) bytes =
    append_assoc old.put (take n bytes) (take m rest) ∙ ap (λ (l : List ℕ). old.put ++ l) (ap (λ (l : List ℕ). take n bytes ++ take m l) is ∙ sym (take-add n m bytes)) in
    second ∙ ap (puts (take m rest)) first ∙ ap (λ (l : List ℕ). record old { put = l }) joined

pub PutPrefix-more : (n : ℕ) (bytes rest : List ℕ) (old mid new : RoleState) → rest ≡ drop n bytes → n ≤ length bytes → mid ≡ puts (take n bytes) old → PutPrefix rest mid new → PutPrefix bytes old new
PutPrefix-more n bytes rest old mid new is within first some =
    (n + some.0, omega (arith, some.1, ap length is, length-drop n bytes), puts_more n some.0 bytes rest old mid new is first some.2)

-- n bytes are taken, and then the next m
pub takes_more : (n m : ℕ) (s : RoleState) → takes m (takes n s) ≡ takes (n + m) s
takes_more n m s =
    let taken : (s.taken ++ take n s.left) ++ take m (drop n s.left) ≡ s.taken ++ take (n + m) s.left = append_assoc s.taken (take n s.left) (take m (drop n s.left)) ∙ ap (λ (l : List ℕ). s.taken ++ l) (sym (take-add n m s.left)) in
    ap (λ (l : List ℕ). record s { taken = l; left = drop m (drop n s.left) }) taken ∙ ap (λ (l : List ℕ). record s { taken = s.taken ++ take (n + m) s.left; left = l }) (drop-drop m n s.left)

left-takes : (n : ℕ) (old mid : RoleState) → mid ≡ takes n old → mid.left ≡ drop n old.left
left-takes n old mid is = ap (λ (s : RoleState). s.left) is

pub TookSome-more : (n most all : ℕ) (buf : List ℕ) (old mid new : RoleState) → Took n buf old mid → TookSome most mid new → n + most ≤ all → TookSome all old new
TookSome-more n most all buf old mid new first rest fits =
    let left = left-takes n old mid first.state in (
      n + rest.0,
      omega (arith, rest.1),
      omega (arith, rest.2, ap length left, length-drop n old.left, first.enough),
      rest.3 ∙ ap (takes rest.0) first.state ∙ takes_more n rest.0 old,
    )

-- the next m bytes stand behind the first n in the buffer
pub Took-more : (n m : ℕ) (buf next : List ℕ) (old mid new : RoleState) → Took n buf old mid → Took m next mid new → n ≤ length buf → m ≤ length next → Took (n + m) (put_mid n (length buf - n) buf next) old new
Took-more n m buf next old mid new first second within fits =
    let left = left-takes n old mid first.state in
    let front : length (take n buf) ≡ n = omega (arith, length-take n buf) in
    let rest = next ++ post_of n (length buf - n) buf in
    let behind : take (n + m) (take n buf ++ rest) ≡ take n buf ++ take m rest = ap (λ (k : ℕ). take (k + m) (take n buf ++ rest)) (sym front) ∙ take-append-add (take n buf) rest m in
    record {
      enough = omega (arith, second.enough, ap length left, length-drop n old.left, first.enough);
      bytes =
          behind
          ∙ ap (λ (l : List ℕ). take n buf ++ l) (take-append-le m next (post_of n (length buf - n) buf) fits ∙ second.bytes ∙ ap (λ (l : List ℕ). take m l) left)
          ∙ ap (λ (l : List ℕ). l ++ take m (drop n old.left)) first.bytes
          ∙ sym (take-add n m old.left);
      state = second.state ∙ ap (takes m) first.state ∙ takes_more n m old;
    }
