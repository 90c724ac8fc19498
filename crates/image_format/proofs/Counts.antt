-- Counts fit a record.
use Rattle.std.proofs.Common.{◌≡◌, ℕ, zero, suc, ◌*◌, ◌^◌, ◌<◌, ◌≤◌, Bool, true, false, cond, eqb, length, Option, Some, None, is_some, refl, arith}
use Rattle.std.specs.Option.{option_map_or}
use Rattle.std.proofs.lemmas.List.Sums.{count_by-le-length}
use Rattle.long_names.specs.Objects.{IsBody, fields_of, holdings, is_ref}
use Rattle.long_names.specs.Heap.{Heap, objects_below, object_count, holdings_below, count_of}
use Rattle.long_names.specs.declared.object.Body.{Body}
use Rattle.long_names.specs.declared.object.Body.TheVariants.{Pointers, Words, Bytes, Method}
use Rattle.long_names.specs.declared.object.Object.{Object}
use Rattle.image_format.specs.Valid.{IsImageHeap}

few_fields : (body : Body) → IsBody body → length (fields_of body) < 65536
few_fields (Pointers values) is = is.size
few_fields (Words words) is = omega arith
few_fields (Bytes bytes) is = omega arith
few_fields (Method header literals code) is = omega (arith, is.size.1)

one_at_most : (b : Bool) → cond b 1 0 ≤ 1
one_at_most true = omega arith
one_at_most false = omega arith

few_holdings : (o : Object) (n : ℕ) → IsBody o.body → holdings o n ≤ 65536
few_holdings o n is = omega (arith, one_at_most (eqb o.class n), count_by-le-length (is_ref n) (fields_of o.body), few_fields o.body is)

-- what is stated of the object, if there is one
few_at : (o : Option Object) (n : ℕ) → ((x : Object) → o ≡ Some x → IsBody x.body) → option_map_or (λ (x : Object). holdings x n) o 0 ≤ 65536 * cond (is_some o) 1 0
few_at None n bodies = omega arith
few_at (Some o) n bodies = few_holdings o n (bodies o refl)

few_below : (h : Heap) (name : ℕ) → ((n : ℕ) (o : Object) → h.at n ≡ Some o → IsBody o.body) → (n : ℕ) → holdings_below h n name ≤ 65536 * objects_below h n
few_below h name bodies zero = omega arith
few_below h name bodies (suc n) = omega (arith, few_below h name bodies n, few_at (h.at n) name (bodies n))

pub count_fits : (h : Heap) (n : ℕ) → IsImageHeap h → count_of h n < 2 ^ 64
unfolding count_of object_count
count_fits h n is = omega (arith, few_below h n (λ k o at. (is.objects k o at).body) h.next, is.head.few)
