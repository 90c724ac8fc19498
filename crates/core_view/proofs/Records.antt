-- A record is written: the held heap stays.
use Rattle.std.proofs.Common.{◌≡◌, ℕ, pos, ◌+◌, ◌%◌, ◌≤◌, Bool, true, false, eqb, List, length, get_or, refl, sym, ◌∙◌, ap, subst, arith, Some, count_by}
use Rattle.std.proofs.lemmas.Option.{get_or_from_slice_get}
use Rattle.std.specs.List.{slice_get}
use Rattle.long_names.specs.Objects.{kind_of, len_of, fields_of}
use Rattle.long_names.specs.declared.value.Value.{Value}
use Rattle.long_names.specs.declared.value.Value.TheVariants.{Int, Ref}
use Rattle.long_names.specs.declared.object.Kind.{Kind}
use Rattle.long_names.specs.declared.object.Object.{Object}
use Rattle.object_table.specs.declared.entry.Entry.{Entry}
use Rattle.object_table.specs.Entries.{put, is_used, place_of}
use Rattle.core_view.specs.Core.{Core, with_entry}
use Rattle.core_view.specs.Words.{meant, pointers, body_in}
use Rattle.core_view.specs.Held.{Disk, disk_with, fields_there, object_at, held_in, held}
use Rattle.core_view.specs.Counts.{names, holders_in, holders, uses, outside}
use Rattle.core_view.specs.Kept.{IsCore, IsBody, IsBacked, KeepsOver}
use Rattle.core_view.specs.Steps.{written}
use Rattle.core_view.proofs.Lists.{put-here, put-there, values-get, some-same}
use Rattle.core_view.proofs.Core.{placed-used, held-same, held-at, body-means}
use Rattle.core_view.proofs.Entries.{IsStep, at-entry, step-names, step-others, step-here, step-backed, step-outside}
use Rattle.core_view.proofs.Words.{body-fields}

-- lambdas mean the same in the record that was made of them
body-again : (entries now : ℕ → Entry) (old : List Value) (ws : List ℕ) (k : Kind) (len : ℕ) → ((t : ℕ) → (now t).name ≡ (entries t).name) → body_in now (fields_of (body_in entries old ws k len)) ws k len ≡ body_in entries old ws k len
body-again entries now old ws k len same = body-means entries now old (fields_of (body_in entries old ws k len)) ws k len go
  where
    go : (i w : ℕ) → slice_get (pointers k ws) i ≡ Some w → meant now (fields_of (body_in entries old ws k len)) i w ≡ meant entries old i w
    go i w at = odd (eqb (w % 2) 1) refl
      where
        odd : (b : Bool) → eqb (w % 2) 1 ≡ b → meant now (fields_of (body_in entries old ws k len)) i w ≡ meant entries old i w
        odd true is = simp is refl
        odd false is = none (eqb w 0) refl
          where
            none : (b : Bool) → eqb w 0 ≡ b → meant now (fields_of (body_in entries old ws k len)) i w ≡ meant entries old i w
            none false some = simp (is, some) (ap Ref (same w))
            none true nought =
                let it : slice_get (fields_of (body_in entries old ws k len)) i ≡ Some (meant entries old i w) = ap (λ (vs : List Value). slice_get vs i) (body-fields entries old ws k len) ∙ values-get (meant entries old) (pointers k ws) i w at in
                let means : meant entries old i w ≡ get_or old i (Int (pos 0)) = simp (is, nought) refl in
                simp (is, nought) (get_or_from_slice_get (fields_of (body_in entries old ws k len)) i (get_or old i (Int (pos 0))) (Int (pos 0)) (it ∙ ap Some means))

pub write-step : (c : Core) (s : ℕ) → IsCore c → is_used (c.entries s).state ≡ true → IsStep c s (written (c.entries s))
unfolding holders
write-step c s core used = record {
  used = used;
  still = used;
  name = refl;
  owned = core.owned s;
  long = core.long s;
  small = core.small s;
  classed = core.classed s;
  counted = at-entry c.entries s (written (c.entries s)) (λ t y. uses c t + count_by (names t) (holders_in c.chunks (c.entries s) (place_of (c.entries s).state)) ≤ y.refs + count_by (names t) (holders_in c.chunks (c.entries s) (place_of (c.entries s).state))) (let m = core.counted s in omega arith) (λ q away. let m = core.counted q in omega arith);
}

write-object : (c : Core) (disk : Disk) (s p : ℕ) → IsCore c → IsStep c s (written (c.entries s)) → object_at (with_entry c s (written (c.entries s))) (disk_with c disk s p) (written (c.entries s)) p ≡ object_at c disk (c.entries s) p
write-object c disk s p core step = λ j. record {
  class = step-names c s (written (c.entries s)) step (c.entries s).class.0 j;
  body = (ap (λ o. body_in (put c.entries s (written (c.entries s))) (fields_there o) (c.chunks p).words (c.entries s).kind (c.entries s).len) (put-here disk (c.entries s).name (Some (object_at c disk (c.entries s) p)))
      ∙ body-again c.entries (put c.entries s (written (c.entries s))) (fields_there (disk (c.entries s).name)) (c.chunks p).words (c.entries s).kind (c.entries s).len (step-names c s (written (c.entries s)) step)) j;
}

pub write-held : (c : Core) (disk : Disk) (s p : ℕ) → IsCore c → IsStep c s (written (c.entries s)) → place_of (c.entries s).state ≡ Some p → held (with_entry c s (written (c.entries s))) (disk_with c disk s p) ≡ held c disk
write-held c disk s p core step at =
    let e = written (c.entries s) in
    let now = disk_with c disk s p in
    held-same c (with_entry c s (written (c.entries s))) disk (disk_with c disk s p) (c.entries s).name (step-others c disk (disk_with c disk s p) s (written (c.entries s)) core step (λ m away. put-there disk (c.entries s).name (Some (object_at c disk (c.entries s) p)) m away))
    (step-here c (disk_with c disk s p) s (written (c.entries s)) core step ∙ ap (λ x. held_in (with_entry c s (written (c.entries s))) (disk_with c disk s p) (c.entries s).name (written (c.entries s)) x) at ∙ ap Some (write-object c disk s p core step) ∙ sym (held-at c disk (c.entries s).name s p (core.found s step.used) at))

pub write-backed : (c : Core) (disk : Disk) (s p : ℕ) → IsCore c → IsBacked c disk → IsStep c s (written (c.entries s)) → place_of (c.entries s).state ≡ Some p → IsBacked (with_entry c s (written (c.entries s))) (disk_with c disk s p)
write-backed c disk s p core backed step at = step-backed c disk (disk_with c disk s p) s (written (c.entries s)) core backed step (λ m away. put-there disk (c.entries s).name (Some (object_at c disk (c.entries s) p)) m away) here
  where
    here : (r : ℕ) → place_of (c.entries s).state ≡ Some r → IsBody (with_entry c s (written (c.entries s))) (disk_with c disk s p) (written (c.entries s)) r
    here r at' =
        let there = put-here disk (c.entries s).name (Some (object_at c disk (c.entries s) p)) in
        let same = write-object c disk s p core step in
        subst (λ (z : ℕ). IsBody (with_entry c s (written (c.entries s))) (disk_with c disk s p) (written (c.entries s)) z) (some-same p r (sym at ∙ at')) (record {
          like = λ f. record {
            object = object_at c disk (c.entries s) p;
            there = there;
            same_class = ap (λ (x : Object). x.class) (sym same);
            same_kind = ap (λ (x : Object). kind_of x.body) (sym same);
            same_len = ap (λ (x : Object). len_of x.body) (sym same);
            same_fields = ap (λ (x : Object). length (fields_of x.body)) (sym same);
          };
          clean = λ f. there ∙ ap Some (sym same);
          absent = λ f. absurd (cc);
          whole = λ f. absurd (cc);
        })

-- the object written over its record, and its entry told so
pub write-keeps : (c : Core) (disk : Disk) (s p : ℕ) → IsCore c → IsBacked c disk → place_of (c.entries s).state ≡ Some p → KeepsOver c disk (with_entry c s (written (c.entries s))) (disk_with c disk s p)
write-keeps c disk s p core backed at =
    let step = write-step c s core (placed-used (c.entries s).state p at) in
    record { backed = write-backed c disk s p core backed step at; held = write-held c disk s p core step at }

pub write-outside : (c : Core) (s t : ℕ) → IsCore c → is_used (c.entries s).state ≡ true → outside (with_entry c s (written (c.entries s))) t ≡ outside c t
unfolding holders
write-outside c s t core used =
    let all : outside (with_entry c s (written (c.entries s))) t + count_by (names t) (holders_in c.chunks (c.entries s) (place_of (c.entries s).state)) + (c.entries t).refs ≡ outside c t + count_by (names t) (holders_in c.chunks (c.entries s) (place_of (c.entries s).state)) + (put c.entries s (written (c.entries s)) t).refs =
    step-outside c s (written (c.entries s)) t core (write-step c s core used) in
    let refs : (put c.entries s (written (c.entries s)) t).refs ≡ (c.entries t).refs = at-entry c.entries s (written (c.entries s)) (λ q e. e.refs ≡ (c.entries q).refs) refl (λ q away. refl) t in
    omega arith
