-- Lists of free chunks by rising place.
use Rattle.std.proofs.Common.{suc, ◌≡◌, ◌≢◌, ℕ, ◌+◌, ◌<◌, ◌≤◌, ◌==◌, ◌⊎◌, inl, inr, Bool, true, false, cond, List, [], ◌∷◌, ◌++◌, length, replicate, Option, Some, None, refl, sym, ◌∙◌, ap, subst, arith, ⊎_elim}
use Rattle.std.proofs.lemmas.Bool.{cases_eq, cases_lt}
use Rattle.std.proofs.lemmas.Bool.Decides.{nat_tests}
use Rattle.std.proofs.lemmas.List.{get_or-set_same, get_or-set_other, get_or-replicate}
use Rattle.std.specs.Prelude.{⊤}
use Rattle.std.specs.List.{slice_set}
use Rattle.core_segment.specs.Heads.{link_in}
use Rattle.core_segment.specs.Lists.{Tile, free_tile, class_in, first_in, with_first, Leads, weigh, weight, weigh_free, IsListed}
use Rattle.core_segment.specs.Layout.{Spans, free_in, largest_in}
use Rattle.core_segment.specs.Order.{places_in, AreInOrder, IsGoingOn, first_free}
use Rattle.core_segment.proofs.ListLaws.{at, weight-used, leads-same, listed, SameLinks}
use Rattle.core_segment.proofs.LayoutLaws.{spans-order, free-split, free-one, free-used, largest-split, largest-one, largest-none}
use Rattle.core_segment.proofs.GiveLaws.{with-first, with-none}

-- ---- the places of a list

places-used : (c : ℕ) (t : Tile) (ts : List Tile) → 0 < t.owner → places_in c (t ∷ ts) ≡ places_in c ts
places-used c t ts h = let test : (t.owner == 0) ≡ false = grind (arith, nat_tests) in
    ap (λ (b : Bool). cond b (cond (class_in t.size == c) (t.place ∷ places_in c ts) (places_in c ts)) (places_in c ts)) test

places-here : (c : ℕ) (t : Tile) (ts : List Tile) → t.owner ≡ 0 → class_in t.size ≡ c → places_in c (t ∷ ts) ≡ t.place ∷ places_in c ts
places-here c t ts e f = let a : (t.owner == 0) ≡ true = grind (arith, nat_tests) in let b : (class_in t.size == c) ≡ true = grind (arith, nat_tests) in
    ap (λ (x : Bool). cond x (cond (class_in t.size == c) (t.place ∷ places_in c ts) (places_in c ts)) (places_in c ts)) a
    ∙ ap (λ (x : Bool). cond x (t.place ∷ places_in c ts) (places_in c ts)) b

places-other : (c : ℕ) (t : Tile) (ts : List Tile) → class_in t.size ≢ c → places_in c (t ∷ ts) ≡ places_in c ts
places-other c t ts e = let test : (class_in t.size == c) ≡ false = grind (arith, nat_tests) in
    ap (λ (x : Bool). cond (t.owner == 0) (cond x (t.place ∷ places_in c ts) (places_in c ts)) (places_in c ts)) test ∙ both (t.owner == 0)
  where
    both : (x : Bool) → cond x (places_in c ts) (places_in c ts) ≡ places_in c ts
    both true = refl
    both false = refl

weight-here : (c : ℕ) (f : ℕ → ℕ) (t : Tile) → t.owner ≡ 0 → class_in t.size ≡ c → weight c f t ≡ f t.place
weight-here c f t e h = let a : (t.owner == 0) ≡ true = grind (arith, nat_tests) in let b : (class_in t.size == c) ≡ true = grind (arith, nat_tests) in
    ap (λ (x : Bool). cond x (cond (class_in t.size == c) (f t.place) 0) 0) a ∙ ap (λ (x : Bool). cond x (f t.place) 0) b

weight-else : (c : ℕ) (f : ℕ → ℕ) (t : Tile) → class_in t.size ≢ c → weight c f t ≡ 0
weight-else c f t e = let test : (class_in t.size == c) ≡ false = grind (arith, nat_tests) in
    ap (λ (x : Bool). cond (t.owner == 0) (cond x (f t.place) 0) 0) test ∙ both (t.owner == 0) 0
  where
    both : (x : Bool) (n : ℕ) → cond x n n ≡ n
    both true n = refl
    both false n = refl

pub weigh-places : (c : ℕ) (f : ℕ → ℕ) (ts : List Tile) → weigh f (places_in c ts) ≡ weigh_free c f ts
weigh-places c f [] = refl
weigh-places c f (t ∷ ts) = let more = weigh-places c f ts in ⊎_elim
    (λ (h : t.owner ≡ 0). ⊎_elim
    (λ (e : class_in t.size ≡ c). ap (weigh f) (places-here c t ts h e) ∙ (let a = weight-here c f t h e in omega arith))
    (λ (e : class_in t.size ≢ c). ap (weigh f) (places-other c t ts e) ∙ (let a = weight-else c f t e in omega arith))
    (cases_eq (class_in t.size) c))
    (λ (h : t.owner ≢ 0). ap (weigh f) (places-used c t ts (omega arith)) ∙ (let a = weight-used c f t (omega arith) in omega arith))
    (cases_eq t.owner 0)

-- ---- lists in order

pub listed-in-order : (region firsts : List ℕ) (ts : List Tile) → AreInOrder region firsts ts → length ts ≤ length region → IsListed region firsts ts
listed-in-order region firsts ts is few = listed region firsts ts (λ c. places_in c ts) (record { leads = is; holds = λ c low high f. weigh-places c f ts }) few

pub order-same : (region region' firsts : List ℕ) (ts : List Tile) → AreInOrder region firsts ts → SameLinks region region' ts → AreInOrder region' firsts ts
order-same region region' firsts ts is same c low high = leads-same region region' (first_in firsts c) (places_in c ts) (is c low high)
    (λ q h. same c q low high (let e = weigh-places c (at q) ts in omega arith))

pub order-by : (region firsts : List ℕ) (ts us : List Tile) → AreInOrder region firsts ts → ((c : ℕ) → 4 ≤ c → places_in c us ≡ places_in c ts) → AreInOrder region firsts us
order-by region firsts ts us is same c low high = subst (Leads region (first_in firsts c)) (sym (same c low)) (is c low high)

pub going-same : (region region' firsts : List ℕ) (ts : List Tile) (reached : Option ℕ) → IsGoingOn region firsts ts reached → SameLinks region region' ts
    → length region' ≡ length region → IsGoingOn region' firsts ts reached
going-same region region' firsts ts None is same size = tt
going-same region region' firsts ts (Some p) is same size = (order-same region region' firsts ts is.0 same, is.1 ∙ ap (first_free ts) (sym size))

-- no list has a chunk
pub order-none : (region : List ℕ) → AreInOrder region (replicate 66 0) []
order-none region c low high = get_or-replicate 66 c 0 0 (omega arith)

-- ---- chunks that stand in no list

abbrev pub IsLone : Tile → Type 0
IsLone t = (0 < t.owner) ⊎ (t.size < 4)

abbrev pub AreLone : List Tile → Type 0
AreLone [] = ⊤
AreLone (t ∷ ts) = IsLone t × AreLone ts

abbrev pub AreUsed : List Tile → Type 0
AreUsed [] = ⊤
AreUsed (t ∷ ts) = (0 < t.owner) × AreUsed ts

pub used-lone : (ts : List Tile) → AreUsed ts → AreLone ts
used-lone [] h = tt
used-lone (t ∷ ts) h = (inl h.0, used-lone ts h.1)

place-lone : (c : ℕ) (t : Tile) (ts : List Tile) → 4 ≤ c → IsLone t → places_in c (t ∷ ts) ≡ places_in c ts
place-lone c t ts low h = ⊎_elim (λ (u : 0 < t.owner). places-used c t ts u) (λ (u : t.size < 4). places-other c t ts (λ e. absurd (omega arith))) h

pub places-lone : (c : ℕ) (ts us : List Tile) → 4 ≤ c → AreLone ts → places_in c (ts ++ us) ≡ places_in c us
places-lone c [] us low h = refl
places-lone c (t ∷ ts) us low h = place-lone c t (ts ++ us) low h.0 ∙ places-lone c ts us low h.1

pub order-lone : (region firsts : List ℕ) (ts us : List Tile) → AreLone ts → AreInOrder region firsts us → AreInOrder region firsts (ts ++ us)
order-lone region firsts ts us h is = order-by region firsts us (ts ++ us) is (λ c low. places-lone c ts us low h)

pub order-without : (region firsts : List ℕ) (ts us : List Tile) → AreLone ts → AreInOrder region firsts (ts ++ us) → AreInOrder region firsts us
order-without region firsts ts us h is = order-by region firsts (ts ++ us) us is (λ c low. sym (places-lone c ts us low h))

-- ---- a chunk comes and goes at the front

pub order-push : (region region' firsts : List ℕ) (us : List Tile) (p size : ℕ) → AreInOrder region firsts us → length firsts ≡ 66 → SameLinks region region' us
    → (4 ≤ size → link_in region' p ≡ first_in firsts (class_in size)) → AreInOrder region' (with_first firsts size (p + 1)) (free_tile p size ∷ us)
order-push region region' firsts us p size is many same link c low high = ⊎_elim
    (λ (h : size < 4). subst (λ (fs : List ℕ). Leads region' (first_in fs c) (places_in c (free_tile p size ∷ us))) (sym (with-none firsts size (p + 1) h))
    (subst (Leads region' (first_in firsts c)) (sym (place-lone c (free_tile p size) us low (inr h))) (old c low high)))
    (λ (h : 4 ≤ size). subst (λ (fs : List ℕ). Leads region' (first_in fs c) (places_in c (free_tile p size ∷ us))) (sym (with-first firsts size (p + 1) h)) (⊎_elim
    (λ (e : c ≡ class_in size).
    let set = get_or-set_same firsts (class_in size) (p + 1) 0 (omega arith) in
    let first : first_in (slice_set firsts (class_in size) (p + 1)) c ≡ suc p = ap (first_in (slice_set firsts (class_in size) (p + 1))) e ∙ set ∙ (omega arith) in
    subst (Leads region' (first_in (slice_set firsts (class_in size) (p + 1)) c)) (sym (places-here c (free_tile p size) us refl (sym e)))
    (first, subst (λ (z : ℕ). Leads region' z (places_in c us)) (ap (first_in firsts) e ∙ sym (link h)) (old c low high)))
    (λ (e : c ≢ class_in size).
    subst (Leads region' (first_in (slice_set firsts (class_in size) (p + 1)) c)) (sym (places-other c (free_tile p size) us (λ f. e (sym f))))
    (subst (λ (z : ℕ). Leads region' z (places_in c us)) (sym (get_or-set_other firsts (class_in size) c (p + 1) 0 e)) (old c low high)))
    (cases_eq c (class_in size))))
    (cases_lt size 4)
  where
    old : AreInOrder region' firsts us
    old = order-same region region' firsts us is same

pub order-pop : (region firsts : List ℕ) (us : List Tile) (p size : ℕ) → AreInOrder region firsts (free_tile p size ∷ us) → length firsts ≡ 66
    → AreInOrder region (with_first firsts size (link_in region p)) us
order-pop region firsts us p size is many c low high = ⊎_elim
    (λ (h : size < 4). subst (λ (fs : List ℕ). Leads region (first_in fs c) (places_in c us)) (sym (with-none firsts size (link_in region p) h))
    (subst (Leads region (first_in firsts c)) (place-lone c (free_tile p size) us low (inr h)) (is c low high)))
    (λ (h : 4 ≤ size). subst (λ (fs : List ℕ). Leads region (first_in fs c) (places_in c us)) (sym (with-first firsts size (link_in region p) h)) (⊎_elim
    (λ (e : c ≡ class_in size).
    let set = get_or-set_same firsts (class_in size) (link_in region p) 0 (omega arith) in
    let l : Leads region (first_in firsts c) (p ∷ places_in c us) = subst (Leads region (first_in firsts c)) (places-here c (free_tile p size) us refl (sym e)) (is c low high) in
    subst (λ (z : ℕ). Leads region z (places_in c us)) (sym (ap (first_in (slice_set firsts (class_in size) (link_in region p))) e ∙ set)) l.1)
    (λ (e : c ≢ class_in size).
    subst (λ (z : ℕ). Leads region z (places_in c us)) (sym (get_or-set_other firsts (class_in size) c (link_in region p) 0 e))
    (subst (Leads region (first_in firsts c)) (places-other c (free_tile p size) us (λ f. e (sym f))) (is c low high)))
    (cases_eq c (class_in size))))
    (cases_lt size 4)

-- ---- the first free chunk

pub record IsFirst (ts : List Tile) (p : ℕ) : Type 0 where
  pub before : List Tile
  pub tile : Tile
  pub after : List Tile
  pub split : ts ≡ before ++ tile ∷ after
  pub used : AreUsed before
  pub place : tile.place ≡ p
  pub free : tile.owner ≡ 0

pub first-here : (t : Tile) (ts : List Tile) (end : ℕ) → t.owner ≡ 0 → first_free (t ∷ ts) end ≡ t.place
first-here t ts end e = let test : (t.owner == 0) ≡ true = grind (arith, nat_tests) in ap (λ (b : Bool). cond b t.place (first_free ts end)) test

pub first-next : (t : Tile) (ts : List Tile) (end : ℕ) → 0 < t.owner → first_free (t ∷ ts) end ≡ first_free ts end
first-next t ts end h = let test : (t.owner == 0) ≡ false = grind (arith, nat_tests) in ap (λ (b : Bool). cond b t.place (first_free ts end)) test

pub first-of : (p end : ℕ) (ts : List Tile) → p ≡ first_free ts end → p < end → IsFirst ts p
first-of p end [] e low = absurd (omega arith)
first-of p end (t ∷ ts) e low = ⊎_elim
    (λ (h : t.owner ≡ 0). record { before = []; tile = t; after = ts; split = refl; used = tt; place = sym (e ∙ first-here t ts end h); free = h })
    (λ (h : t.owner ≢ 0). let more = first-of p end ts (e ∙ first-next t ts end (omega arith)) low in
    record { before = t ∷ more.before; tile = more.tile; after = more.after; split = ap (λ (us : List Tile). t ∷ us) more.split; used = (omega arith, more.used); place = more.place; free = more.free })
    (cases_eq t.owner 0)

pub first-at : (before : List Tile) (t : Tile) (after : List Tile) (end : ℕ) → AreUsed before → t.owner ≡ 0 → first_free (before ++ t ∷ after) end ≡ t.place
first-at [] t after end used e = first-here t after end e
first-at (b ∷ bs) t after end used e = first-next b (bs ++ t ∷ after) end used.0 ∙ first-at bs t after end used.1 e

pub first-past : (before after : List Tile) (end : ℕ) → AreUsed before → first_free (before ++ after) end ≡ first_free after end
first-past [] after end used = refl
first-past (b ∷ bs) after end used = first-next b (bs ++ after) end used.0 ∙ first-past bs after end used.1

pub first-none : (p end : ℕ) (ts : List Tile) → Spans p ts end → end ≡ first_free ts end → AreUsed ts
first-none p end [] s e = tt
first-none p end (t ∷ ts) s e = ⊎_elim
    (λ (h : t.owner ≡ 0). let place = s.0 in let some = s.1 in let order = spans-order (p + t.size) end ts s.2 in let first = first-here t ts end h in absurd (omega arith))
    (λ (h : t.owner ≢ 0). (omega arith, first-none (p + t.size) end ts s.2 (e ∙ first-next t ts end (omega arith))))
    (cases_eq t.owner 0)

-- ---- how much is free

pub used-free : (ts : List Tile) → AreUsed ts → free_in ts ≡ 0
used-free [] used = refl
used-free (t ∷ ts) used = let a = free-split (t ∷ []) ts in let b = free-used t used.0 in let c = used-free ts used.1 in omega arith

pub used-largest : (ts : List Tile) → AreUsed ts → largest_in ts ≡ 0
used-largest [] used = refl
used-largest (t ∷ ts) used = let a = largest-split (t ∷ []) ts in let b = largest-none t used.0 in let c = used-largest ts used.1 in omega arith

pub largest-low : (ts : List Tile) → largest_in ts ≤ free_in ts
largest-low [] = omega arith
largest-low (t ∷ ts) =
    let more = largest-low ts in let a = free-split (t ∷ []) ts in let b = largest-split (t ∷ []) ts in ⊎_elim
    (λ (h : t.owner ≡ 0). let c = free-one t h in let d = largest-one t h in omega arith)
    (λ (h : t.owner ≢ 0). let c = free-used t (omega arith) in let d = largest-none t (omega arith) in omega arith)
    (cases_eq t.owner 0)
