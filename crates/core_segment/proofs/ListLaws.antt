-- Lists of free chunks, as a chunk comes and goes.
use Rattle.std.proofs.Common.{zero, suc, ◌≡◌, ◌≢◌, ℕ, ◌+◌, ◌<◌, ◌≤◌, ◌==◌, Bool, true, false, cond, List, [], ◌∷◌, ◌++◌, length, refl, sym, ◌∙◌, ap, subst, arith, ⊎_elim}
use Rattle.std.proofs.lemmas.Bool.{cases_eq}
use Rattle.std.proofs.lemmas.Bool.Decides.{nat_tests}
use Rattle.std.proofs.lemmas.List.{get_or-set_same, get_or-set_other}
use Rattle.std.specs.List.{slice_set}
use Rattle.core_segment.specs.Heads.{link_in}
use Rattle.std.specs.Prelude.{if◌then◌else◌}
use Rattle.core_segment.specs.Lists.{Tile, free_tile, class_in, first_in, Leads, chain, list_in, weigh, weight, weigh_free, IsListed}

-- 1 at one place
abbrev pub at : ℕ → ℕ → ℕ
at q p = cond (p == q) 1 0

pub at-itself : (p : ℕ) → at p p ≡ 1
at-itself p = let test : (p == p) ≡ true = grind (arith, nat_tests) in ap (λ (b : Bool). cond b 1 0) test

-- ---- what a link leads to

pub chain-is : (region : List ℕ) (n link : ℕ) (ps : List ℕ) → Leads region link ps → length ps ≤ n → chain region n link ≡ ps
chain-is region zero link [] l few = refl
chain-is region (suc n) link [] l few = ap (chain region (suc n)) l
chain-is region zero link (p ∷ ps) l few = absurd (omega arith)
chain-is region (suc n) link (p ∷ ps) l few = subst (λ (z : ℕ). chain region (suc n) z ≡ p ∷ ps) (sym l.0)
    (ap (λ (qs : List ℕ). p ∷ qs) (chain-is region n (link_in region p) ps l.1 (omega arith)))

pub leads-same : (region region' : List ℕ) (link : ℕ) (ps : List ℕ) → Leads region link ps → ((q : ℕ) → 0 < weigh (at q) ps → link_in region' q ≡ link_in region q)
    → Leads region' link ps
leads-same region region' link [] l same = l
leads-same region region' link (p ∷ ps) l same =
    let here : link_in region' p ≡ link_in region p = same p (let one = at-itself p in omega arith) in
    (l.0, subst (λ (z : ℕ). Leads region' z ps) (sym here) (leads-same region region' (link_in region p) ps l.1 (λ q h. same q (omega arith))))

pub weigh-ones : (ps : List ℕ) → weigh (λ _. 1) ps ≡ length ps
weigh-ones [] = refl
weigh-ones (p ∷ ps) = let more = weigh-ones ps in omega arith

-- ---- what chunks weigh

pub weight-free : (c : ℕ) (f : ℕ → ℕ) (p size : ℕ) → class_in size ≡ c → weight c f (free_tile p size) ≡ f p
weight-free c f p size e = let test : (class_in size == c) ≡ true = grind (arith, nat_tests) in ap (λ (b : Bool). cond b (f p) 0) test

pub weight-other : (c : ℕ) (f : ℕ → ℕ) (p size : ℕ) → class_in size ≢ c → weight c f (free_tile p size) ≡ 0
weight-other c f p size e = let test : (class_in size == c) ≡ false = grind (arith, nat_tests) in ap (λ (b : Bool). cond b (f p) 0) test

pub weight-few : (c : ℕ) (t : Tile) → weight c (λ _. 1) t ≤ 1
weight-few c t = few (t.owner == 0) (class_in t.size == c)
  where
    few : (a b : Bool) → cond a (cond b 1 0) 0 ≤ 1
    few true true = omega arith
    few true false = omega arith
    few false b = omega arith

pub weigh-few : (c : ℕ) (ts : List Tile) → weigh_free c (λ _. 1) ts ≤ length ts
weigh-few c [] = omega arith
weigh-few c (t ∷ ts) = let a = weight-few c t in let b = weigh-few c ts in omega arith

-- a chunk weighs something at a place only where it is free and begins there
pub record IsThere (c q : ℕ) (t : Tile) : Type 0 where
  pub place : t.place ≡ q
  pub owner : t.owner ≡ 0
  pub class : class_in t.size ≡ c

nothing : (w : ℕ) → 0 < w → w ≡ 0 → ⊥
nothing w h e = absurd (omega arith)

pub there : (c q : ℕ) (t : Tile) → 0 < weight c (at q) t → IsThere c q t
there c q t h = told (t.owner == 0) (class_in t.size == c) (t.place == q) refl refl refl
  where
    told : (a b d : Bool) → (t.owner == 0) ≡ a → (class_in t.size == c) ≡ b → (t.place == q) ≡ d → IsThere c q t
    told true true true i j k = record { place = grind (arith, nat_tests); owner = grind (arith, nat_tests); class = grind (arith, nat_tests) }
    told true true false i j k = absurd (nothing _ h (ap (λ (x : Bool). cond x (cond (class_in t.size == c) (at q t.place) 0) 0) i ∙ ap (λ (x : Bool). cond x (at q t.place) 0) j ∙ ap (λ (x : Bool). cond x 1 0) k))
    told true false d i j k = absurd (nothing _ h (ap (λ (x : Bool). cond x (cond (class_in t.size == c) (at q t.place) 0) 0) i ∙ ap (λ (x : Bool). cond x (at q t.place) 0) j))
    told false b d i j k = absurd (nothing _ h (ap (λ (x : Bool). cond x (cond (class_in t.size == c) (at q t.place) 0) 0) i))

-- a free chunk of a list is one of the chunks
pub record IsAmong (c q : ℕ) (ts : List Tile) : Type 0 where
  pub before : List Tile
  pub tile : Tile
  pub after : List Tile
  pub split : ts ≡ before ++ tile ∷ after
  pub is : IsThere c q tile

pub among : (c q : ℕ) (ts : List Tile) → 0 < weigh_free c (at q) ts → IsAmong c q ts
among c q [] h = absurd (omega arith)
among c q (t ∷ ts) h = ⊎_elim
    (λ (e : weight c (at q) t ≡ 0). let more = among c q ts (omega arith) in
    record { before = t ∷ more.before; tile = more.tile; after = more.after; split = ap (λ (us : List Tile). t ∷ us) more.split; is = more.is })
    (λ (e : weight c (at q) t ≢ 0). record { before = []; tile = t; after = ts; split = refl; is = there c q t (omega arith) })
    (cases_eq (weight c (at q) t) 0)

pub weigh-split : (c : ℕ) (f : ℕ → ℕ) (before after : List Tile) → weigh_free c f (before ++ after) ≡ weigh_free c f before + weigh_free c f after
weigh-split c f [] after = omega arith
weigh-split c f (t ∷ ts) after = let more = weigh-split c f ts after in omega arith

-- ---- the lists

-- what the lists are
pub record IsKept (region firsts : List ℕ) (ts : List Tile) (ls : ℕ → List ℕ) : Type 0 where
  pub leads : (c : ℕ) → 4 ≤ c → c ≤ 65 → Leads region (first_in firsts c) (ls c)
  pub holds : (c : ℕ) → 4 ≤ c → c ≤ 65 → (f : ℕ → ℕ) → weigh f (ls c) ≡ weigh_free c f ts

pub listed : (region firsts : List ℕ) (ts : List Tile) (ls : ℕ → List ℕ) → IsKept region firsts ts ls → length ts ≤ length region → IsListed region firsts ts
listed region firsts ts ls kept few = record {
  leads = λ c low high. subst (Leads region (first_in firsts c)) (sym (is c low high)) (kept.leads c low high);
  holds = λ c low high f. ap (weigh f) (is c low high) ∙ kept.holds c low high f;
}
  where
    is : (c : ℕ) → 4 ≤ c → c ≤ 65 → list_in region firsts c ≡ ls c
    is c low high = chain-is region (length region) (first_in firsts c) (ls c) (kept.leads c low high)
        (let a = weigh-ones (ls c) in let b = kept.holds c low high (λ _. 1) in let d = weigh-few c ts in omega arith)

-- links of free chunks are as they were
abbrev pub SameLinks : List ℕ → List ℕ → List Tile → Type 0
SameLinks region region' ts = (c q : ℕ) → 4 ≤ c → c ≤ 65 → 0 < weigh_free c (at q) ts → link_in region' q ≡ link_in region q

pub listed-same : (region region' firsts : List ℕ) (ts : List Tile) → IsListed region firsts ts → SameLinks region region' ts → length ts ≤ length region'
    → IsListed region' firsts ts
listed-same region region' firsts ts is same few = listed region' firsts ts (list_in region firsts) (record {
  leads = λ c low high. leads-same region region' (first_in firsts c) (list_in region firsts c) (is.leads c low high)
      (λ q h. same c q low high (let e = is.holds c low high (at q) in omega arith));
  holds = is.holds;
})
    few

-- other chunks that weigh the same
pub listed-by : (region firsts : List ℕ) (ts us : List Tile) → IsListed region firsts ts → ((c : ℕ) (f : ℕ → ℕ) → weigh_free c f us ≡ weigh_free c f ts)
    → IsListed region firsts us
listed-by region firsts ts us is same = record { leads = is.leads; holds = λ c low high f. is.holds c low high f ∙ sym (same c f) }

-- a used chunk weighs nothing
pub weight-used : (c : ℕ) (f : ℕ → ℕ) (t : Tile) → 0 < t.owner → weight c f t ≡ 0
weight-used c f t h = let test : (t.owner == 0) ≡ false = grind (arith, nat_tests) in ap (λ (b : Bool). cond b (cond (class_in t.size == c) (f t.place) 0) 0) test

-- the ls but for that of one class
abbrev pub with_list : (ℕ → List ℕ) → ℕ → List ℕ → ℕ → List ℕ
with_list ls c ps d = if d == c then ps else ls d

pub with-same : (ls : ℕ → List ℕ) (c : ℕ) (ps : List ℕ) → with_list ls c ps c ≡ ps
with-same ls c ps = let test : (c == c) ≡ true = grind (arith, nat_tests) in ap (λ (b : Bool). cond b ps (ls c)) test

pub with-other : (ls : ℕ → List ℕ) (c d : ℕ) (ps : List ℕ) → d ≢ c → with_list ls c ps d ≡ ls d
with-other ls c d ps e = let test : (d == c) ≡ false = grind (arith, nat_tests) in ap (λ (b : Bool). cond b ps (ls d)) test

-- one more chunk is the first of its list
pub listed-push : (region region' firsts : List ℕ) (ts : List Tile) (p size : ℕ) → IsListed region firsts ts → 4 ≤ size → length firsts ≡ 66
    → SameLinks region region' ts → link_in region' p ≡ first_in firsts (class_in size) → suc (length ts) ≤ length region'
    → IsListed region' (slice_set firsts (class_in size) (suc p)) (free_tile p size ∷ ts)
listed-push region region' firsts ts p size is some many same link few = listed region' firsts' (free_tile p size ∷ ts) ls (record { leads = leads; holds = holds }) few
  where
    k : ℕ
    k = class_in size

    firsts' : List ℕ
    firsts' = slice_set firsts (class_in size) (suc p)

    ls : ℕ → List ℕ
    ls = with_list (list_in region firsts) (class_in size) (p ∷ list_in region firsts (class_in size))

    old : (c : ℕ) → 4 ≤ c → c ≤ 65 → Leads region' (first_in firsts c) (list_in region firsts c)
    old c low high = leads-same region region' (first_in firsts c) (list_in region firsts c) (is.leads c low high)
        (λ q h. same c q low high (let e = is.holds c low high (at q) in omega arith))

    leads : (c : ℕ) → 4 ≤ c → c ≤ 65 → Leads region' (first_in firsts' c) (ls c)
    leads c low high = ⊎_elim
        (λ (e : c ≡ class_in size). subst (λ (z : ℕ). Leads region' (first_in firsts' z) (ls z)) (sym e)
        (subst (Leads region' (first_in firsts' (class_in size))) (sym (with-same (list_in region firsts) (class_in size) (p ∷ list_in region firsts (class_in size)))) (
          get_or-set_same firsts (class_in size) (suc p) 0 (omega arith),
          subst (λ (z : ℕ). Leads region' z (list_in region firsts (class_in size))) (sym link) (old (class_in size) (omega arith) (omega arith)),
        )))
        (λ (e : c ≢ class_in size). subst (Leads region' (first_in firsts' c)) (sym (with-other (list_in region firsts) (class_in size) c (p ∷ list_in region firsts (class_in size)) e))
        (subst (λ (z : ℕ). Leads region' z (list_in region firsts c)) (sym (get_or-set_other firsts (class_in size) c (suc p) 0 e)) (old c low high)))
        (cases_eq c (class_in size))

    holds : (c : ℕ) → 4 ≤ c → c ≤ 65 → (f : ℕ → ℕ) → weigh f (ls c) ≡ weigh_free c f (free_tile p size ∷ ts)
    holds c low high f = ⊎_elim
        (λ (e : c ≡ class_in size). ap (λ (z : ℕ). weigh f (ls z)) e ∙ ap (weigh f) (with-same (list_in region firsts) (class_in size) (p ∷ list_in region firsts (class_in size)))
        ∙ (let a = weight-free c f p size (sym e) in let b = is.holds c low high f in let d = ap (λ (z : ℕ). weigh f (list_in region firsts z)) e in omega arith))
        (λ (e : c ≢ class_in size). ap (weigh f) (with-other (list_in region firsts) (class_in size) c (p ∷ list_in region firsts (class_in size)) e)
        ∙ (let a = weight-other c f p size (λ h. e (sym h)) in let b = is.holds c low high f in omega arith))
        (cases_eq c (class_in size))
