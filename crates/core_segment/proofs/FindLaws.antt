-- A free chunk of so many words is looked for.
use Rattle.std.proofs.Common.{suc, ◌≡◌, ◌≢◌, ℕ, ◌+◌, ◌-◌, ◌<◌, ◌≤◌, ◌==◌, ◌⊎◌, inl, inr, Bool, false, cond, List, [], ◌∷◌, length, refl, sym, ◌∙◌, ap, subst, arith, ⊎_elim, Option, None, Some, IfNone, IfSome}
use Rattle.std.proofs.lemmas.Bool.{cases_eq, cases_lt}
use Rattle.std.proofs.lemmas.Bool.Decides.{nat_tests}
use Rattle.core_segment.specs.Heads.{size_in, link_in}
use Rattle.core_segment.specs.Lists.{Tile, free_tile, first_in, Leads, chain, list_in, weigh, weight, weigh_free}
use Rattle.core_segment.specs.Layout.{IsTile, AreTiles, IsLaid, tiles_of, largest_in}
use Rattle.core_segment.specs.Taking.{IsWhole, IsSpot, passed_to, link_to}
use Rattle.core_segment.proofs.ListLaws.{at, at-itself, chain-is, weigh-ones, weigh-few, weight-free}
use Rattle.core_segment.proofs.LayoutLaws.{spans-order, largest-split, largest-one, largest-none}
use Rattle.core_segment.proofs.SpotLaws.{IsFree, weigh-passed}
use Rattle.core_segment.proofs.CutLaws.{spot-free}
use Rattle.core_segment.proofs.TakeLaws.{none-in, largest-below}

-- ---- the list of the long chunks

-- the long chunks that were passed have fewer words, and the link leads to the others
pub record IsPassing (region firsts : List ℕ) (words from link : ℕ) : Type 0 where
  pub passed : List ℕ
  pub ahead : List ℕ
  pub list : list_in region firsts 65 ≡ passed_to passed ahead
  pub before : from ≡ link_to passed
  pub leads : Leads region link ahead
  pub small : (q : ℕ) → 0 < weigh (at q) passed → size_in region q < words

-- the next chunk
pub record IsAhead (region : List ℕ) (link : ℕ) (ps : List ℕ) : Type 0 where
  pub place : ℕ
  pub rest : List ℕ
  pub split : ps ≡ place ∷ rest
  pub is : link ≡ suc place
  pub leads : Leads region (link_in region place) rest

ahead-of : (region : List ℕ) (link : ℕ) (ps : List ℕ) → Leads region link ps → 0 < link → IsAhead region link ps
ahead-of region link [] l some = absurd (let e = l in omega arith)
ahead-of region link (p ∷ ps) l some = record { place = p; rest = ps; split = refl; is = l.0; leads = l.1 }

none-ahead : (region : List ℕ) (link : ℕ) (ps : List ℕ) → Leads region link ps → link ≡ 0 → ps ≡ []
none-ahead region link [] l none = refl
none-ahead region link (p ∷ ps) l none = absurd (let e = l.0 in omega arith)

pub passing-begins : (region firsts : List ℕ) (words : ℕ) → IsWhole region firsts → IsPassing region firsts words 0 (first_in firsts 65)
passing-begins region firsts words whole = record {
  passed = [];
  ahead = list_in region firsts 65;
  list = refl;
  before = refl;
  leads = whole.listed.leads 65 (omega arith) (omega arith);
  small = λ q h. absurd (omega arith);
}

module _ (region firsts : List ℕ) (words before link : ℕ) (whole : IsWhole region firsts) (is : IsPassing region firsts words before link) (some : 0 < link) where
  next : IsAhead region link is.ahead
  next = ahead-of region link is.ahead is.leads some

  here : next.place ≡ link - 1
  here = let e = next.is in omega arith

  list : list_in region firsts 65 ≡ passed_to is.passed (next.place ∷ next.rest)
  list = is.list ∙ ap (passed_to is.passed) next.split

  pub passing-spot : IsSpot region firsts 65 before (link - 1)
  passing-spot = subst (IsSpot region firsts 65 before) here (record { passed = is.passed; ahead = next.rest; low = omega arith; high = omega arith; list = list; before = is.before })

  pub passing-free : IsFree region (tiles_of region) 65 (link - 1)
  passing-free = spot-free region firsts 65 before (link - 1) whole passing-spot

  pub passing-within : link - 1 + 3 < length region
  passing-within = let is = passing-free in let low = is.low in let class = is.class in omega arith

  pub passing-on : size_in region (link - 1) < words → IsPassing region firsts words link (link_in region (link - 1))
  passing-on few = record {
    passed = next.place ∷ is.passed;
    ahead = next.rest;
    list = list;
    before = next.is;
    leads = subst (λ (z : ℕ). Leads region (link_in region z) next.rest) here next.leads;
    small = λ q h. ⊎_elim
        (λ (e : next.place ≡ q). subst (λ (z : ℕ). size_in region z < words) e (subst (λ (z : ℕ). size_in region z < words) (sym here) few))
        (λ (e : next.place ≢ q). is.small q
        (let test : (next.place == q) ≡ false = grind (arith, nat_tests) in
        let light : at q next.place ≡ 0 = ap (λ (b : Bool). cond b 1 0) test in omega arith))
        (cases_eq next.place q);
  }

  pub passing-shorter : length (chain region (length region) (link_in region (link - 1))) < length (chain region (length region) link)
  passing-shorter =
      let many = whole.listed.holds 65 (omega arith) (omega arith) (λ _. 1) in
      let few = weigh-few 65 (tiles_of region) in
      let order = spans-order 0 (length region) (tiles_of region) whole.spans in
      let all = ap (weigh (λ _. 1)) list ∙ weigh-passed (λ _. 1) is.passed (next.place ∷ next.rest) in
      let ones = weigh-ones next.rest in
      let rest : chain region (length region) (link_in region (link - 1)) ≡ next.rest =
      subst (λ (z : ℕ). chain region (length region) (link_in region z) ≡ next.rest) here (chain-is region (length region) (link_in region next.place) next.rest next.leads (omega arith)) in
      let this : chain region (length region) link ≡ next.place ∷ next.rest =
      chain-is region (length region) link (next.place ∷ next.rest) (next.is, next.leads) (omega arith) in
      let a = ap (λ (ps : List ℕ). length ps) rest in let b = ap (λ (ps : List ℕ). length ps) this in omega arith

-- one of the chunks
abbrev pub IsIn : Tile → List Tile → Type 0
IsIn t [] = ⊥
IsIn t (u ∷ us) = (t ≡ u) ⊎ IsIn t us

pub largest-under : (ts : List Tile) (words : ℕ) → 0 < words → ((t : Tile) → IsIn t ts → t.owner ≡ 0 → t.size < words) → largest_in ts < words
largest-under [] words some small = omega arith
largest-under (t ∷ ts) words some small =
    let more : largest_in ts < words = largest-under ts words some (λ u h. small u (inr h)) in
    let split = largest-split (t ∷ []) ts in ⊎_elim
    (λ (e : t.owner ≡ 0). let a = small t (inl refl) e in let b = largest-one t e in omega arith)
    (λ (e : t.owner ≢ 0). let b = largest-none t (omega arith) in omega arith)
    (cases_eq t.owner 0)

weighs-in : (c : ℕ) (f : ℕ → ℕ) (t : Tile) (ts : List Tile) → IsIn t ts → weight c f t ≤ weigh_free c f ts
weighs-in c f t [] h = absurd h
weighs-in c f t (u ∷ us) h = ⊎_elim
    (λ (e : t ≡ u). let a = ap (λ (v : Tile). weight c f v) e in omega arith)
    (λ (e : IsIn t us). let a = weighs-in c f t us e in omega arith)
    h

tile-in : (region : List ℕ) (t : Tile) (ts : List Tile) → AreTiles region ts → IsIn t ts → IsTile region t
tile-in region t [] are h = absurd h
tile-in region t (u ∷ us) are h = ⊎_elim
    (λ (e : t ≡ u). subst (IsTile region) (sym e) are.0)
    (λ (e : IsIn t us). tile-in region t us are.1 e)
    h

pub passing-ends : (region firsts : List ℕ) (words before : ℕ) → IsWhole region firsts → IsPassing region firsts words before 0 → 64 < words → largest_in (tiles_of region) < words
passing-ends region firsts words before whole is long = largest-under (tiles_of region) words (omega arith) small
  where
    all : list_in region firsts 65 ≡ passed_to is.passed []
    all = is.list ∙ ap (passed_to is.passed) (none-ahead region 0 is.ahead is.leads refl)

    small : (t : Tile) → IsIn t (tiles_of region) → t.owner ≡ 0 → t.size < words
    small t h own = ⊎_elim
        (λ (l : t.size < words). l)
        (λ (l : words ≤ t.size).
        let tile = (tile-in region t (tiles_of region) whole.tiles h).sized in
        let free : t ≡ free_tile t.place t.size = ap (λ (z : ℕ). record { place = t.place; size = t.size; owner = z }) own in
        let one = ap (weight 65 (at t.place)) free ∙ weight-free 65 (at t.place) t.place t.size (omega arith) ∙ at-itself t.place in
        let heavy = weighs-in 65 (at t.place) t (tiles_of region) h in
        let holds = whole.listed.holds 65 (omega arith) (omega arith) (at t.place) in
        let passed = ap (weigh (at t.place)) all ∙ weigh-passed (at t.place) is.passed [] in
        let less = is.small t.place (omega arith) in
        absurd (omega arith))
        (cases_lt t.size words)

-- ---- the lists of one size

-- what follows from what a clause says of None
pub IfNone_then : {X : Type 0} (r : Option X) {P Q : Type 0} → IfNone r P → (P → Q) → IfNone r Q
IfNone_then None h then = then h
IfNone_then (Some x) h then = h

pub short-spot : (region firsts : List ℕ) (class place : ℕ) → IsWhole region firsts → 4 ≤ class → class ≤ 65 → first_in firsts class ≡ place + 1 → IsSpot region firsts class 0 place
short-spot region firsts class place whole low high first =
    let next = ahead-of region (first_in firsts class) (list_in region firsts class) (whole.listed.leads class low high) (omega arith) in
    let here : next.place ≡ place = (let e = next.is in omega arith) in
    subst (IsSpot region firsts class 0) here (record { passed = []; ahead = next.rest; low = low; high = high; list = next.split; before = refl })

pub short-enough : (region firsts : List ℕ) (class link place words : ℕ) → IsWhole region firsts → IsSpot region firsts class link place → words ≤ class → words ≤ size_in region place
short-enough region firsts class link place words whole spot few =
    let is = spot-free region firsts class link place whole spot in
    let class-of = is.class in let sized = is.is.sized in omega arith

pub short-none : (region firsts : List ℕ) (words : ℕ) → IsWhole region firsts → 4 ≤ words → words ≤ 64 → ((c : ℕ) → words ≤ c → c ≤ 65 → first_in firsts c ≡ 0)
    → largest_in (tiles_of region) < words
short-none region firsts words whole some few none = largest-below (tiles_of region) words some (omega arith)
    (λ c low high. none-in region firsts (tiles_of region) c whole.listed (omega arith) high (none c low high))

-- ---- a chunk that was found is no larger than the largest

pub whole-of : (region firsts : List ℕ) (free : ℕ) → IsLaid region firsts (tiles_of region) free → IsWhole region firsts
whole-of region firsts free laid = record { spans = laid.spans; tiles = laid.tiles; listed = laid.listed; counted = refl }

pub IfSome_both : {X : Type 0} (r : Option X) {P Q R : X → Type 0} → IfSome r P → IfSome r Q → ((x : X) → P x → Q x → R x) → IfSome r R
IfSome_both None h k then = h
IfSome_both (Some x) h k then = then x h k

pub spot-room : (region firsts : List ℕ) (class link place words : ℕ) → IsWhole region firsts → IsSpot region firsts class link place → words ≤ size_in region place
    → words ≤ largest_in (tiles_of region)
spot-room region firsts class link place words whole spot enough =
    let is = spot-free region firsts class link place whole spot in
    let sized = is.is.sized in
    let all = ap (λ (us : List Tile). largest_in us) is.split in
    let a = largest-split is.before (free_tile place is.size ∷ is.after) in let b = largest-split (free_tile place is.size ∷ []) is.after in
    let c = largest-one (free_tile place is.size) refl in omega arith
