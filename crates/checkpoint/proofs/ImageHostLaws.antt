-- A slice that is read from, and what is carried of the host inside.
use Rattle.std.proofs.Common.{◌≡◌, ℕ, ◌+◌, ◌-◌, ◌≤◌, List, [], ◌∷◌, ◌++◌, Option, None, Some, length, take, drop, refl, ap, ◌∙◌, arith}
use Rattle.std.proofs.lemmas.Grind.{elements, common_steps}
use Rattle.loom_host.specs.Outside.{RoleState, Took}
use Rattle.checkpoint.specs.ImageHost.{carried, joined, list_of_list, list_of_number, lists_of, unread}

abbrev pub with_both : List ℕ → ℕ → List ℕ → List ℕ → RoleState
with_both put attaches taken left = record (unread put left) { attaches = attaches; taken = taken }

take_front : (xs ys : List ℕ) (n : ℕ) → length xs ≡ n → take n (xs ++ ys) ≡ xs
take_front xs ys n long = grind (arith, elements)

take_both : (image : List ℕ) (at n : ℕ) → at + n ≤ length image → take (at + n) image ≡ take at image ++ take n (drop at image)
take_both image at n within = grind (arith, elements)

drop_both : (image : List ℕ) (at n : ℕ) → drop (at + n) image ≡ drop n (drop at image)
drop_both image at n = grind (arith, elements)

-- the next bytes of a slice were taken to the front of a buffer
pub took-next : (image buf copied put : List ℕ) (attaches at n : ℕ) → at + n ≤ length image → copied ≡ take (at + n - at) (drop at image)
    → Took n (copied ++ drop n buf) (with_both put attaches (take at image) (drop at image)) (with_both put attaches (take (at + n) image) (drop (at + n) image))
took-next image buf copied put attaches at n within is =
    let same : copied ≡ take n (drop at image) = is ∙ ap (λ (k : ℕ). take k (drop at image)) (omega arith) in
    record {
      enough = grind (arith, common_steps);
      bytes = take_front copied (drop n buf) n (ap length same ∙ grind (arith, common_steps)) ∙ same;
      state = ap (λ (l : List ℕ). with_both put attaches l (drop (at + n) image)) (take_both image at n within)
          ∙ ap (with_both put attaches (take at image ++ take n (drop at image))) (drop_both image at n);
    }

-- ---- what is carried

split_same : (xs ys later rest : List ℕ) → length xs ≡ length ys → xs ++ later ≡ ys ++ rest → (xs ≡ ys) × (later ≡ rest)
split_same [] [] later rest long same = (refl, same)
split_same [] (y ∷ ys) later rest long same = absurd (omega arith)
split_same (x ∷ xs) [] later rest long same = absurd (omega arith)
split_same (x ∷ xs) (y ∷ ys) later rest long same =
    let first : x ≡ y = cc in
    let more = split_same xs ys later rest (omega arith) cc in
    let behind = more.0 in
    ((cc), more.1)

joined_same : (xs ys : List (List ℕ)) → joined xs ≡ joined ys → xs ≡ ys
unfolding joined
joined_same [] [] same = refl
joined_same [] (y ∷ ys) same = absurd (cc)
joined_same (x ∷ xs) [] same = absurd (cc)
joined_same (x ∷ xs) (y ∷ ys) same =
    let long : length x ≡ length y = cc in
    let behind : x ++ joined xs ≡ y ++ joined ys = cc in
    let first = split_same x y (joined xs) (joined ys) long behind in
    let here = first.0 in
    let more = joined_same xs ys first.1 in
    cc

number_same : (m n : Option ℕ) → list_of_number m ≡ list_of_number n → m ≡ n
number_same None None same = refl
number_same None (Some n) same = absurd (cc)
number_same (Some m) None same = absurd (cc)
number_same (Some m) (Some n) same = cc

list_same : (xs ys : Option (List ℕ)) → list_of_list xs ≡ list_of_list ys → xs ≡ ys
list_same None None same = refl
list_same None (Some ys) same = absurd (cc)
list_same (Some xs) None same = absurd (cc)
list_same (Some xs) (Some ys) same = cc

state_by : ℕ → Option (List ℕ) → List ℕ → List ℕ → List ℕ → Option ℕ → List ℕ → RoleState
state_by attaches name taken left put ended contents = record { attaches = attaches; name = name; taken = taken; left = left; put = put; ended = ended; contents = contents }

state_is : (s : RoleState) → state_by s.attaches s.name s.taken s.left s.put s.ended s.contents ≡ s
unfolding state_by
state_is s = refl

lists_same : (s t : RoleState) → lists_of s ≡ lists_of t → s ≡ t
lists_same s t same =
    let attaches : s.attaches ≡ t.attaches = cc in
    let name : s.name ≡ t.name = list_same s.name t.name cc in
    let taken : s.taken ≡ t.taken = cc in
    let left : s.left ≡ t.left = cc in
    let put : s.put ≡ t.put = cc in
    let ended : s.ended ≡ t.ended = number_same s.ended t.ended cc in
    let contents : s.contents ≡ t.contents = cc in
    let first = state_is s in
    let second = state_is t in
    cc

-- of two that are equal all three parts are
pub carried-same : (k l m n : ℕ) (s t : RoleState) → carried k s m ≡ carried l t n → (k ≡ l) × (s ≡ t) × (m ≡ n)
unfolding carried
carried-same k l m n s t same =
    let coded : joined (lists_of s) ≡ joined (lists_of t) = cc in
    let state = lists_same s t (joined_same (lists_of s) (lists_of t) coded) in
    ((cc), state, (cc))
