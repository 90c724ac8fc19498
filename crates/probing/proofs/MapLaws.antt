-- Laws of the map that slots stand for: f and g are their names, x and y the values in them.
-- A table is its names, a function on numbers, and its values are a second function, so laws of searches never see a slot. A
-- crate's slot comes in by `Puts` over whole slots, and `puts-part` gives the names and the values. Adding and setting are one
-- law (`put_looked_up`: none or the same name stood there). A removal is stated by `looked_up`, and `closed_map` makes it an
-- equation of maps.
use Rattle.std.proofs.Common.{◌≡◌, ◌≢◌, ℕ, zero, suc, ◌+◌, ◌<◌, ◌⊎◌, ◌==◌, [], ◌∷◌, Bool, true, false, cond, refl, sym, ap, ◌∙◌, arith, inl, inr, Option, Some, None}
use Rattle.std.proofs.lemmas.Bool.Decides.{nat_tests}
use Rattle.std.specs.Ordering.{nat_cmp, eq_by_cmp}
use Rattle.std.specs.Cmp.{nat_cmp_total}
use Rattle.std.specs.FinMap as map
use Rattle.std.specs.FinMap.{find, nat_cmp-IsAntisymmetric}
use Rattle.std.specs.Option.{is_some}
use Rattle.probing.specs.Table.{IsTable, used, looked_up, used_slots, map_of}
use Rattle.probing.specs.Search.{IsVacancy, Puts}
use Rattle.probing.proofs.TableLaws.{absent, not_named, equal_or_not, used-suc, used-zero}

tied : (a b : ℕ) → eq_by_cmp nat_cmp a b ≡ (a == b)
tied a b = grind (arith, nat_tests)

swapped_test : (a b : ℕ) → (a == b) ≡ (b == a)
swapped_test a b = grind (arith, nat_tests)

module _ {A : Type 0} where
  -- ---- what is looked up

  looked_up-zero : (f : ℕ → ℕ) (x : ℕ → A) (name : ℕ) → looked_up f x zero name ≡ None
  unfolding looked_up
  looked_up-zero f x name = refl

  looked_up-suc : (f : ℕ → ℕ) (x : ℕ → A) (n name : ℕ) (b : Bool) → (f n == name) ≡ b
      → looked_up f x (suc n) name ≡ cond b (Some (x n)) (looked_up f x n name)
  unfolding looked_up
  looked_up-suc f x n name b e = rw e refl

  pub looked_up_none : (f : ℕ → ℕ) (x : ℕ → A) (n name : ℕ) → ((i : ℕ) → i < n → f i ≢ name) → looked_up f x n name ≡ None
  looked_up_none f x zero name h = looked_up-zero f x name
  looked_up_none f x (suc n) name h =
      let other : (f n == name) ≡ false = let ne = h n (omega arith) in grind (arith, nat_tests) in
      looked_up-suc f x n name false other ∙ looked_up_none f x n name (λ i l. h i (omega arith))

  pub looked_up_some : (f : ℕ → ℕ) (x : ℕ → A) (n name i : ℕ) → i < n → f i ≡ name → ((j : ℕ) → j < n → f j ≡ name → j ≡ i)
      → looked_up f x n name ≡ Some (x i)
  looked_up_some f x zero name i l is only = absurd (omega arith)
  looked_up_some f x (suc n) name i l is only = by_name (f n == name) refl
      (λ m. looked_up_some f x n name i m is (λ j k e. only j (omega arith) e)) where
        by_name : (b : Bool) → (f n == name) ≡ b → (i < n → looked_up f x n name ≡ Some (x i)) → looked_up f x (suc n) name ≡ Some (x i)
        by_name true e rest =
            let same : f n ≡ name = grind (arith, nat_tests) in
            looked_up-suc f x n name true e ∙ ap (λ j. Some (x j)) (only n (omega arith) same)
        by_name false e rest =
            let ne : i ≢ n = λ at. not_named (f n) name e (ap f (sym at) ∙ is) in
            looked_up-suc f x n name false e ∙ rest (omega arith)

  pub looked_up-same : (f g : ℕ → ℕ) (x y : ℕ → A) (n name : ℕ)
      → ((i : ℕ) → i < n → ((g i ≡ f i) × (y i ≡ x i)) ⊎ ((g i ≢ name) × (f i ≢ name))) → looked_up g y n name ≡ looked_up f x n name
  unfolding looked_up
  looked_up-same f g x y zero name h = refl
  looked_up-same f g x y (suc n) name h = by_slot (h n (omega arith)) (looked_up-same f g x y n name (λ i l. h i (omega arith))) where
    by_slot : ((g n ≡ f n) × (y n ≡ x n)) ⊎ ((g n ≢ name) × (f n ≢ name)) → looked_up g y n name ≡ looked_up f x n name
        → cond (g n == name) (Some (y n)) (looked_up g y n name) ≡ cond (f n == name) (Some (x n)) (looked_up f x n name)
    by_slot (inl (a, b)) rest = rw (a, b, rest) refl
    by_slot (inr (a, b)) rest =
        let p : (g n == name) ≡ false = grind (arith, nat_tests) in
        let q : (f n == name) ≡ false = grind (arith, nat_tests) in
        rw (p, q) rest

  pub looked_up_held : {homes : ℕ → ℕ → ℕ} (f : ℕ → ℕ) (x : ℕ → A) (n count name at : ℕ) → IsTable homes f n count → name ≢ 0 → at < n → f at ≡ name
      → looked_up f x n name ≡ Some (x at)
  looked_up_held f x n count name at t some l is =
      looked_up_some f x n name at l is (λ j m same. t.distinct j at m l (λ nought. some (sym same ∙ nought)) (same ∙ sym is))

  pub looked_up_vacant : {homes : ℕ → ℕ → ℕ} → ((name n : ℕ) → 0 < n → homes name n < n) → (f : ℕ → ℕ) (x : ℕ → A) (n count name at : ℕ) → IsTable homes f n count → name ≢ 0 → IsVacancy homes f n name at
      → looked_up f x n name ≡ None
  looked_up_vacant below f x n count name at t some v = looked_up_none f x n name (absent below f n count name at t some v)

  -- where a value is found
  pub held_at : (f : ℕ → ℕ) (x : ℕ → A) (n name : ℕ) (value : A) → looked_up f x n name ≡ Some value
      → (i : ℕ) × (i < n) × (f i ≡ name) × (x i ≡ value)
  held_at f x zero name value is = absurd (let no : ◌≡◌ {A = Option A} None (Some value) = sym (looked_up-zero f x name) ∙ is in cc no)
  held_at f x (suc n) name value is = by_name (f n == name) refl (held_at f x n name value) where
    by_name : (b : Bool) → (f n == name) ≡ b → (looked_up f x n name ≡ Some value → (i : ℕ) × (i < n) × (f i ≡ name) × (x i ≡ value))
        → (i : ℕ) × (i < suc n) × (f i ≡ name) × (x i ≡ value)
    by_name true t rest =
        let some : ◌≡◌ {A = Option A} (Some (x n)) (Some value) = sym (looked_up-suc f x n name true t) ∙ is in
        (n, omega arith, grind (arith, nat_tests), cc some)
    by_name false t rest = let r = rest (sym (looked_up-suc f x n name false t) ∙ is) in (r.0, omega arith, r.2, r.3)

  -- ---- what the map has at a name

  find-used : (f : ℕ → ℕ) (x : ℕ → A) (n name : ℕ) → name ≢ 0 → find nat_cmp name (used_slots f x n) ≡ looked_up f x n name
  unfolding looked_up
  find-used f x zero name some = refl
  find-used f x (suc n) name some = by_empty (f n == 0) refl (find-used f x n name some) where
    by_empty : (b : Bool) → (f n == 0) ≡ b → find nat_cmp name (used_slots f x n) ≡ looked_up f x n name
        → find nat_cmp name (cond b (used_slots f x n) ((f n, x n) ∷ used_slots f x n))
        ≡ cond (f n == name) (Some (x n)) (looked_up f x n name)
    by_empty true e rest = let other : (f n == name) ≡ false = grind (arith, nat_tests) in rw other rest
    by_empty false e rest = rw (tied name (f n), swapped_test name (f n), rest) refl

  pub get-map_of : (f : ℕ → ℕ) (x : ℕ → A) (n name : ℕ) → name ≢ 0 → map.get (map_of f x n) name ≡ looked_up f x n name
  unfolding map_of
  get-map_of f x n name some = map.get-from_entries nat_cmp_total (used_slots f x n) name ∙ find-used f x n name some

  -- no value has the name 0
  pub get-map_of-zero : (f : ℕ → ℕ) (x : ℕ → A) (n : ℕ) → map.get (map_of f x n) 0 ≡ None
  unfolding map_of
  get-map_of-zero f x n = map.get-from_entries nat_cmp_total (used_slots f x n) 0 ∙ none n where
    by_empty : (m : ℕ) (b : Bool) → (f m == 0) ≡ b → find nat_cmp 0 (used_slots f x m) ≡ None
        → find nat_cmp 0 (cond b (used_slots f x m) ((f m, x m) ∷ used_slots f x m)) ≡ None
    by_empty m true e rest = rest
    by_empty m false e rest = rw (tied 0 (f m), swapped_test 0 (f m), e) rest

    none : (m : ℕ) → find nat_cmp 0 (used_slots f x m) ≡ None
    none zero = refl
    none (suc m) = by_empty m (f m == 0) refl (none m)

  pub get-map_of_held : {homes : ℕ → ℕ → ℕ} (f : ℕ → ℕ) (x : ℕ → A) (n count name at : ℕ) → IsTable homes f n count → name ≢ 0 → at < n → f at ≡ name
      → map.get (map_of f x n) name ≡ Some (x at)
  get-map_of_held f x n count name at t some l is = get-map_of f x n name some ∙ looked_up_held f x n count name at t some l is

  pub get-map_of_vacant : {homes : ℕ → ℕ → ℕ} → ((name n : ℕ) → 0 < n → homes name n < n) → (f : ℕ → ℕ) (x : ℕ → A) (n count name at : ℕ) → IsTable homes f n count → name ≢ 0 → IsVacancy homes f n name at
      → map.get (map_of f x n) name ≡ None
  get-map_of_vacant below f x n count name at t some v = get-map_of f x n name some ∙ looked_up_vacant below f x n count name at t some v

  -- the map is a matter of the first n slots
  pub map_of-same : (f g : ℕ → ℕ) (x y : ℕ → A) (n : ℕ) → ((j : ℕ) → j < n → g j ≡ f j) → ((j : ℕ) → j < n → y j ≡ x j)
      → map_of g y n ≡ map_of f x n
  unfolding map_of
  map_of-same f g x y n names values = ap map.from_entries (entries n (λ j l. names j l) (λ j l. values j l)) where
    entries : (m : ℕ) → ((j : ℕ) → j < m → g j ≡ f j) → ((j : ℕ) → j < m → y j ≡ x j) → used_slots g y m ≡ used_slots f x m
    entries zero a b = refl
    entries (suc m) a b = rw (a m (omega arith), b m (omega arith), entries m (λ j l. a j (omega arith)) (λ j l. b j (omega arith))) refl

  pub empty_map : (f : ℕ → ℕ) (x : ℕ → A) (n : ℕ) → ((i : ℕ) → f i ≡ 0) → map_of f x n ≡ map.empty
  unfolding map_of
  empty_map f x n empty = ap map.from_entries (none n) where
    none : (m : ℕ) → used_slots f x m ≡ []
    none zero = refl
    none (suc m) = rw (empty m) (none m)

  -- ---- a name and a value that are put, where no name or the same stood

  module _ {homes : ℕ → ℕ → ℕ} (f g : ℕ → ℕ) (x y : ℕ → A) (n count at key : ℕ) (value : A) (t : IsTable homes g n count) (some : key ≢ 0) (within : at < n)
      (stood : (f at ≡ 0) ⊎ (f at ≡ key)) (p : Puts f g n at key) (q : Puts x y n at value) where
    pub put_looked_up : (name : ℕ) → name ≢ 0 → looked_up g y n name ≡ cond (name == key) (Some value) (looked_up f x n name)
    put_looked_up name named = by_name (equal_or_not name key) where
      not_there : (f at ≡ 0) ⊎ (f at ≡ key) → name ≢ key → f at ≢ name
      not_there (inl empty) other e = named (sym e ∙ empty)
      not_there (inr is) other e = other (sym e ∙ is)

      by_place : name ≢ key → (i : ℕ) → i < n → (i ≡ at) ⊎ (i ≢ at) → ((g i ≡ f i) × (y i ≡ x i)) ⊎ ((g i ≢ name) × (f i ≢ name))
      by_place other i l (inl is) = inr
          ((λ e. other (sym e ∙ ap g is ∙ p.here)), (λ e. not_there stood other (ap f (sym is) ∙ e)))
      by_place other i l (inr away) = inl (p.others i l away, q.others i l away)

      by_name : (name ≡ key) ⊎ (name ≢ key) → looked_up g y n name ≡ cond (name == key) (Some value) (looked_up f x n name)
      by_name (inl same) =
          let test : (name == key) ≡ true = grind (arith, nat_tests) in
          rw test (looked_up_held g y n count name at t named within (p.here ∙ sym same) ∙ ap Some q.here)
      by_name (inr other) =
          let test : (name == key) ≡ false = grind (arith, nat_tests) in
          rw test (looked_up-same f g x y n name (λ i l. by_place other i l (equal_or_not i at)))

    pub put_map : map_of g y n ≡ map.insert (map_of f x n) key value
    put_map = map.same_map nat_cmp_total nat_cmp-IsAntisymmetric _ _ (λ name. by_name name (equal_or_not name 0)) where
      inserted : (name : ℕ) (b : Bool) → (name == key) ≡ b
          → map.get (map.insert (map_of f x n) key value) name ≡ cond b (Some value) (map.get (map_of f x n) name)
      inserted name b e = map.get-insert nat_cmp_total (map_of f x n) key value name
          ∙ ap (λ c. cond c (Some value) (map.get (map_of f x n) name)) (tied name key ∙ e)

      by_name : (name : ℕ) → (name ≡ 0) ⊎ (name ≢ 0) → map.get (map_of g y n) name ≡ map.get (map.insert (map_of f x n) key value) name
      by_name name (inl nought) =
          rw nought (get-map_of-zero g y n ∙ sym (get-map_of-zero f x n) ∙ sym (inserted 0 false (grind (arith, nat_tests))))
      by_name name (inr named) =
          get-map_of g y n name named
          ∙ put_looked_up name named
          ∙ ap (cond (name == key) (Some value)) (sym (get-map_of f x n name named))
          ∙ sym (inserted name (name == key) refl)

  -- ---- a name that is taken out

  pub removed_map : (f g : ℕ → ℕ) (x y : ℕ → A) (n key : ℕ)
      → ((name : ℕ) → name ≢ 0 → looked_up g y n name ≡ cond (name == key) None (looked_up f x n name))
      → map_of g y n ≡ map.remove (map_of f x n) key
  removed_map f g x y n key looks = map.same_map nat_cmp_total nat_cmp-IsAntisymmetric _ _ (λ name. by_name name (equal_or_not name 0)) where
    removed : (name : ℕ) → map.get (map.remove (map_of f x n) key) name ≡ cond (name == key) None (map.get (map_of f x n) name)
    removed name = map.get-remove nat_cmp_total (map_of f x n) key name
        ∙ ap (λ c. cond c None (map.get (map_of f x n) name)) (tied name key)

    either : (b : Bool) → cond {A = Option A} b None None ≡ None
    either true = refl
    either false = refl

    by_name : (name : ℕ) → (name ≡ 0) ⊎ (name ≢ 0) → map.get (map_of g y n) name ≡ map.get (map.remove (map_of f x n) key) name
    by_name name (inl nought) =
        rw nought (get-map_of-zero g y n ∙ sym (removed 0 ∙ ap (cond (0 == key) None) (get-map_of-zero f x n) ∙ either (0 == key)))
    by_name name (inr named) =
        get-map_of g y n name named ∙ looks name named ∙ sym (removed name ∙ ap (cond (name == key) None) (get-map_of f x n name named))

  -- ---- how many names it has

  map_of-zero : (f : ℕ → ℕ) (x : ℕ → A) → map_of f x zero ≡ map.empty
  unfolding map_of
  map_of-zero f x = refl

  map_of-suc : (f : ℕ → ℕ) (x : ℕ → A) (n : ℕ) (b : Bool) → (f n == 0) ≡ b
      → map_of f x (suc n) ≡ cond b (map_of f x n) (map.insert (map_of f x n) (f n) (x n))
  unfolding map_of
  map_of-suc f x n true e = rw e refl
  map_of-suc f x n false e = rw e refl

  -- as many as slots are used, where no name is there twice
  pub len-map_of : (f : ℕ → ℕ) (x : ℕ → A) (n : ℕ) → ((i j : ℕ) → i < n → j < n → f i ≢ 0 → f i ≡ f j → i ≡ j)
      → map.len (map_of f x n) ≡ used f n
  len-map_of f x zero h = ap map.len (map_of-zero f x) ∙ map.len-empty nat_cmp A ∙ sym (used-zero f)
  len-map_of f x (suc n) h = by_name (f n == 0) refl (len-map_of f x n (λ i j l m. h i j (omega arith) (omega arith))) where
    by_name : (b : Bool) → (f n == 0) ≡ b → map.len (map_of f x n) ≡ used f n → map.len (map_of f x (suc n)) ≡ used f (suc n)
    by_name true e rest = ap map.len (map_of-suc f x n true e) ∙ rest ∙ (let a = used-suc f n true e in omega (arith, a))
    by_name false e rest =
        let named : f n ≢ 0 = not_named (f n) 0 e in
        let none = get-map_of f x n (f n) named ∙ looked_up_none f x n (f n)
        (λ i l same. (let is : i ≡ n = h i n (omega arith) (omega arith) (λ nought. named (sym same ∙ nought)) same in omega arith)) in
        let new : map.contains_key (map_of f x n) (f n) ≡ false = ap is_some none in
        let one = map.len-insert nat_cmp_total (map_of f x n) (f n) (x n)
        ∙ ap (λ b. cond b (map.len (map_of f x n)) (map.len (map_of f x n) + 1)) new in
        let count = used-suc f n false e in
        let is = ap map.len (map_of-suc f x n false e) in
        omega (arith, rest, one, count, is)
