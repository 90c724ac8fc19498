-- The first object that is called so.
use Rattle.std.proofs.Common.{◌≡◌, ℕ, suc, ◌+◌, ◌<◌, ◌≤◌, Bool, true, false, cond, eqb, List, [], ◌∷◌, length, drop, get_or, Option, Some, None, IfSome, IsTrue, is_some, refl, sym, ap, ◌∙◌, add-one, drop-cons, arith}
use Rattle.std.proofs.lemmas.Bool.{eq-eqb}
use Rattle.std.proofs.lemmas.List.{drop_all}
use Rattle.long_names.specs.declared.object.Rec.{Rec}
use Rattle.image_format.specs.Rules.{rec_in}
use Rattle.st80_view.specs.Names.{first_called, is_class_called}

-- the next one is it, or the first behind it
pub called_next : (all l : List Rec) (text : List ℕ) (i : ℕ) (r : Rec) → i < length l → r ≡ get_or l i r → first_called all text (drop i l) ≡ cond (is_class_called all r.name text) (Some r.name) (first_called all text (drop (i + 1) l))
called_next all l text i r lt is =
    ap (first_called all text) (drop-cons l i r lt ∙ ap (λ (x : Rec). x ∷ drop (suc i) l) (sym is))
    ∙ ap (λ (k : ℕ). cond (is_class_called all r.name text) (Some r.name) (first_called all text (drop k l))) (sym (add-one i))

pub called_here : (all l : List Rec) (text : List ℕ) (i : ℕ) (r : Rec) (b : Bool) → i < length l → r ≡ get_or l i r → b ≡ is_class_called all r.name text → b ≡ true → first_called all text l ≡ first_called all text (drop i l) → Some r.name ≡ first_called all text l
called_here all l text i r b lt is test holds so_far =
    sym (so_far ∙ called_next all l text i r lt is ∙ ap (λ (b : Bool). cond b (Some r.name) (first_called all text (drop (i + 1) l))) (sym test ∙ holds))

pub called_later : (all l : List Rec) (text : List ℕ) (i : ℕ) (r : Rec) (b : Bool) → i < length l → r ≡ get_or l i r → b ≡ is_class_called all r.name text → b ≡ false → first_called all text l ≡ first_called all text (drop i l) → first_called all text l ≡ first_called all text (drop (i + 1) l)
called_later all l text i r b lt is test fails so_far =
    so_far ∙ called_next all l text i r lt is ∙ ap (λ (b : Bool). cond b (Some r.name) (first_called all text (drop (i + 1) l))) (sym test ∙ fails)

either : (b : Bool) (x : Rec) (rest : Option Rec) → is_some rest ≡ true → is_some (cond b (Some x) rest) ≡ true
either true x rest e = refl
either false x rest e = e

-- it is an object
pub called_there : (all l : List Rec) (text : List ℕ) (n : ℕ) → first_called all text l ≡ Some n → is_some (rec_in l n) ≡ true
called_there all [] text n e = let clash : ◌≡◌ {A = Option ℕ} None (Some n) = e in absurd (cc)
called_there all (x ∷ l) text n e = go (is_class_called all x.name text) refl (called_there all l text n)
  where
    go : (b : Bool) → is_class_called all x.name text ≡ b → (first_called all text l ≡ Some n → is_some (rec_in l n) ≡ true) → is_some (rec_in (x ∷ l) n) ≡ true
    go true t behind =
        let here : ◌≡◌ {A = Option ℕ} (Some x.name) (Some n) = sym (ap (λ (b : Bool). cond b (Some x.name) (first_called all text l)) t) ∙ e in
        let same : x.name ≡ n = cc in
        ap (λ (b : Bool). is_some (cond b (Some x) (rec_in l n))) (eq-eqb _ _ same)
    go false t behind = either (eqb x.name n) x (rec_in l n) (behind (sym (ap (λ (b : Bool). cond b (Some x.name) (first_called all text l)) t) ∙ e))

-- no object is
pub called_none : (all l : List Rec) (text : List ℕ) (i : ℕ) → length l ≤ i → first_called all text l ≡ first_called all text (drop i l) → None ≡ first_called all text l
called_none all l text i end so_far = sym (so_far ∙ ap (first_called all text) (drop_all i l end))

pub called_some : (all : List Rec) (text : List ℕ) (found : Option ℕ) → found ≡ first_called all text all → IfSome found (λ n. IsTrue (is_some (rec_in all n)))
called_some all text None is = tt
called_some all text (Some n) is = called_there all all text n (sym is)
