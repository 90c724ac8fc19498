-- A list of processes is a queue: a process is added at its end, and taken from its front.
use Rattle.std.proofs.Common.{◌≡◌, ℕ, ◌≤◌, ◌==◌, Bool, true, false, List, [], ◌∷◌, ◌++◌, Option, Some, refl, sym, ◌∙◌, ap, subst, arith, ne_eqb, eq-eqb, eqb-true}
use Rattle.long_names.specs.declared.value.Value.{Value}
use Rattle.long_names.specs.declared.value.Value.TheVariants.{Ref}
use Rattle.long_names.specs.Names.{NIL}
use Rattle.long_names.specs.Heap.{Heap}
use Rattle.blue_model.specs.declared.indexes.TheConstants.{FIRST_LINK_INDEX, LAST_LINK_INDEX, NEXT_LINK_INDEX, PRIORITY_INDEX, MY_LIST_INDEX}
use Rattle.blue_model.specs.Machine.{Machine, LogRow, Go, ◌>>=◌, ◌>>◌, done, known}
use Rattle.blue_model.specs.Contexts.{store_field}
use Rattle.blue_model.specs.Processes.{add, link_behind, take, empty_list, shorten}
use Rattle.blue_model.specs.Queues.{field_at, times_in, IsAmong, IsNotAmong, AllDifferent, first_of, last_of, HoldsLast, AreLinked, HasLinks, IsQueue, AreApart}
use Rattle.blue_model.proofs.ComesLaws.{Comes, comes_then, comes_done, comes_store_field, known_then, pick_true_then, pick_false_then, field_then, store_then, wrote, written-apart, written-here, written-other, written-beside, field_kept}
use Rattle.blue_model.proofs.NamesLaws.{same-apart, same-most, same-no, times-none, times-cons, names, not_first, first_differs, among_differs, different_rest, last_among, last_added}

-- ---- what is left alone

-- objects that aren't among these are as before, and so are registers, numbers and priorities
pub record Leaves (changed : List ℕ) (m s : Machine) : Type 0 where
  pub apart : (n : ℕ) → IsNotAmong n changed → s.heap.at n ≡ m.heap.at n
  pub priorities : (n : ℕ) → field_at s.heap n PRIORITY_INDEX ≡ field_at m.heap n PRIORITY_INDEX
  pub regs : s.regs ≡ m.regs
  pub cpu : s.cpu ≡ m.cpu

pub leaves_then : {changed : List ℕ} {m n s : Machine} → Leaves changed m n → Leaves changed n s → Leaves changed m s
leaves_then a b = record { apart = λ k no. b.apart k no ∙ a.apart k no; priorities = λ k. b.priorities k ∙ a.priorities k; regs = b.regs ∙ a.regs; cpu = b.cpu ∙ a.cpu }

pub leaves_wrote : {changed : List ℕ} (m : Machine) (n i : ℕ) (v : Value) → IsAmong n changed → (PRIORITY_INDEX == i) ≡ false → Leaves changed m (wrote m n i v)
leaves_wrote {changed} m n i v among e = record {
  apart = λ k no. written-apart m.heap n i v k (λ same. among_differs n k changed among no (sym same));
  priorities = λ k. written-beside m.heap n i v k PRIORITY_INDEX e;
  regs = refl;
  cpu = refl;
}

-- ---- links

linked_kept : (h k : Heap) (n : ℕ) (ns : List ℕ) → ((a : ℕ) → IsAmong a (n ∷ ns) → field_at k a NEXT_LINK_INDEX ≡ field_at h a NEXT_LINK_INDEX) → AreLinked h n ns → AreLinked k n ns
linked_kept h k n [] kept links = tt
linked_kept h k n (x ∷ xs) kept links = (kept n (omega (arith, names)) ∙ links.0, linked_kept h k x xs (λ a among. kept a (omega (arith, among, times-cons a n (x ∷ xs)))) links.1)

links_kept : (h k : Heap) (ns : List ℕ) → ((a : ℕ) → IsAmong a ns → field_at k a NEXT_LINK_INDEX ≡ field_at h a NEXT_LINK_INDEX) → HasLinks h ns → HasLinks k ns
links_kept h k [] kept links = tt
links_kept h k (x ∷ xs) kept links = linked_kept h k x xs kept links

-- a link more behind the last
linked_more : (h k : Heap) (n : ℕ) (ns : List ℕ) (p : ℕ) → AllDifferent (n ∷ ns) → ((a : ℕ) → (a ≡ last_of n ns → ⊥) → field_at k a NEXT_LINK_INDEX ≡ field_at h a NEXT_LINK_INDEX) → field_at k (last_of n ns) NEXT_LINK_INDEX ≡ Some (Ref p) → AreLinked h n ns → AreLinked k n (ns ++ p ∷ [])
linked_more h k n [] p once kept e links = (e, tt)
linked_more h k n (x ∷ xs) p once kept e links = (kept n (λ same. first_differs (last_of x xs) n (x ∷ xs) once (last_among x xs) (sym same)) ∙ links.0, linked_more h k x xs p (different_rest n (x ∷ xs) once) kept e links.1)

-- ---- queues

holds_kept : (x y : Option Value) (ns : List ℕ) → y ≡ x → HoldsLast x ns → HoldsLast y ns
holds_kept x y [] e holds = tt
holds_kept x y (n ∷ ns) e holds = e ∙ holds

-- it is a queue by the fields of links alone
pub queue_kept : (h k : Heap) (list : ℕ) (ns : List ℕ) → ((a : ℕ) → IsAmong a (list ∷ ns) → (field_at k a FIRST_LINK_INDEX ≡ field_at h a FIRST_LINK_INDEX) × (field_at k a LAST_LINK_INDEX ≡ field_at h a LAST_LINK_INDEX)) → IsQueue h list ns → IsQueue k list ns
queue_kept h k list ns kept q =
    let own = kept list (omega (arith, names)) in
    record {
      first = own.0 ∙ q.first;
      last = holds_kept (field_at h list LAST_LINK_INDEX) (field_at k list LAST_LINK_INDEX) ns own.1 q.last;
      links = links_kept h k ns (λ a among. (kept a (omega (arith, among, times-cons a list ns))).0) q.links;
      once = q.once;
      others = q.others;
    }

pub queue_left : {m s : Machine} {changed : List ℕ} (list : ℕ) (ns : List ℕ) → Leaves changed m s → AreApart (list ∷ ns) changed → IsQueue m.heap list ns → IsQueue s.heap list ns
queue_left {m} {s} list ns left apart q = queue_kept m.heap s.heap list ns (λ a among. let same = left.apart a (apart a among) in (field_kept m.heap s.heap a FIRST_LINK_INDEX same, field_kept m.heap s.heap a LAST_LINK_INDEX same)) q

-- ---- adding

-- the process stands behind the others
pub record Adds (m : Machine) (list p : ℕ) (ns : List ℕ) (s : Machine) : Type 0 where
  pub queue : IsQueue s.heap list (ns ++ p ∷ [])
  pub left : Leaves (list ∷ p ∷ ns) m s

once_more : (p : ℕ) (ns : List ℕ) → AllDifferent ns → IsNotAmong p ns → AllDifferent (ns ++ p ∷ [])
once_more p ns once out n = by (p == n) refl
  where
    by : (b : Bool) → (p == n) ≡ b → times_in n (ns ++ p ∷ []) ≤ 1
    by true e = let none : times_in n ns ≡ 0 = subst (λ x. times_in x ns ≡ 0) (eqb-true p n e) out in let most = same-most p n in omega (arith, names, none, most)
    by false e = let none = same-no p n e in let all = once n in omega (arith, names, none, all)

others_more : (p list : ℕ) (ns : List ℕ) → IsNotAmong NIL ns × IsNotAmong list ns → IsNotAmong p (NIL ∷ list ∷ []) → IsNotAmong NIL (ns ++ p ∷ []) × IsNotAmong list (ns ++ p ∷ [])
others_more p list ns others out = (more NIL others.0 (λ e. not_first p NIL (list ∷ []) out (sym e)), more list others.1 (λ e. not_first p list [] (omega (arith, out, times-cons p NIL (list ∷ []))) (sym e)))
  where
    more : (n : ℕ) → IsNotAmong n ns → (p ≡ n → ⊥) → IsNotAmong n (ns ++ p ∷ [])
    more n none apart = let no = same-apart p n apart in omega (arith, names, none, no)

-- to an empty list
adds_first : (m : Machine) (list p : ℕ) → IsNotAmong p (NIL ∷ list ∷ []) → (o1 : Value) → field_at m.heap list FIRST_LINK_INDEX ≡ Some o1 → (o2 : Value) → field_at (wrote m list FIRST_LINK_INDEX (Ref p)).heap list LAST_LINK_INDEX ≡ Some o2 → Adds m list p [] (wrote (wrote (wrote m list FIRST_LINK_INDEX (Ref p)) list LAST_LINK_INDEX (Ref p)) p MY_LIST_INDEX (Ref list))
adds_first m list p out o1 e1 o2 e2 =
    let m1 = wrote m list FIRST_LINK_INDEX (Ref p) in
    let m2 = wrote m1 list LAST_LINK_INDEX (Ref p) in
    record {
      queue = record {
        first = written-beside m2.heap p MY_LIST_INDEX (Ref list) list FIRST_LINK_INDEX refl ∙ written-beside m1.heap list LAST_LINK_INDEX (Ref p) list FIRST_LINK_INDEX refl ∙ written-here m.heap list FIRST_LINK_INDEX (Ref p) o1 e1;
        last = written-beside m2.heap p MY_LIST_INDEX (Ref list) list LAST_LINK_INDEX refl ∙ written-here m1.heap list LAST_LINK_INDEX (Ref p) o2 e2;
        links = tt;
        once = once_more p [] (λ n. omega (arith, names)) (times-none p);
        others = others_more p list [] (times-none NIL, times-none list) out;
      };
      left = leaves_then (leaves_wrote m list FIRST_LINK_INDEX (Ref p) (omega (arith, names)) refl) (leaves_then (leaves_wrote m1 list LAST_LINK_INDEX (Ref p) (omega (arith, names)) refl) (leaves_wrote m2 p MY_LIST_INDEX (Ref list) (omega (arith, names)) refl));
    }

-- to a list with processes
adds_last : (m : Machine) (list p n : ℕ) (ns : List ℕ) → IsQueue m.heap list (n ∷ ns) → IsNotAmong p (NIL ∷ list ∷ n ∷ ns) → (o1 : Value) → field_at m.heap (last_of n ns) NEXT_LINK_INDEX ≡ Some o1 → (o2 : Value) → field_at (wrote m (last_of n ns) NEXT_LINK_INDEX (Ref p)).heap list LAST_LINK_INDEX ≡ Some o2 → Adds m list p (n ∷ ns) (wrote (wrote (wrote m (last_of n ns) NEXT_LINK_INDEX (Ref p)) list LAST_LINK_INDEX (Ref p)) p MY_LIST_INDEX (Ref list))
adds_last m list p n ns q out o1 e1 o2 e2 =
    let last = last_of n ns in
    let m1 = wrote m last NEXT_LINK_INDEX (Ref p) in
    let m2 = wrote m1 list LAST_LINK_INDEX (Ref p) in
    let m3 = wrote m2 p MY_LIST_INDEX (Ref list) in
    let links : (a : ℕ) → field_at m3.heap a NEXT_LINK_INDEX ≡ field_at m1.heap a NEXT_LINK_INDEX = λ a. written-beside m2.heap p MY_LIST_INDEX (Ref list) a NEXT_LINK_INDEX refl ∙ written-beside m1.heap list LAST_LINK_INDEX (Ref p) a NEXT_LINK_INDEX refl in
    let among : IsAmong last (n ∷ ns) = last_among n ns in
    let first : Some (first_of ((n ∷ ns) ++ p ∷ [])) ≡ Some (Ref n) = refl in
    record {
      queue = record {
        first = links list ∙ written-other m.heap last NEXT_LINK_INDEX (Ref p) list NEXT_LINK_INDEX (λ e. among_differs last list (n ∷ ns) among q.others.1 (sym e)) ∙ q.first;
        last = written-beside m2.heap p MY_LIST_INDEX (Ref list) list LAST_LINK_INDEX refl ∙ written-here m1.heap list LAST_LINK_INDEX (Ref p) o2 e2 ∙ ap (λ x. Some (Ref x)) (sym (last_added n ns p));
        links = linked_more m.heap m3.heap n ns p q.once (λ a apart. links a ∙ written-other m.heap last NEXT_LINK_INDEX (Ref p) a NEXT_LINK_INDEX apart) (links last ∙ written-here m.heap last NEXT_LINK_INDEX (Ref p) o1 e1) q.links;
        once = once_more p (n ∷ ns) q.once (omega (arith, out, times-cons p NIL (list ∷ n ∷ ns), times-cons p list (n ∷ ns)));
        others = others_more p list (n ∷ ns) q.others (omega (arith, out, names));
      };
      left = leaves_then (leaves_wrote m last NEXT_LINK_INDEX (Ref p) (omega (arith, among, times-cons last list (p ∷ n ∷ ns), times-cons last p (n ∷ ns))) refl) (leaves_then (leaves_wrote m1 list LAST_LINK_INDEX (Ref p) (omega (arith, names)) refl) (leaves_wrote m2 p MY_LIST_INDEX (Ref list) (omega (arith, names)) refl));
    }

pub comes_add : {m : Machine} (list p : ℕ) (ns : List ℕ) → IsQueue m.heap list ns → IsNotAmong p (NIL ∷ list ∷ ns) → Comes m (add (Ref p) (Ref list)) (λ _ s. Adds m list p ns s)
unfolding add link_behind
comes_add {m} list p [] q out =
    field_then _ list 0 FIRST_LINK_INDEX (Ref NIL) q.first (
    pick_true_then _ _ _ refl (
    store_then _ list FIRST_LINK_INDEX (Ref p) (λ o1 e1.
    store_then _ list LAST_LINK_INDEX (Ref p) (λ o2 e2.
    comes_store_field p MY_LIST_INDEX (Ref list) (λ o3 e3.
    adds_first m list p out o1 e1 o2 e2)))))
comes_add {m} list p (n ∷ ns) q out =
    field_then _ list 0 FIRST_LINK_INDEX (Ref n) q.first (
    pick_false_then _ _ _ (ne_eqb n NIL (not_first NIL n ns q.others.0)) (
    comes_then {Q = λ _ s. ((o1 : Value) × (field_at m.heap (last_of n ns) NEXT_LINK_INDEX ≡ Some o1)) × (s ≡ wrote m (last_of n ns) NEXT_LINK_INDEX (Ref p))} _ (
    field_then _ list 0 LAST_LINK_INDEX (Ref (last_of n ns)) q.last (
    comes_store_field (last_of n ns) NEXT_LINK_INDEX (Ref p) (λ o1 e1. ((o1, e1), refl)))) (λ _ s both.
    subst (λ x. Comes x (store_field (Ref list) LAST_LINK_INDEX (Ref p) >> store_field (Ref p) MY_LIST_INDEX (Ref list)) (λ _ s. Adds m list p (n ∷ ns) s)) (sym both.1) (
    store_then _ list LAST_LINK_INDEX (Ref p) (λ o2 e2.
    comes_store_field p MY_LIST_INDEX (Ref list) (λ o3 e3.
    adds_last m list p n ns q out both.0.0 both.0.1 o2 e2))))))

-- ---- taking

-- the first process is taken
pub record Takes (m : Machine) (list p : ℕ) (ns : List ℕ) (s : Machine) : Type 0 where
  pub queue : IsQueue s.heap list ns
  pub left : Leaves (list ∷ p ∷ []) m s

-- off a list with no other
takes_last : (m : Machine) (list p : ℕ) → IsQueue m.heap list (p ∷ []) → Takes m list p [] (wrote (wrote (wrote m list FIRST_LINK_INDEX (Ref NIL)) list LAST_LINK_INDEX (Ref NIL)) p NEXT_LINK_INDEX (Ref NIL))
takes_last m list p q =
    let m1 = wrote m list FIRST_LINK_INDEX (Ref NIL) in
    let m2 = wrote m1 list LAST_LINK_INDEX (Ref NIL) in
    record {
      queue = record {
        first = written-other m2.heap p NEXT_LINK_INDEX (Ref NIL) list FIRST_LINK_INDEX (λ e. not_first list p [] q.others.1 (sym e)) ∙ written-beside m1.heap list LAST_LINK_INDEX (Ref NIL) list FIRST_LINK_INDEX refl ∙ written-here m.heap list FIRST_LINK_INDEX (Ref NIL) (Ref p) q.first;
        last = tt;
        links = tt;
        once = λ n. omega (arith, names);
        others = (times-none NIL, times-none list);
      };
      left = leaves_then (leaves_wrote m list FIRST_LINK_INDEX (Ref NIL) (omega (arith, names)) refl) (leaves_then (leaves_wrote m1 list LAST_LINK_INDEX (Ref NIL) (omega (arith, names)) refl) (leaves_wrote m2 p NEXT_LINK_INDEX (Ref NIL) (omega (arith, names)) refl));
    }

-- off a list with others behind it
takes_first : (m : Machine) (list p x : ℕ) (xs : List ℕ) → IsQueue m.heap list (p ∷ x ∷ xs) → Takes m list p (x ∷ xs) (wrote (wrote m list FIRST_LINK_INDEX (Ref x)) p NEXT_LINK_INDEX (Ref NIL))
takes_first m list p x xs q =
    let m1 = wrote m list FIRST_LINK_INDEX (Ref x) in
    let m2 = wrote m1 p NEXT_LINK_INDEX (Ref NIL) in
    record {
      queue = record {
        first = written-other m1.heap p NEXT_LINK_INDEX (Ref NIL) list FIRST_LINK_INDEX (λ e. not_first list p (x ∷ xs) q.others.1 (sym e)) ∙ written-here m.heap list FIRST_LINK_INDEX (Ref x) (Ref p) q.first;
        last = written-beside m1.heap p NEXT_LINK_INDEX (Ref NIL) list LAST_LINK_INDEX refl ∙ written-beside m.heap list FIRST_LINK_INDEX (Ref x) list LAST_LINK_INDEX refl ∙ q.last;
        links = links_kept m.heap m2.heap (x ∷ xs) (λ a among. written-other m1.heap p NEXT_LINK_INDEX (Ref NIL) a NEXT_LINK_INDEX (first_differs a p (x ∷ xs) q.once among) ∙ written-other m.heap list FIRST_LINK_INDEX (Ref x) a NEXT_LINK_INDEX (among_differs a list (x ∷ xs) among (omega (arith, q.others.1, times-cons list p (x ∷ xs))))) q.links.1;
        once = different_rest p (x ∷ xs) q.once;
        others = (omega (arith, q.others.0, times-cons NIL p (x ∷ xs)), omega (arith, q.others.1, times-cons list p (x ∷ xs)));
      };
      left = leaves_then (leaves_wrote m list FIRST_LINK_INDEX (Ref x) (omega (arith, names)) refl) (leaves_wrote m1 p NEXT_LINK_INDEX (Ref NIL) (omega (arith, names)) refl);
    }

pub comes_take : {m : Machine} (list p : ℕ) (ns : List ℕ) → IsQueue m.heap list (p ∷ ns) → Comes m (take (Ref list)) (λ v s. (v ≡ Ref p) × Takes m list p ns s)
unfolding take empty_list shorten
comes_take {m} list p [] q =
    field_then _ list 0 FIRST_LINK_INDEX (Ref p) q.first (
    field_then _ list 0 LAST_LINK_INDEX (Ref p) q.last (
    pick_true_then _ _ _ (eq-eqb p p refl) (
    comes_then {Q = λ _ s. s ≡ wrote (wrote m list FIRST_LINK_INDEX (Ref NIL)) list LAST_LINK_INDEX (Ref NIL)} _ (
    known_then _ NIL (store_then _ list FIRST_LINK_INDEX (Ref NIL) (λ o1 e1. comes_store_field list LAST_LINK_INDEX (Ref NIL) (λ o2 e2. refl)))) (λ _ s same.
    subst (λ x. Comes x (known NIL >>= λ nil. store_field (Ref p) NEXT_LINK_INDEX nil >> done (Ref p)) (λ v s. (v ≡ Ref p) × Takes m list p [] s)) (sym same) (
    known_then _ NIL (
    store_then _ p NEXT_LINK_INDEX (Ref NIL) (λ o3 e3.
    comes_done (Ref p) (refl, takes_last m list p q))))))))
comes_take {m} list p (x ∷ xs) q =
    field_then _ list 0 FIRST_LINK_INDEX (Ref p) q.first (
    field_then _ list 0 LAST_LINK_INDEX (Ref (last_of x xs)) q.last (
    pick_false_then _ _ _ (ne_eqb p (last_of x xs) (λ e. first_differs (last_of x xs) p (x ∷ xs) q.once (last_among x xs) (sym e))) (
    comes_then {Q = λ _ s. s ≡ wrote m list FIRST_LINK_INDEX (Ref x)} _ (
    field_then _ p 0 NEXT_LINK_INDEX (Ref x) q.links.0 (comes_store_field list FIRST_LINK_INDEX (Ref x) (λ o1 e1. refl))) (λ _ s same.
    subst (λ n. Comes n (known NIL >>= λ nil. store_field (Ref p) NEXT_LINK_INDEX nil >> done (Ref p)) (λ v s. (v ≡ Ref p) × Takes m list p (x ∷ xs) s)) (sym same) (
    known_then _ NIL (
    store_then _ p NEXT_LINK_INDEX (Ref NIL) (λ o3 e3.
    comes_done (Ref p) (refl, takes_first m list p x xs q))))))))

-- ---- the laws

pub adds_behind : (m s : Machine) (list p : ℕ) (ns : List ℕ) (log : List LogRow) → IsQueue m.heap list ns → IsNotAmong p (NIL ∷ list ∷ ns) → add (Ref p) (Ref list) m ≡ Go tt s log → IsQueue s.heap list (ns ++ p ∷ [])
adds_behind m s list p ns log q out e = ((comes_add list p ns q out).to tt s log e).queue

pub takes_front : (m s : Machine) (list p : ℕ) (ns : List ℕ) (v : Value) (log : List LogRow) → IsQueue m.heap list (p ∷ ns) → take (Ref list) m ≡ Go v s log → (v ≡ Ref p) × IsQueue s.heap list ns
takes_front m s list p ns v log q e = let both = (comes_take list p ns q).to v s log e in (both.0, both.1.queue)

pub add_leaves : (m s : Machine) (list p : ℕ) (ns : List ℕ) (other : ℕ) (others : List ℕ) (log : List LogRow) → IsQueue m.heap list ns → IsNotAmong p (NIL ∷ list ∷ ns) → AreApart (other ∷ others) (list ∷ p ∷ ns) → add (Ref p) (Ref list) m ≡ Go tt s log → IsQueue m.heap other others → IsQueue s.heap other others
add_leaves m s list p ns other others log q out apart e = queue_left other others ((comes_add list p ns q out).to tt s log e).left apart

pub take_leaves : (m s : Machine) (list p : ℕ) (ns : List ℕ) (other : ℕ) (others : List ℕ) (v : Value) (log : List LogRow) → IsQueue m.heap list (p ∷ ns) → AreApart (other ∷ others) (list ∷ p ∷ ns) → take (Ref list) m ≡ Go v s log → IsQueue m.heap other others → IsQueue s.heap other others
take_leaves m s list p ns other others v log q apart e = queue_left other others ((comes_take list p ns q).to v s log e).1.left (λ n among. let out = apart n among in omega (arith, out, names))
