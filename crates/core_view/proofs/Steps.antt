-- Steps one after another; references, leaves and the mark of a change as single steps.
-- All laws of this crate are over `Core`, a record of functions, and never see a table or a segment. References are counted by
-- difference: a step says `outside new t + a ≡ outside old t + b`, with no subtraction in a clause. What a call keeps is said
-- for every disk (`Stays`, `KeepsRecord` of leaf_lambda); a caller chooses the disk once, at its end.
use Rattle.std.proofs.Common.{◌≡◌, ◌≢◌, ℕ, ◌+◌, ◌-◌, ◌<◌, ◌≤◌, Bool, true, false, ◌∷◌, refl, sym, ◌∙◌, ap, subst, arith, ⊎_elim, Option, Some, None, count_by}
use Rattle.std.proofs.lemmas.Bool.{cases_eq}
use Rattle.object_table.specs.declared.entry.Entry.{Entry}
use Rattle.object_table.specs.Entries.{put, is_used, place_of, leaf_entry, free_entry, with_refs}
use Rattle.core_segment.specs.Chunks.{Chunk}
use Rattle.core_view.specs.Core.{Core, with_entry, with_leaf, without_leaf}
use Rattle.core_view.specs.Words.{pointers}
use Rattle.core_view.specs.Held.{Disk}
use Rattle.core_view.specs.Counts.{names, one, holders_in, holders, tally, uses, outside, change_by, change_of}
use Rattle.core_view.specs.Kept.{IsCore, IsBacked, Keeps, Stays}
use Rattle.core_view.specs.Steps.{IsSpare, IsIdle, marked_changed, with_refs_of, with_mark, IsRefStep, IsAbout}
use Rattle.core_view.proofs.Lists.{put-here, put-there, one-here, one-other, tally-put}
use Rattle.core_view.proofs.Core.{placed-used}
use Rattle.core_view.proofs.Entries.{IsStep, at-entry, step-core, step-outside, touch-step, touch-held, touch-backed}
use Rattle.core_view.proofs.Leaves.{leaf-held, leaf-backed, idle-held, idle-backed}

-- ---- one after another

pub Keeps-refl : (disk : Disk) (c : Core) → IsBacked c disk → Keeps disk c c
Keeps-refl disk c backed = record { backed = backed; held = refl }

pub Keeps-trans : (disk : Disk) (a b c : Core) → Keeps disk a b → Keeps disk b c → Keeps disk a c
Keeps-trans disk a b c x y = record { backed = y.backed; held = y.held ∙ x.held }

pub Stays-trans : (a b c : Core) → Stays a b → Stays b c → Stays a c
Stays-trans a b c x y disk backed = Keeps-trans disk a b c (x disk backed) (y disk (x disk backed).backed)

pub Stays-refl : (c : Core) → Stays c c
Stays-refl c disk backed = Keeps-refl disk c backed

pub RefStep-refl : (c : Core) → IsRefStep c c
RefStep-refl c = record { bound = refl; chunks = refl; bodies = λ q p at. refl; leaves = λ q e. e }

pub RefStep-trans : (a b c : Core) → IsRefStep a b → IsRefStep b c → IsRefStep a c
RefStep-trans a b c x y = record { bound = y.bound ∙ x.bound; chunks = y.chunks ∙ x.chunks; bodies = λ q p at. go q p at; leaves = λ q e. y.leaves q (x.leaves q e) }
  where
    go : (q p : ℕ) → place_of (a.entries q).state ≡ Some p → c.entries q ≡ with_refs (a.entries q) (c.entries q).refs
    go q p at =
        let first = x.bodies q p at in
        let there : place_of (b.entries q).state ≡ Some p = ap (λ (e : Entry). place_of e.state) first ∙ at in
        y.bodies q p there ∙ ap (λ (e : Entry). with_refs e (c.entries q).refs) first

-- ---- one more reference, or one fewer

pub refs-core : (c : Core) (s r : ℕ) → IsCore c → is_used (c.entries s).state ≡ true → uses c s ≤ r → IsCore (with_refs_of c s r)
refs-core c s r core used most = step-core c s (with_refs (c.entries s) r) core (touch-step c s r (c.entries s).change (c.entries s).flags core used most)

pub refs-stays : (c : Core) (s r : ℕ) → IsCore c → is_used (c.entries s).state ≡ true → uses c s ≤ r → Stays c (with_refs_of c s r)
refs-stays c s r core used most disk backed = record {
  backed = touch-backed c disk s r (c.entries s).change (c.entries s).flags core backed (touch-step c s r (c.entries s).change (c.entries s).flags core used most) (λ e. e) refl;
  held = touch-held c disk s r (c.entries s).change (c.entries s).flags core (touch-step c s r (c.entries s).change (c.entries s).flags core used most);
}

pub refs-outside : (c : Core) (s r t : ℕ) → IsCore c → is_used (c.entries s).state ≡ true → uses c s ≤ r → outside (with_refs_of c s r) t + (c.entries t).refs ≡ outside c t + (put c.entries s (with_refs (c.entries s) r) t).refs
unfolding holders
refs-outside c s r t core used most =
    let all : outside (with_refs_of c s r) t + count_by (names t) (holders_in c.chunks (c.entries s) (place_of (c.entries s).state)) + (c.entries t).refs ≡ outside c t + count_by (names t) (holders_in c.chunks (c.entries s) (place_of (c.entries s).state)) + (put c.entries s (with_refs (c.entries s) r) t).refs =
    step-outside c s (with_refs (c.entries s) r) t core (touch-step c s r (c.entries s).change (c.entries s).flags core used most) in
    omega arith

pub refs-step : (c : Core) (s r : ℕ) → IsRefStep c (with_refs_of c s r)
refs-step c s r = record {
  bound = refl;
  chunks = refl;
  bodies = λ q. at-entry c.entries s (with_refs (c.entries s) r) (λ q e. (p : ℕ) → place_of (c.entries q).state ≡ Some p → e ≡ with_refs (c.entries q) e.refs) (λ p at. refl) (λ q away p at. refl) q;
  leaves = λ q. at-entry c.entries s (with_refs (c.entries s) r) (λ q e. place_of (c.entries q).state ≡ None → place_of e.state ≡ None) (λ e. e) (λ q away e. e) q;
}

-- one more
pub grip-outside : (c : Core) (s t : ℕ) → IsCore c → is_used (c.entries s).state ≡ true → outside (with_refs_of c s ((c.entries s).refs + 1)) t ≡ outside c t + one t s
grip-outside c s t core used =
    let all = refs-outside c s ((c.entries s).refs + 1) t core used (let most = core.counted s in omega arith) in
    let refs : (put c.entries s (with_refs (c.entries s) ((c.entries s).refs + 1)) t).refs ≡ (c.entries t).refs + one t s =
    at-entry c.entries s (with_refs (c.entries s) ((c.entries s).refs + 1)) (λ q e. e.refs ≡ (c.entries q).refs + one q s) (let here = one-here s (core.short s used) in omega arith) (λ q away. let none = one-other q s (λ e. away (sym e)) in omega arith) t in
    omega arith

-- one fewer
pub loosen-outside : (c : Core) (s t : ℕ) → IsCore c → is_used (c.entries s).state ≡ true → 1 ≤ outside c s → outside (with_refs_of c s ((c.entries s).refs - 1)) t + one t s ≡ outside c t
unfolding outside
loosen-outside c s t core used some =
    let all = refs-outside c s ((c.entries s).refs - 1) t core used (omega arith) in
    let refs : (put c.entries s (with_refs (c.entries s) ((c.entries s).refs - 1)) t).refs + one t s ≡ (c.entries t).refs =
    at-entry c.entries s (with_refs (c.entries s) ((c.entries s).refs - 1)) (λ q e. e.refs + one q s ≡ (c.entries q).refs) (let here = one-here s (core.short s used) in omega arith) (λ q away. let none = one-other q s (λ e. away (sym e)) in omega arith) t in
    let most = core.counted t in
    omega arith

-- ---- a leaf that comes, or goes

pub leaf-stays : (c : Core) (s n : ℕ) → IsCore c → IsSpare c s n → Stays c (with_leaf c s n)
leaf-stays c s n core spare disk backed = record { backed = leaf-backed c disk s n core backed spare; held = leaf-held c disk s n core spare }

pub leaf-step : (c : Core) (s n : ℕ) → IsSpare c s n → IsRefStep c (with_leaf c s n)
leaf-step c s n spare = record {
  bound = refl;
  chunks = refl;
  bodies = λ q. at-entry c.entries s (leaf_entry n) (λ q e. (p : ℕ) → place_of (c.entries q).state ≡ Some p → e ≡ with_refs (c.entries q) e.refs) (λ p at. let on = placed-used (c.entries s).state p at in let off = spare.unused in absurd (cc)) (λ q away p at. refl) q;
  leaves = λ q. at-entry c.entries s (leaf_entry n) (λ q e. place_of (c.entries q).state ≡ None → place_of e.state ≡ None) (λ e. refl) (λ q away e. e) q;
}

pub idle-stays : (c : Core) (s n : ℕ) → IsCore c → IsIdle c s n → Stays c (without_leaf c s n)
idle-stays c s n core idle disk backed = record { backed = idle-backed c disk s n core backed idle; held = idle-held c disk s n core idle }

pub idle-step : (c : Core) (s n : ℕ) → IsIdle c s n → IsRefStep c (without_leaf c s n)
idle-step c s n idle = record {
  bound = refl;
  chunks = refl;
  bodies = λ q. at-entry c.entries s free_entry (λ q e. (p : ℕ) → place_of (c.entries q).state ≡ Some p → e ≡ with_refs (c.entries q) e.refs) (λ p at. let off = idle.leaf in absurd (cc)) (λ q away p at. refl) q;
  leaves = λ q. at-entry c.entries s free_entry (λ q e. place_of (c.entries q).state ≡ None → place_of e.state ≡ None) (λ e. refl) (λ q away e. e) q;
}

pub leaf-used : (c : Core) (s n : ℕ) → IsSpare c s n → (q : ℕ) → is_used (c.entries q).state ≡ true → put c.entries s (leaf_entry n) q ≡ c.entries q
leaf-used c s n spare q on = put-there c.entries s (leaf_entry n) q (λ same. let off : is_used (c.entries q).state ≡ false = subst (λ (z : ℕ). is_used (c.entries z).state ≡ false) (sym same) spare.unused in absurd (cc))

-- what is held from outside is in use
pub outside-used : (c : Core) (s : ℕ) → IsCore c → 1 ≤ outside c s → is_used (c.entries s).state ≡ true
unfolding outside
outside-used c s core some = go (is_used (c.entries s).state) refl
  where
    go : (b : Bool) → is_used (c.entries s).state ≡ b → is_used (c.entries s).state ≡ true
    go true e = e
    go false e = let none = core.free s e in absurd (omega arith)

pub outside-most : (c : Core) (s : ℕ) → 1 ≤ outside c s → uses c s ≤ (c.entries s).refs - 1
unfolding outside
outside-most c s some = omega arith

pub outside-refs : (c : Core) (s : ℕ) → 1 ≤ outside c s → 1 ≤ (c.entries s).refs
unfolding outside
outside-refs c s some = omega arith

-- what is held from outside may be written into a body
pub outside-more : (c : Core) (s : ℕ) → IsCore c → 1 ≤ outside c s → uses c s + 1 ≤ (c.entries s).refs
unfolding outside
outside-more c s core some = let most = core.counted s in omega arith

-- only references of an entry change
pub refs-entry : (c : Core) (q r s : ℕ) → put c.entries q (with_refs (c.entries q) r) s ≡ with_refs (c.entries s) (put c.entries q (with_refs (c.entries q) r) s).refs
refs-entry c q r s = at-entry c.entries q (with_refs (c.entries q) r) (λ t e. e ≡ with_refs (c.entries t) e.refs) refl (λ t away. refl) s

-- ---- the mark of a change

mark-step : (c : Core) (s : ℕ) → IsCore c → is_used (c.entries s).state ≡ true → IsStep c s (marked_changed (c.entries s))
mark-step c s core used = touch-step c s (c.entries s).refs (c.entries s).change (marked_changed (c.entries s)).flags core used (core.counted s)

pub mark-core : (c : Core) (s : ℕ) → IsCore c → is_used (c.entries s).state ≡ true → IsCore (with_mark c s)
mark-core c s core used = step-core c s (marked_changed (c.entries s)) core (mark-step c s core used)

pub mark-stays : (c : Core) (s : ℕ) → IsCore c → is_used (c.entries s).state ≡ true → Stays c (with_mark c s)
mark-stays c s core used disk backed = record {
  backed = touch-backed c disk s (c.entries s).refs (c.entries s).change (marked_changed (c.entries s)).flags core backed (mark-step c s core used) (λ e. cc) refl;
  held = touch-held c disk s (c.entries s).refs (c.entries s).change (marked_changed (c.entries s)).flags core (mark-step c s core used);
}

pub mark-outside : (c : Core) (s t : ℕ) → IsCore c → is_used (c.entries s).state ≡ true → outside (with_mark c s) t ≡ outside c t
unfolding holders
mark-outside c s t core used =
    let all : outside (with_mark c s) t + count_by (names t) (holders_in c.chunks (c.entries s) (place_of (c.entries s).state)) + (c.entries t).refs ≡ outside c t + count_by (names t) (holders_in c.chunks (c.entries s) (place_of (c.entries s).state)) + (put c.entries s (marked_changed (c.entries s)) t).refs =
    step-outside c s (marked_changed (c.entries s)) t core (mark-step c s core used) in
    let refs : (put c.entries s (marked_changed (c.entries s)) t).refs ≡ (c.entries t).refs = at-entry c.entries s (marked_changed (c.entries s)) (λ q e. e.refs ≡ (c.entries q).refs) refl (λ q away. refl) t in
    omega arith

pub mark-names : (c : Core) (s t : ℕ) → (put c.entries s (marked_changed (c.entries s)) t).name ≡ (c.entries t).name
mark-names c s t = at-entry c.entries s (marked_changed (c.entries s)) (λ q e. e.name ≡ (c.entries q).name) refl (λ q away. refl) t

-- a name that has no entry after a leaf came had none before
pub leaf-grew : (c : Core) (s n m : ℕ) → put c.find n (Some s) m ≡ None → c.find n ≡ None → c.find m ≡ None
leaf-grew c s n m e absent = ⊎_elim (λ (h : m ≡ n). ap c.find h ∙ absent) (λ (h : m ≢ n). sym (put-there c.find n (Some s) m h) ∙ e) (cases_eq m n)

-- ---- what a step is about

-- one entry changes
pub entry-about : (c : Core) (s : ℕ) (e : Entry) → IsAbout s c (with_entry c s e)
entry-about c s e = record {
  bound = refl;
  chunks = λ q p away at. refl;
  bodies = λ q p away at. put-there c.entries s e q away ∙ ap (λ (x : Entry). with_refs (c.entries q) x.refs) (sym (put-there c.entries s e q away));
  leaves = λ q away at. ap (λ (x : Entry). place_of x.state) (put-there c.entries s e q away) ∙ at;
}

pub ref-about : (s : ℕ) (c d : Core) → IsRefStep c d → IsAbout s c d
ref-about s c d step = record { bound = step.bound; chunks = λ q p away at. ap (λ (f : ℕ → Chunk). f p) step.chunks; bodies = λ q p away at. step.bodies q p at; leaves = λ q away at. step.leaves q at }

pub About-refl : (s : ℕ) (c : Core) → IsAbout s c c
About-refl s c = record { bound = refl; chunks = λ q p away at. refl; bodies = λ q p away at. refl; leaves = λ q away e. e }

pub About-trans : (s : ℕ) (a b c : Core) → IsAbout s a b → IsAbout s b c → IsAbout s a c
About-trans s a b c x y = record {
  bound = y.bound ∙ x.bound;
  chunks = λ q p away at. y.chunks q p away (there q p away at) ∙ x.chunks q p away at;
  bodies = λ q p away at. y.bodies q p away (there q p away at) ∙ ap (λ (e : Entry). with_refs e (c.entries q).refs) (x.bodies q p away at);
  leaves = λ q away e. y.leaves q away (x.leaves q away e);
}
  where
    there : (q p : ℕ) → q ≢ s → place_of (a.entries q).state ≡ Some p → place_of (b.entries q).state ≡ Some p
    there q p away at = ap (λ (e : Entry). place_of e.state) (x.bodies q p away at) ∙ at

about-holders : (s : ℕ) (c d : Core) → IsAbout s c d → (q : ℕ) → q ≢ s → holders d q ≡ holders c q
unfolding holders
about-holders s c d about q away = go (place_of (c.entries q).state) refl
  where
    go : (o : Option ℕ) → place_of (c.entries q).state ≡ o → holders_in d.chunks (d.entries q) (place_of (d.entries q).state) ≡ holders_in c.chunks (c.entries q) o
    go None e = ap (λ o. holders_in d.chunks (d.entries q) o) (about.leaves q away e)
    go (Some p) e =
        ap (λ (x : Entry). holders_in d.chunks x (place_of x.state)) (about.bodies q p away e)
        ∙ ap (λ o. holders_in d.chunks (c.entries q) o) e
        ∙ ap (λ (x : Chunk). (c.entries q).class.0 ∷ pointers (c.entries q).kind x.words) (about.chunks q p away e)

pub about-uses : (s : ℕ) (c d : Core) (t : ℕ) → IsAbout s c d → s < c.bound → uses d t + count_by (names t) (holders c s) ≡ uses c t + count_by (names t) (holders d s)
unfolding uses
about-uses s c d t about low =
    let bound = ap (λ (n : ℕ). tally n (holders d) t) about.bound in
    let all = tally-put c.bound (holders c) (holders d) s t low (about-holders s c d about) in
    omega arith

-- the references of bodies are raised by the words that came and lowered by those that went
pub about-refs : (s : ℕ) (c d : Core) (t : ℕ) → IsCore c → IsCore d → IsAbout s c d → s < c.bound → outside d t ≡ outside c t → (d.entries t).refs + count_by (names t) (holders c s) ≡ (c.entries t).refs + count_by (names t) (holders d s)
unfolding outside
about-refs s c d t core now about low same =
    let all = about-uses s c d t about low in
    let most = core.counted t in
    let most' = now.counted t in
    omega arith

-- ---- changes of counts

-- an entry that keeps its change
pub entry-changes : (c : Core) (s : ℕ) (e : Entry) → e.change ≡ (c.entries s).change → (n : ℕ) → change_of (with_entry c s e) n ≡ change_of c n
entry-changes c s e same n = go (c.find n)
  where
    go : (o : Option ℕ) → change_by (put c.entries s e) o ≡ change_by c.entries o
    go None = refl
    go (Some q) = at-entry c.entries s e (λ t x. x.change ≡ (c.entries t).change) same (λ t away. refl) q

-- a new leaf has none
pub leaf-changes : (c : Core) (s n : ℕ) → IsCore c → IsSpare c s n → (m : ℕ) → change_of (with_leaf c s n) m ≡ change_of c m
leaf-changes c s n core spare m = ⊎_elim here there (cases_eq m n)
  where
    here : m ≡ n → change_of (with_leaf c s n) m ≡ change_of c m
    here e =
        ap (λ o. change_by (put c.entries s (leaf_entry n)) o) (ap (put c.find n (Some s)) e ∙ put-here c.find n (Some s)) ∙ ap (λ (x : Entry). x.change) (put-here c.entries s (leaf_entry n))
        ∙ ap (λ o. change_by c.entries o) (sym (ap c.find e ∙ spare.absent))

    there : m ≢ n → change_of (with_leaf c s n) m ≡ change_of c m
    there away = ap (λ o. change_by (put c.entries s (leaf_entry n)) o) (put-there c.find n (Some s) m away) ∙ go (c.find m) refl
      where
        go : (o : Option ℕ) → c.find m ≡ o → change_by (put c.entries s (leaf_entry n)) o ≡ change_by c.entries o
        go None e = refl
        go (Some q) e = ap (λ (x : Entry). x.change) (leaf-used c s n spare q (core.used m q e))
